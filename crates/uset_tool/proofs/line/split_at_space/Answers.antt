use Rattle.std.proofs.Common.{lit<}
use Rattle.std.proofs.lemmas.Str.Pattern.{split_parts}
use Rattle.uset_tool.proofs.LineLemmas.{at_space_cut}
use Rattle.uset_tool.proofs.line.split_at_space.Goals as goal

pub returns : goal.returns
returns c = at_space_cut c.args.text.now c.split_once.result (split_parts 32 c.args.text.now c.split_once.result c.split_once.ensures.cases (lit< tt))
