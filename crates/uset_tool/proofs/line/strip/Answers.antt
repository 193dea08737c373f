use Rattle.uset_tool.proofs.LineLemmas.{strip_cut}
use Rattle.uset_tool.proofs.line.strip.Goals as goal

pub returns : goal.returns
returns c = strip_cut c.args.text.now c.args.line.now c.strip_prefix.result c.strip_prefix.ensures.cases
