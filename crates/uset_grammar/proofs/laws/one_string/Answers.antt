use Rattle.uset_grammar.proofs.StringOutcome.{one_string_law}
use Rattle.uset_grammar.proofs.laws.one_string.Goals as goal

pub returns : goal.returns
returns c = one_string_law
