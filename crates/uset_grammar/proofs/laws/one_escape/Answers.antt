use Rattle.uset_grammar.proofs.EscapeOutcome.{one_escape_law}
use Rattle.uset_grammar.proofs.laws.one_escape.Goals as goal

pub returns : goal.returns
returns c = one_escape_law
