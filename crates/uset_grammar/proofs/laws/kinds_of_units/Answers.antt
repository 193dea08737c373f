use Rattle.uset_grammar.proofs.UnitOutcome.{units_of_kinds}
use Rattle.uset_grammar.proofs.laws.kinds_of_units.Goals as goal

pub returns : goal.returns
returns c = units_of_kinds
