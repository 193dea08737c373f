use Rattle.uset_grammar.proofs.UnitOutcome.{one_unit_law}
use Rattle.uset_grammar.proofs.laws.one_unit.Goals as goal

pub returns : goal.returns
returns c = λ white_space apart both resolves lacks q begins. one_unit_law white_space apart both resolves lacks q q begins
