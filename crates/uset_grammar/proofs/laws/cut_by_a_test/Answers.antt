use Rattle.uset_grammar.proofs.FreeRests.{while_parts}
use Rattle.uset_grammar.proofs.laws.cut_by_a_test.Goals as goal

pub returns : goal.returns
returns c = while_parts
