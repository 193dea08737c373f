use Rattle.uset_grammar.proofs.FreeRests.{free_rest_law}
use Rattle.uset_grammar.proofs.laws.free_rest.Goals as goal

pub returns : goal.returns
returns c = free_rest_law
