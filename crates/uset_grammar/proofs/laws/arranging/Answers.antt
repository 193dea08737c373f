use Rattle.uset_grammar.proofs.BodyMachine.{one_more}
use Rattle.uset_grammar.proofs.laws.arranging.Goals as goal

pub returns : goal.returns
returns c = one_more
