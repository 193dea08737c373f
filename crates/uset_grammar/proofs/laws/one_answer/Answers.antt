use Rattle.uset_grammar.proofs.OneAnswer.{one_answer_law}
use Rattle.uset_grammar.proofs.laws.one_answer.Goals as goal

pub returns : goal.returns
returns c = one_answer_law
