use Rattle.uset_reader.specs.Syntaxes.{language_of}
use Rattle.uset_reader.proofs.SyntaxLemmas.{all_lawful}
use Rattle.uset_reader.proofs.laws.one_answer.Goals as goal

pub returns : goal.returns
returns c = λ tables allows variable source. c.one_answer.ensures (language_of variable tables) (all_lawful tables allows variable) source
