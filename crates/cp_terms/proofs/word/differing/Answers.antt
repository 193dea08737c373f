use Rattle.cp_terms.proofs.BitLemmas.{has_bit-xor}
use Rattle.cp_terms.proofs.word.differing.Goals as goal

pub returns : goal.returns
returns c = λ j h. has_bit-xor c.args.word c.args.other j
