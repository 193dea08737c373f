use Rattle.cp_terms.proofs.BitLemmas.{has_bit-not}
use Rattle.cp_terms.proofs.word.complement.Goals as goal

pub returns : goal.returns
returns c = λ j h. has_bit-not c.args.word j c.ranges.word.fits h
