use Rattle.cp_terms.proofs.BitLemmas.{has_bit-before, has_bit-first}
use Rattle.cp_terms.proofs.word.first_bit.Goals as goal

pub returns-clause-before : goal.returns-clause-before
returns-clause-before c = λ j lt. has_bit-before c.args.word j c.requires c.ranges.word.fits lt

pub returns-clause-there : goal.returns-clause-there
returns-clause-there c = has_bit-first c.args.word c.requires c.ranges.word.fits
