use Rattle.cp_terms.proofs.BitLemmas.{has_bit-or, has_bit-and, has_bit-and_not}
use Rattle.cp_terms.proofs.step.SetOperation.combine_words.Goals as goal

pub returns-in-Union : goal.returns-in-Union
returns-in-Union c = λ j h. rw c.in-Union.is (has_bit-or c.args.lower c.args.upper j)

pub returns-in-Difference : goal.returns-in-Difference
returns-in-Difference c = λ j h. rw c.in-Difference.is (has_bit-and_not c.args.lower c.args.upper j c.ranges.upper.fits h)

pub returns-in-Intersection : goal.returns-in-Intersection
returns-in-Intersection c = λ j h. rw c.in-Intersection.is (has_bit-and c.args.lower c.args.upper j)

pub returns-in-ReverseDifference : goal.returns-in-ReverseDifference
returns-in-ReverseDifference c = λ j h. rw c.in-ReverseDifference.is (has_bit-and_not c.args.upper c.args.lower j c.ranges.lower.fits h)
