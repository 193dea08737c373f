use Rattle.cp_invlist.proofs.RangesLemmas.{AreRangesFrom-unique}
use Rattle.cp_invlist.proofs.laws.one_list_of_ranges.Goals as goal

pub returns : goal.returns
returns c = λ m rs qs. AreRangesFrom-unique m 0 rs qs
