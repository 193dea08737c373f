use Rattle.cp_invlist.proofs.RangesLemmas.{same_members-same_lists}
use Rattle.cp_invlist.proofs.laws.same_members.Goals as goal

pub returns : goal.returns
returns c = same_members-same_lists
