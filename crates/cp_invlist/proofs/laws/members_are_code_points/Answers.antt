use Rattle.cp_invlist.proofs.Members.{members_within}
use Rattle.cp_invlist.proofs.laws.members_are_code_points.Goals as goal

pub returns : goal.returns
returns c = members_within
