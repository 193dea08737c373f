use Rattle.cp_invlist.specs.CutLaws.{none_from_last}
use Rattle.cp_invlist.proofs.laws.members_are_below_the_last.Goals as goal

pub returns : goal.returns
returns c = none_from_last
