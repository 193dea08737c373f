use Rattle.prop_data.proofs.BoundedSets.{sets_are_bounded}
use Rattle.prop_data.proofs.laws.bounded_sets.Goals as goal

pub returns : goal.returns
returns c = sets_are_bounded
