use Rattle.prop_data.proofs.SyntaxSets.{sets_are_allowed}
use Rattle.prop_data.proofs.laws.allowed_sets.Goals as goal

pub returns : goal.returns
returns c = sets_are_allowed
