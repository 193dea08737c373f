use Rattle.std.proofs.Common.{refl}
use Rattle.prop_values.proofs.group.GeneralCategoryGroup.names.Goals as goal

pub returns : goal.returns
returns c = refl
