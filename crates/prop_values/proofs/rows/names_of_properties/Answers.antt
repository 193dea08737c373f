use Rattle.std.proofs.Common.{refl}
use Rattle.prop_values.proofs.rows.names_of_properties.Goals as goal

pub returns : goal.returns
returns c = refl
