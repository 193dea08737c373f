use Rattle.std.proofs.Common.{refl}
use Rattle.prop_values.proofs.rows.groups.Goals as goal

pub returns : goal.returns
returns c = record { long = refl; short = refl }
