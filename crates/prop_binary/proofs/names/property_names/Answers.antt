use Rattle.std.proofs.Common.{refl}
use Rattle.prop_binary.specs.Tables.{properties}
use Rattle.prop_binary.proofs.TableLemmas.{same_properties-path}
use Rattle.prop_binary.proofs.names.property_names.Goals as goal

pub returns : goal.returns
unfolding properties
returns c = same_properties-path _ _ refl
