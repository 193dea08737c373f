use Rattle.std.proofs.Common.{refl}
use Rattle.prop_binary.specs.Tables.{properties}
use Rattle.prop_binary.proofs.TableLemmas.{same_names-path}
use Rattle.prop_binary.proofs.laws.names_from_ascii_hex_digit.Goals as goal

pub returns : goal.returns
unfolding properties
returns c = same_names-path _ _ refl
