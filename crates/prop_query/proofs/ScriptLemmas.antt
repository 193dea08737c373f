-- Code points that have a script, and ranges that cover them.
use Rattle.std.proofs.Common.{◌≡◌, ℕ, Bool, true, false, ◌&&◌, if◌then◌else◌, List, [], refl}
use Rattle.cp_invlist.specs.InversionList.{is_code_point}
use Rattle.cp_trie.specs.Map.{value_at}
use Rattle.prop_data.specs.Extensions.{list_of, scripts_map}
use Rattle.prop_data.specs.declared.scripts.ScriptWithExtensionsProperty.{ScriptWithExtensionsProperty}
use Rattle.prop_query.proofs.PassingLemmas.{members}
use Rattle.prop_query.specs.Scripts.{extensions_of_number, is_among, has_script, number_has}

if_among : (b : Bool) (scripts : List ℕ) (script : ℕ) → (b && is_among scripts script) ≡ is_among (if b then scripts else []) script
if_among true scripts script = refl
if_among false scripts script = refl

-- the code points that have a script are those whose numbers have it
pub members-has_script : (table : ScriptWithExtensionsProperty) (script c : ℕ) → members (number_has table script) (value_at (scripts_map table)) c ≡ has_script table script c
members-has_script table script c = if_among (is_code_point c) (extensions_of_number (list_of table) (value_at (scripts_map table) c)) script
