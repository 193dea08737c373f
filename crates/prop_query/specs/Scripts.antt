-- The script and the script extensions of a code point (UAX 24, section 2.8), by the number that the table of scripts has at it. The kind
-- of a number stands above its low ten bits: 1 for Common, 2 for Inherited and 3 for another script, each with the list at the index in
-- the low ten bits. A number of another kind is a script alone. A database that was read has each list that a number needs.
use Rattle.std.specs.Prelude.{◌≡◌, ℕ, Bool, nat_eq, ◌==◌, ◌||◌, ◌%◌, if◌then◌else◌, List, [], ◌∷◌, Option, None, Some}
use Rattle.std.specs.List.{list_any}
use Rattle.cp_invlist.specs.InversionList.{is_code_point}
use Rattle.cp_trie.specs.Map.{value_at}
use Rattle.prop_values.specs.ScriptWithExt.{kind_of}
use Rattle.prop_values.specs.Tables.{unknown_script}
use Rattle.prop_data.specs.Extensions.{list_of, scripts_map}
use Rattle.prop_data.specs.Tables.{ExtensionList}
use Rattle.prop_data.specs.declared.scripts.ScriptWithExtensionsProperty.{ScriptWithExtensionsProperty}

-- the scripts of a list: none where there is no list
abbrev pub scripts_listed : Option ExtensionList → List ℕ
scripts_listed None = []
scripts_listed (Some list) = list.scripts

-- the first script, and Unknown where there is none
abbrev pub first_script : List ℕ → ℕ
first_script [] = unknown_script
first_script (s ∷ ss) = s

-- the scripts behind the first
abbrev pub others : List ℕ → List ℕ
others [] = []
others (s ∷ ss) = ss

-- the script that a number stands for: Common is 0 and Inherited is 1
abbrev pub script_of_number : (ℕ → Option ExtensionList) → ℕ → ℕ
script_of_number lists v =
    if kind_of v == 1 then 0
    else if kind_of v == 2 then 1
    else if kind_of v == 3 then first_script (scripts_listed (lists (v % 1024)))
    else v

-- the script extensions that a number stands for
abbrev pub extensions_of_number : (ℕ → Option ExtensionList) → ℕ → List ℕ
extensions_of_number lists v =
    if kind_of v == 1 || kind_of v == 2 then scripts_listed (lists (v % 1024))
    else if kind_of v == 3 then others (scripts_listed (lists (v % 1024)))
    else v ∷ []

-- the script of a code point, and Unknown past 10FFFF
abbrev pub script_of : ScriptWithExtensionsProperty → ℕ → ℕ
script_of table c = if is_code_point c then script_of_number (list_of table) (value_at (scripts_map table) c) else unknown_script

-- the script extensions of a code point, and none past 10FFFF
abbrev pub extensions_of : ScriptWithExtensionsProperty → ℕ → List ℕ
extensions_of table c =
    if is_code_point c then extensions_of_number (list_of table) (value_at (scripts_map table) c) else []

-- the script is one of those
abbrev pub is_among : List ℕ → ℕ → Bool
is_among scripts script = list_any (λ s. nat_eq s script) scripts

-- the script is among the script extensions of the code point
abbrev pub has_script : ScriptWithExtensionsProperty → ℕ → ℕ → Bool
has_script table script c = is_among (extensions_of table c) script

-- the script is among the script extensions that the number stands for
abbrev pub number_has : ScriptWithExtensionsProperty → ℕ → ℕ → Bool
number_has table script v = is_among (extensions_of_number (list_of table) v) script

-- two tables have the same numbers and lists, and so answer alike
pub record AnswersAs (copy table : ScriptWithExtensionsProperty) : Type 0 where
  pub numbers : (c : ℕ) → value_at (scripts_map copy) c ≡ value_at (scripts_map table) c
  pub lists : (n : ℕ) → list_of copy n ≡ list_of table n
