-- Resolution, computed over a few small tables.
use Rattle.std.proofs.Common.{◌≡◌, ℕ, Bool, true, false, ◌&&◌, ◌||◌, ◌==◌, nat_le, List, [], ◌∷◌, codes, Option, Some, None, option_map, cond, refl}
use Rattle.cp_invlist.specs.InversionList.{differ}
use Rattle.prop_binary.specs.Tables.{properties}
use Rattle.prop_names.specs.Names.{Names}
use Rattle.prop_data.specs.Tables.{Tables}
use Rattle.uset_grammar.specs.Language.{Resolved}
use Rattle.uset_resolve.specs.Decimal.{decimal}
use Rattle.uset_resolve.specs.Resolution.{group_bits, resolve_bytes, lacking_bytes}

abbrev within : ℕ → ℕ → ℕ → Bool
within first last c = nat_le first c && nat_le c last

abbrev hexadecimal : ℕ → Bool
hexadecimal c = within 0x30 0x39 c || (within 0x41 0x46 c || within 0x61 0x66 c)

abbrev category_numbers : ℕ → ℕ
category_numbers c =
    cond (within 0x30 0x39 c) 9 (cond (within 0x41 0x5A c) 1 (cond (within 0x61 0x7A c) 2 (cond (within 0xD800 0xDFFF c) 18 0)))

abbrev script_numbers : ℕ → ℕ
script_numbers c =
    cond (within 0x41 0x5A c || within 0x61 0x7A c) 25
    (cond (within 0x3041 0x3096 c) 20 (cond (within 0x30A1 0x30FA c) 22 (cond (c == 0x30FC) 0 103)))

abbrev extension_numbers : ℕ → ℕ
extension_numbers c = cond (c == 0x30FC) 1024 (script_numbers c)

abbrev class_numbers : ℕ → ℕ
class_numbers c = cond (within 0x300 0x314 c) 230 0

abbrev group_names : Names
group_names =
    (codes "Decimal_Number", 9) ∷ (codes "L", 65534) ∷ (codes "Letter", 65534) ∷ (codes "Ll", 2)
    ∷ (codes "Lowercase_Letter", 2) ∷ (codes "Lu", 1) ∷ (codes "Nd", 9) ∷ (codes "Uppercase_Letter", 1) ∷ []

abbrev script_names : Names
script_names =
    (codes "Common", 0) ∷ (codes "Hira", 20) ∷ (codes "Hiragana", 20) ∷ (codes "Kana", 22) ∷ (codes "Katakana", 22)
    ∷ (codes "Latin", 25) ∷ (codes "Latn", 25) ∷ (codes "Zyyy", 0) ∷ []

abbrev class_names : Names
class_names = (codes "A", 230) ∷ (codes "Above", 230) ∷ []

abbrev sample : Tables
sample = record {
  sets = λ t. cond (t == 0) (Some hexadecimal) None;
  maps = λ t. cond (t == 3) (Some category_numbers) (cond (t == 4) (Some script_numbers) (cond (t == 11) (Some class_numbers) None));
  names = λ t. cond (t == 17) (Some group_names) (cond (t == 4) (Some script_names) (cond (t == 11) (Some class_names) None));
  long = λ t. None;
  short = λ t. None;
  emoji = λ t. None;
  scripts = Some (record { values = extension_numbers; named = [] });
  extensions = λ n. cond (n == 0) (Some (record { has_script = false; scripts = 20 ∷ 22 ∷ [] })) None;
}

-- whether the code point has the property, where that resolves
abbrev has_it : Option Resolved → ℕ → Option Bool
has_it r c = option_map (λ q. differ q.falsy (q.source c)) r

abbrev alone : List ℕ → ℕ → Option Bool
alone key c = has_it (resolve_bytes sample key None) c

abbrev with : List ℕ → List ℕ → ℕ → Option Bool
with key value c = has_it (resolve_bytes sample key (Some value)) c

-- a group, also by a name that is written otherwise; each of its letters is told apart from a category
lower_case_letters : alone (codes "lowercaseletter") 0x61 ≡ Some true
unfolding group_bits
lower_case_letters = refl

no_capital_is_lower_case : with (codes "gc") (codes "lower-case-letter") 0x41 ≡ Some false
unfolding group_bits
no_capital_is_lower_case = refl

letters_are_a_union : alone (codes "L") 0x41 ≡ Some true
unfolding group_bits
letters_are_a_union = refl

digits_are_no_letters : alone (codes "L") 0x30 ≡ Some false
unfolding group_bits
digits_are_no_letters = refl

nothing_past_the_last : alone (codes "L") 0x110041 ≡ Some false
unfolding group_bits
nothing_past_the_last = refl

-- a script, and a script among the extensions
a_script : alone (codes "latn") 0x61 ≡ Some true
a_script = refl

not_by_its_script : with (codes "sc") (codes "Hira") 0x30FC ≡ Some false
not_by_its_script = refl

by_its_extensions : with (codes "Script_Extensions") (codes "Hira") 0x30FC ≡ Some true
by_its_extensions = refl

not_in_the_list : with (codes "scx") (codes "Latn") 0x30FC ≡ Some false
not_in_the_list = refl

-- a binary property, byte for byte, alone and with a word
a_binary_property : alone (codes "AHex") 0x46 ≡ Some true
unfolding properties
a_binary_property = refl

not_loosely : alone (codes "ahex") 0x46 ≡ None
unfolding properties
not_loosely = refl

true_by_a_word : with (codes "AHex") (codes "True") 0x46 ≡ Some true
unfolding properties
true_by_a_word = refl

false_by_a_word : with (codes "ASCII_Hex_Digit") (codes "n") 0x46 ≡ Some false
unfolding properties
false_by_a_word = refl

no_word : with (codes "AHex") (codes "2") 0x46 ≡ None
unfolding properties
no_word = refl

no_group_by_a_word : with (codes "ll") (codes "true") 0x61 ≡ None
unfolding properties
no_group_by_a_word = refl

no_property_is_a_value : alone (codes "general_category") 0x61 ≡ None
unfolding properties
no_property_is_a_value = refl

-- classes by their names and by decimal numbers
class_by_its_name : with (codes "ccc") (codes "above") 0x300 ≡ Some true
class_by_its_name = refl

class_by_a_number : with (codes "ccc") (codes "+230") 0x314 ≡ Some true
unfolding decimal
class_by_a_number = refl

class_without_members : with (codes "ccc") (codes "0230") 0x315 ≡ Some false
unfolding decimal
class_without_members = refl

a_class_too_large : with (codes "ccc") (codes "256") 0x300 ≡ None
unfolding decimal
a_class_too_large = refl

no_sign_alone : with (codes "ccc") (codes "+") 0x300 ≡ None
unfolding decimal
no_sign_alone = refl

one_sign : with (codes "ccc") (codes "++230") 0x300 ≡ None
unfolding decimal
one_sign = refl

no_minus : with (codes "ccc") (codes "-230") 0x300 ≡ None
unfolding decimal
no_minus = refl

-- blocks lack a table where their names are absent, or their map behind a block that was found
abbrev named_blocks : Tables
named_blocks = record sample { names = λ t. cond (t == 1) (Some ((codes "ASCII", 1) ∷ [])) None }

names_of_blocks_are_absent : lacking_bytes sample (codes "Blk") (Some (codes "x")) ≡ true
names_of_blocks_are_absent = refl

the_map_is_absent : lacking_bytes named_blocks (codes "block") (Some (codes "ascii")) ≡ true
the_map_is_absent = refl

the_map_is_absent_for_a_number : lacking_bytes named_blocks (codes "block") (Some (codes "65535")) ≡ true
unfolding decimal
the_map_is_absent_for_a_number = refl

an_unknown_block_lacks_nothing : lacking_bytes named_blocks (codes "block") (Some (codes "65536")) ≡ false
unfolding decimal
an_unknown_block_lacks_nothing = refl

without_a_value_nothing_lacks : lacking_bytes sample (codes "blk") None ≡ false
without_a_value_nothing_lacks = refl

a_block_is_not_resolved : with (codes "blk") (codes "ASCII") 0x41 ≡ None
unfolding decimal
a_block_is_not_resolved = refl

no_other_property_lacks : lacking_bytes sample (codes "lb") (Some (codes "x")) ≡ false
no_other_property_lacks = refl
