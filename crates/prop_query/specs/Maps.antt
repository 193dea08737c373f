-- What is asked of a map from code points to values.
use Rattle.std.specs.Prelude.{ℕ, Bool, not, ◌&&◌, Option, option_map, option_and_then}
use Rattle.cp_invlist.specs.InversionList.{is_code_point}
use Rattle.cp_trie.specs.Map.{CodePointMap, value_at}
use Rattle.prop_values.specs.Groups.{has}
use Rattle.prop_values.specs.declared.category.GeneralCategory.{GeneralCategory}

-- the number is a code point, and its value is not equal to this one by the test
abbrev pub lacks_value : {V : Type 0} → (V → V → Bool) → CodePointMap V → V → ℕ → Bool
lacks_value eq m v c = is_code_point c && not (eq (value_at m c) v)

-- the number is a code point, and its general category is in the group
abbrev pub is_in_group : CodePointMap GeneralCategory → ℕ → ℕ → Bool
is_in_group m group c = is_code_point c && has group (value_at m c)

-- the value that the number at a code point unpacks to, in a map that may be absent
abbrev pub unpacked_at : {V : Type 0} → (ℕ → Option V) → Option (CodePointMap ℕ) → ℕ → Option V
unpacked_at unpacked numbers c = option_and_then unpacked (option_map (λ m. value_at m c) numbers)
