-- A map from code points to values, with one value past the end.
use Rattle.std.specs.Prelude.{ℕ, Bool, ◌&&◌, List}
use Rattle.cp_invlist.specs.InversionList.{is_code_point}
use Rattle.cp_trie.specs.Runs.{value_in}
use Rattle.cp_trie.specs.declared.ranges.CodePointMapRange.{CodePointMapRange}

-- A map as its maximal runs in order, however it is kept, and the value past the end. So maps with the same values are the same.
pub record CodePointMap (V : Type 0) : Type 0 where
  pub runs : List (CodePointMapRange V)
  pub error_value : V

-- the value at a number: past 10FFFF it is the error value
abbrev pub value_at : {V : Type 0} → CodePointMap V → ℕ → V
value_at m c = value_in m.runs m.error_value c

-- the number is a code point, and its value passes the test
abbrev pub passes_at : {V : Type 0} → (V → Bool) → CodePointMap V → ℕ → Bool
passes_at test m c = is_code_point c && test (value_at m c)

-- the number is a code point, and its value is equal to this one by the test
abbrev pub has_value : {V : Type 0} → (V → V → Bool) → CodePointMap V → V → ℕ → Bool
has_value eq m v c = is_code_point c && eq (value_at m c) v
