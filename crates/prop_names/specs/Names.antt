-- Names with the numbers of values (UAX 44, section 5.8.2, property value aliases), in the order of the names' bytes.
use Rattle.std.specs.Prelude.{◌≡◌, ℕ, Bool, true, ◌&&◌, List, [], ◌∷◌, Option, Some}
use Rattle.std.specs.Cmp.Lexicographic.{slice_cmp}
use Rattle.std.specs.Map.{lookup}
use Rattle.std.specs.Ordering.{nat_cmp, is_lt}
use Rattle.std.specs.BTreeMap.{insert_entry}
use Rattle.std.specs.Str.{bytes_eq}
use Rattle.prop_names.specs.Folding.{stored_folding, query_folding}

abbrev pub Names : Type 0
Names = List (List ℕ × ℕ)

-- the value of the name
abbrev pub value_of_name : Names → List ℕ → Option ℕ
value_of_name names name = lookup (bytes_eq name) names

-- the value of the least name with this folding
abbrev pub value_of_folding : Names → List ℕ → Option ℕ
value_of_folding names folding = lookup (λ name. bytes_eq folding (stored_folding name)) names

-- the value of the least name that folds as the query
abbrev pub value_of_query : Names → List ℕ → Option ℕ
value_of_query names query = value_of_folding names (query_folding query)

-- Names with the same folding have the same value: the value of a name is that of its folding.
abbrev pub FoldingsAgree : Names → Type 0
FoldingsAgree names =
    (name : List ℕ) (value : ℕ) → value_of_name names name ≡ Some value →
    value_of_folding names (stored_folding name) ≡ Some value

-- the foldings of names with their values, where names with the same folding have the same value
pub record AreFoldings (names foldings : Names) : Type 0 where
  pub found : (folding : List ℕ) → value_of_name foldings folding ≡ value_of_folding names folding
  pub agree : FoldingsAgree names

-- the names with one more in its place, or with its value
abbrev pub with_name : Names → List ℕ → ℕ → Names
with_name names name value = insert_entry (slice_cmp nat_cmp) names name value

abbrev pub all_above : List ℕ → Names → Bool
all_above name [] = true
all_above name (n ∷ names) = is_lt (slice_cmp nat_cmp name n.0) && all_above name names

-- each name is below those behind it
abbrev pub ascend : Names → Bool
ascend [] = true
ascend (n ∷ names) = all_above n.0 names && ascend names
