-- A binary search among names in order.
use Rattle.std.proofs.Common.{◌≡◌, ℕ, zero, suc, ◌+◌, ◌<◌, true, false, Some, None, Err, List, [], ◌∷◌, length, get_or, refl, sym, ap, ◌∙◌, arith, nat_cmp, inl, inr}
use Rattle.std.specs.declared.cmp.Ordering.{Ordering}
use Rattle.std.specs.declared.cmp.Ordering.TheVariants.{Less, Equal, Greater}
use Rattle.std.specs.Cmp.Lexicographic.{slice_cmp}
use Rattle.std.specs.List.Sorted.{IsBinarySearchResult, IsNonDecreasingBy}
use Rattle.std.specs.Map.{lookup}
use Rattle.std.specs.Ordering.{is_eq, is_lt, ordering_index, ordering_reverse}
use Rattle.std.specs.Str.{bytes_eq}
use Rattle.std.specs.String.{string_bytes}
use Rattle.std.specs.declared.string.String.{String}
use Rattle.std.specs.Global.{Global}
use Rattle.std.proofs.lemmas.Bool.{and_parts, cases_lt}
use Rattle.std.proofs.lemmas.Cmp.{nat_list_cmp_total, alike_right}
use Rattle.std.proofs.lemmas.Map.Entries.{lookup_head, lookup_tail}
use Rattle.std.proofs.lemmas.Map.Text.{is_eq-slice_cmp}
use Rattle.std.proofs.lemmas.List.Sorted.{searchable_from_sorted}
use Rattle.prop_names.specs.Names.{all_above, ascend}
use Rattle.prop_names.specs.Texts.{text_of, texts}

-- the bytes of the name at a place
abbrev name_at : List (String Global × ℕ) → ℕ → String Global × ℕ → List ℕ
name_at rows k d = string_bytes (get_or rows k d).0

less : (o : Ordering) → is_lt o ≡ true → o ≡ Less
less Less h = refl
less Equal h = cc
less Greater h = cc

-- a name below all others is below each of them
below_each : (name : List ℕ) (rows : List (String Global × ℕ)) (k : ℕ) (d : String Global × ℕ) → all_above name (texts rows) ≡ true → k < length rows → slice_cmp nat_cmp name (name_at rows k d) ≡ Less
below_each name [] k d h short = absurd (omega arith)
below_each name (r ∷ rows) zero d h short = less _ (and_parts (is_lt (slice_cmp nat_cmp name (string_bytes r.0))) (all_above name (texts rows)) h).0
below_each name (r ∷ rows) (suc k) d h short =
    below_each name rows k d (and_parts (is_lt (slice_cmp nat_cmp name (string_bytes r.0))) (all_above name (texts rows)) h).1 (omega arith)

-- of two names the first is below the second
in_order : (rows : List (String Global × ℕ)) (i j : ℕ) (d : String Global × ℕ) → ascend (texts rows) ≡ true → i < j → j < length rows → slice_cmp nat_cmp (name_at rows i d) (name_at rows j d) ≡ Less
in_order [] i j d h lt short = absurd (omega arith)
in_order (r ∷ rows) i zero d h lt short = absurd (omega arith)
in_order (r ∷ rows) zero (suc j) d h lt short =
    below_each (string_bytes r.0) rows j d (and_parts (all_above (string_bytes r.0) (texts rows)) (ascend (texts rows)) h).0 (omega arith)
in_order (r ∷ rows) (suc i) (suc j) d h lt short =
    in_order rows i j d (and_parts (all_above (string_bytes r.0) (texts rows)) (ascend (texts rows)) h).1 (omega arith) (omega arith)

rise : (rows : List (String Global × ℕ)) (s : List ℕ) → ascend (texts rows) ≡ true → IsNonDecreasingBy (λ (y : String Global × ℕ). ordering_index (slice_cmp nat_cmp (string_bytes y.0) s)) rows
rise rows s h = searchable_from_sorted nat_list_cmp_total (λ y. string_bytes y.0) rows s (λ k d from within.
    ap is_lt (nat_list_cmp_total.antisymm (name_at rows (k + 1) d) (name_at rows k d) ∙ ap ordering_reverse (in_order rows k (k + 1) d h (omega arith) within)))

-- whether a name is the one sought, by how they compare
is_name : (s t : List ℕ) (o : Ordering) → slice_cmp nat_cmp t s ≡ o → bytes_eq s t ≡ is_eq o
is_name s t o h = sym (is_eq-slice_cmp s t) ∙ (ap is_eq (nat_list_cmp_total.antisymm s t ∙ ap ordering_reverse h) ∙ both_ways o)
  where
    both_ways : (o : Ordering) → is_eq (ordering_reverse o) ≡ is_eq o
    both_ways Less = refl
    both_ways Equal = refl
    both_ways Greater = refl

-- the value of the name at a place
pub found : (rows : List (String Global × ℕ)) (s : List ℕ) (k : ℕ) (d : String Global × ℕ) → ascend (texts rows) ≡ true → k < length rows → slice_cmp nat_cmp (name_at rows k d) s ≡ Equal → lookup (bytes_eq s) (texts rows) ≡ Some (get_or rows k d).1
found [] s k d h short equal = absurd (omega arith)
found (r ∷ rows) s zero d h short equal = lookup_head (bytes_eq s) (text_of r) (texts rows) (is_name s (string_bytes r.0) Equal equal)
found (r ∷ rows) s (suc k) d h short equal =
    let below = in_order (r ∷ rows) zero (suc k) d h (omega arith) short in
    let first : slice_cmp nat_cmp (string_bytes r.0) s ≡ Less = sym (alike_right nat_list_cmp_total (name_at rows k d) s (string_bytes r.0) equal) ∙ below in
    lookup_tail (bytes_eq s) (text_of r) (texts rows) (is_name s (string_bytes r.0) Less first)
    ∙ found rows s k d (and_parts (all_above (string_bytes r.0) (texts rows)) (ascend (texts rows)) h).1 (omega arith) equal

-- no name is the one sought
none_is : (rows : List (String Global × ℕ)) (s : List ℕ) → ((k : ℕ) (d : String Global × ℕ) → k < length rows → bytes_eq s (name_at rows k d) ≡ false) → lookup (bytes_eq s) (texts rows) ≡ None
none_is [] s h = refl
none_is (r ∷ rows) s h = lookup_tail (bytes_eq s) (text_of r) (texts rows) (h 0 r (omega arith)) ∙ none_is rows s (λ k d short. h (suc k) d (omega arith))

pub missed : (rows : List (String Global × ℕ)) (s : List ℕ) (i : ℕ) → ascend (texts rows) ≡ true → IsBinarySearchResult (λ (y : String Global × ℕ). slice_cmp nat_cmp (string_bytes y.0) s) rows (Err i) → lookup (bytes_eq s) (texts rows) ≡ None
missed rows s i h result =
    let cut = result (rise rows s h) in
    none_is rows s (λ k d short. elim (cases_lt k i) [
      | inl before ↦ is_name s (name_at rows k d) Less (cut.0 k d (omega arith) before)
      | inr behind ↦ is_name s (name_at rows k d) Greater (cut.1 k d behind short)
    ])
