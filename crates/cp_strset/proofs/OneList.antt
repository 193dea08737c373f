-- A list of strings in order is told by which strings it holds.
use Rattle.std.proofs.Common.{◌≡◌, ℕ, zero, suc, ◌||◌, List, [], ◌∷◌, refl, sym, ap, ◌∙◌, arith, nat_cmp}
use Rattle.std.proofs.lemmas.Cmp.{nat_list_cmp_total}
use Rattle.std.proofs.lemmas.List.Elements.{recursion_from_All}
use Rattle.std.proofs.lemmas.Map.Lookups.{btree_set_from_contains}
use Rattle.std.proofs.lemmas.Map.Text.{is_eq-slice_cmp}
use Rattle.std.proofs.lemmas.Slice.Eq.{bytes_eq-Decides}
use Rattle.std.specs.declared.cmp.Ordering.TheVariants.{Equal}
use Rattle.std.specs.BTreeSet.{BTreeSet, contains}
use Rattle.std.specs.Cmp.Lexicographic.{slice_cmp, nat_list_eq_equiv}
use Rattle.std.specs.List.{AllPairs}
use Rattle.std.specs.List.Sorted.{IsStrictlySortedBy}
use Rattle.std.specs.Ordering.{is_eq}
use Rattle.std.specs.Str.{bytes_eq}
use Rattle.cp_strset.specs.Laws.{OneListOfStrings}
use Rattle.cp_strset.specs.StringList.{holds}
use Rattle.cp_strset.specs.OrderLaws.{IsBelow}

sorted_strings : (ss : List (List ℕ)) → AllPairs IsBelow ss → IsStrictlySortedBy (slice_cmp nat_cmp) ss
unfolding IsStrictlySortedBy
sorted_strings [] h = tt
sorted_strings (s ∷ ss) h = (
  recursion_from_All (IsBelow s) ss (λ k d below. h zero (suc k) d (omega arith) (omega (arith, below))),
  sorted_strings ss (λ i j d below within. h (suc i) (suc j) d (omega (arith, below)) (omega (arith, within))),
)

abbrev as_set : List (List ℕ) → BTreeSet (List ℕ)
as_set ss = record { keys = ss }

contains_holds : (ss : List (List ℕ)) (bytes : List ℕ) → contains (slice_cmp nat_cmp) (as_set ss) bytes ≡ holds ss bytes
contains_holds [] bytes = refl
contains_holds (s ∷ ss) bytes =
    ap (λ b. b || contains (slice_cmp nat_cmp) (as_set ss) bytes) (is_eq-slice_cmp bytes s ∙ nat_list_eq_equiv.symm bytes s)
    ∙ ap (λ b. bytes_eq s bytes || b) (contains_holds ss bytes)

same_where_equal : (a b : List ℕ) → slice_cmp nat_cmp a b ≡ Equal → a ≡ b
same_where_equal a b h = (bytes_eq-Decides a b).0 (sym (is_eq-slice_cmp a b) ∙ ap is_eq h)

pub one_list_law : OneListOfStrings
one_list_law a b first second same =
    btree_set_from_contains nat_list_cmp_total (as_set a) (as_set b) (sorted_strings a first.ascending) (sorted_strings b second.ascending)
    (λ bytes. contains_holds a bytes ∙ (same bytes ∙ sym (contains_holds b bytes))) same_where_equal
