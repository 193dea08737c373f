-- What follows of texts that stand in the order of their bytes.
use Rattle.std.proofs.Common.{◌≡◌, ◌+◌, ℕ, List, [], map, get_or, sym, ap, ◌∙◌, arith, nat_cmp}
use Rattle.std.proofs.lemmas.Cmp.{nat_list_cmp_total}
use Rattle.std.proofs.lemmas.List.{get_or-map, length-map}
use Rattle.std.proofs.lemmas.List.Sorted.{searchable_from_sorted}
use Rattle.std.specs.declared.cmp.Ordering.TheVariants.{Less}
use Rattle.std.specs.Cmp.Lexicographic.{slice_cmp}
use Rattle.std.specs.List.{AllPairs}
use Rattle.std.specs.List.Sorted.{IsNonDecreasingBy}
use Rattle.std.specs.Ordering.{is_lt, ordering_index, ordering_reverse}

-- by bytes
abbrev pub IsBelow : List ℕ → List ℕ → Type 0
IsBelow s t = slice_cmp nat_cmp s t ≡ Less

-- the answer of a comparison with one text rises along texts in order
pub answers_rise : {X : Type 0} (f : X → List ℕ) (xs : List X) (s : List ℕ) → AllPairs IsBelow (map f xs) → IsNonDecreasingBy (λ y. ordering_index (slice_cmp nat_cmp (f y) s)) xs
answers_rise f xs s ascending = searchable_from_sorted nat_list_cmp_total f xs s (λ k d from within.
    let at : IsBelow (f (get_or xs k d)) (f (get_or xs (k + 1) d)) =
    ap (λ t. slice_cmp nat_cmp t (f (get_or xs (k + 1) d))) (sym (get_or-map f xs k d [] (omega arith)))
    ∙ ap (slice_cmp nat_cmp (get_or (map f xs) k [])) (sym (get_or-map f xs (k + 1) d [] within))
    ∙ ascending k (k + 1) [] (omega arith) (omega (arith, within, length-map xs f)) in
    ap is_lt (nat_list_cmp_total.antisymm (f (get_or xs (k + 1) d)) (f (get_or xs k d)) ∙ ap ordering_reverse at))
