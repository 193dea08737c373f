-- A list of strings without a fault is canonical, and a binary search in it finds each of its strings.
use Rattle.std.specs.Option.{option_or}
use Rattle.std.proofs.Common.{◌≡◌, ◌≢◌, ℕ, suc, ◌<◌, false, Option, Some, None, is_some, Result, Ok, Err, is_ok, List, [], ◌∷◌, length, map, get_or, All, refl, sym, ap, ◌∙◌, arith, nat_cmp, true≢false, inl, inr}
use Rattle.std.specs.declared.cmp.Ordering.{Ordering}
use Rattle.std.specs.declared.cmp.Ordering.TheVariants.{Less, Equal, Greater}
use Rattle.std.specs.Cmp.Lexicographic.{slice_cmp}
use Rattle.std.specs.List.{list_any, AllPairs}
use Rattle.std.specs.List.Sorted.{IsBinarySearchResult, IsSearchInRange}
use Rattle.std.specs.Ordering.{is_eq, ordering_reverse}
use Rattle.std.specs.Str.{chars, bytes_eq}
use Rattle.std.proofs.lemmas.Bool.{cases_Bool, cases_lt, cond-true, cond-false}
use Rattle.std.proofs.lemmas.Cmp.{nat_list_cmp_total}
use Rattle.std.proofs.lemmas.List.{get_or-map, length-map}
use Rattle.std.proofs.lemmas.List.Elements.{All-nil, All-cons, All-head, All-tail, All-weaker}
use Rattle.std.proofs.lemmas.List.Kept.{AllPairs-cons}
use Rattle.std.proofs.lemmas.List.Recursion.{or_at, or_from_places}
use Rattle.std.proofs.lemmas.Map.Text.{is_eq-slice_cmp}
use Rattle.cp_strset.specs.declared.StringListError.{StringListError}
use Rattle.cp_strset.specs.declared.StringListError.TheVariants.{StringOfOne}
use Rattle.cp_strset.specs.OrderLaws.{IsBelow, answers_rise}
use Rattle.cp_strset.specs.StringList.{sole_of, fault_of_order, fault_behind, fault_at, fault_from, AreCanonical}

-- all strings are above the one before them
abbrev pub AreAbove : Option (List ℕ) → List (List ℕ) → Type 0
AreAbove None ss = Unit {0}
AreAbove (Some p) ss = All (IsBelow p) ss

option_or-none : (a b : Option StringListError) → option_or a b ≡ None → (a ≡ None) × (b ≡ None)
option_or-none None b h = (refl, h)
option_or-none (Some e) b h = cc

none_of_order : (o : Ordering) (i : ℕ) → fault_of_order o i ≡ None → o ≡ Greater
none_of_order Less i h = cc
none_of_order Equal i h = cc
none_of_order Greater i h = refl

fault_at-none : (p : Option (List ℕ)) (s : List ℕ) (i : ℕ) → fault_at p s i ≡ None → (is_some (sole_of (chars s)) ≡ false) × (fault_behind p s i ≡ None)
fault_at-none p s i h = elim (cases_Bool (is_some (sole_of (chars s)))) [
  | inl one ↦ let there : Some (StringOfOne i) ≡ None = sym (cond-true _ _ _ one) ∙ h in cc
  | inr other ↦ (other, sym (cond-false _ _ _ other) ∙ h)
]

not_one : (cs : List ℕ) → is_some (sole_of cs) ≡ false → length cs ≢ 1
not_one [] h = λ e. absurd (omega arith)
not_one (c ∷ []) h = absurd (true≢false h)
not_one (c ∷ d ∷ cs) h = λ e. absurd (omega arith)

are_above-nil : (p : Option (List ℕ)) → AreAbove p []
are_above-nil None = tt
are_above-nil (Some p) = All-nil (IsBelow p)

are_above-cons : (p : Option (List ℕ)) (s : List ℕ) (ss : List (List ℕ)) (i : ℕ) → fault_behind p s i ≡ None → All (IsBelow s) ss → AreAbove p (s ∷ ss)
are_above-cons None s ss i h all = tt
are_above-cons (Some p) s ss i h all =
    let total = nat_list_cmp_total in
    let above = none_of_order _ i h in
    let below : IsBelow p s = total.antisymm p s ∙ ap ordering_reverse above in
    All-cons (IsBelow p) s ss below (All-weaker (IsBelow s) (IsBelow p) (λ t lt. total.trans p s t below lt) ss all)

canonical_from : (p : Option (List ℕ)) (i : ℕ) (ss : List (List ℕ)) → fault_from p i ss ≡ None → AreAbove p ss × AreCanonical ss
canonical_from p i [] h = (
  are_above-nil p,
  record { ascending = λ j k d lt short. absurd (omega arith); none_of_one = All-nil (λ s. length (chars s) ≢ 1) },
)
canonical_from p i (s ∷ ss) h =
    let parts = option_or-none _ _ h in
    let first = fault_at-none p s i parts.0 in
    let rest = canonical_from (Some s) (suc i) ss parts.1 in (
      are_above-cons p s ss i first.1 rest.0,
      record {
        ascending = AllPairs-cons IsBelow s ss rest.0 rest.1.ascending;
        none_of_one = All-cons (λ s. length (chars s) ≢ 1) s ss (not_one (chars s) first.0) rest.1.none_of_one;
      },
    )

pub AreCanonical-faultless : (ss : List (List ℕ)) → fault_from None 0 ss ≡ None → AreCanonical ss
AreCanonical-faultless ss h = (canonical_from None 0 ss h).1

equal_bytes : (s t : List ℕ) (o : Ordering) → slice_cmp nat_cmp t s ≡ o → bytes_eq t s ≡ is_eq o
equal_bytes s t o h = sym (is_eq-slice_cmp t s) ∙ ap is_eq h

-- a binary search of a canonical list answers whether the text is one of its strings
pub search_answers : {X : Type 0} (f : X → List ℕ) (xs : List X) (s : List ℕ) (r : Result ℕ ℕ) → fault_from None 0 (map f xs) ≡ None → IsSearchInRange r (length xs) →
    IsBinarySearchResult (λ y. slice_cmp nat_cmp (f y) s) xs r → is_ok r ≡ list_any (λ t. bytes_eq t s) (map f xs)
search_answers f [] s (Ok i) h bound found = absurd (omega arith)
search_answers f (x ∷ xs) s (Ok i) h bound found =
    sym (
    or_at (λ l. list_any (λ t. bytes_eq t s) l) (λ t. bytes_eq t s) refl (λ _ _. refl) (map f (x ∷ xs)) i [] (omega (arith, length-map (x ∷ xs) f))
    (ap (λ t. bytes_eq t s) (get_or-map f (x ∷ xs) i x [] bound) ∙ equal_bytes s (f (get_or (x ∷ xs) i x)) Equal (found x))
    )
search_answers f [] s (Err i) h bound found = refl
search_answers f (x ∷ xs) s (Err i) h bound found =
    let whole = x ∷ xs in
    let cut = found (answers_rise f whole s (AreCanonical-faultless (map f whole) h).ascending) in
    sym (
    or_from_places (λ l. list_any (λ t. bytes_eq t s) l) (λ t. bytes_eq t s) refl (λ _ _. refl) (map f whole) []
    (
    λ k lt.
    let short : k < length whole = omega (arith, length-map whole f) in
    ap (λ t. bytes_eq t s) (get_or-map f whole k x [] short)
    ∙ elim (cases_lt k i) [
      | inl before ↦ equal_bytes s (f (get_or whole k x)) Less (cut.0 k x (omega arith) before)
      | inr behind ↦ equal_bytes s (f (get_or whole k x)) Greater (cut.1 k x behind short)
    ]
    )
    )

one_not : (cs : List ℕ) → length cs ≢ 1 → is_some (sole_of cs) ≡ false
one_not [] h = refl
one_not (c ∷ []) h = absurd (h refl)
one_not (c ∷ d ∷ cs) h = refl

fault_behind-above : (p : Option (List ℕ)) (s : List ℕ) (i : ℕ) (ss : List (List ℕ)) → AreAbove p (s ∷ ss) → fault_behind p s i ≡ None
fault_behind-above None s i ss h = refl
fault_behind-above (Some p) s i ss h =
    let total = nat_list_cmp_total in
    let above : slice_cmp nat_cmp s p ≡ Greater = total.antisymm s p ∙ ap ordering_reverse (All-head (IsBelow p) s ss h) in
    ap (λ o. fault_of_order o i) above

faultless_from : (p : Option (List ℕ)) (i : ℕ) (ss : List (List ℕ)) → AreAbove p ss → AllPairs IsBelow ss → All (λ s. length (chars s) ≢ 1) ss → fault_from p i ss ≡ None
faultless_from p i [] above pairs ones = refl
faultless_from p i (s ∷ ss) above pairs ones =
    let first : fault_at p s i ≡ None =
    cond-false _ _ _ (one_not (chars s) (All-head (λ s. length (chars s) ≢ 1) s ss ones)) ∙ fault_behind-above p s i ss above in
    let rest = faultless_from (Some s) (suc i) ss (λ k d lt. pairs 0 (suc k) d (omega arith) (omega arith))
    (λ j k d lt short. pairs (suc j) (suc k) d (omega arith) (omega arith)) (All-tail (λ s. length (chars s) ≢ 1) s ss ones) in
    ap (λ o. option_or o (fault_from (Some s) (suc i) ss)) first ∙ rest

pub faultless-AreCanonical : (ss : List (List ℕ)) → AreCanonical ss → fault_from None 0 ss ≡ None
faultless-AreCanonical ss h = faultless_from None 0 ss tt h.ascending h.none_of_one
