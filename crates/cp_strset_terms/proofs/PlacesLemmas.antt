-- Where a string stands in a list of strings in order.
use Rattle.std.proofs.Common.{◌≡◌, ◌<◌, ◌↔◌, ℕ, Bool, true, false, Some, Result, Ok, Err, List, [], ◌∷◌, length, map, get_or, refl, sym, subst, ap, ◌∙◌, arith, nat_cmp, inl, inr}
use Rattle.std.proofs.lemmas.Bool.{cases_lt}
use Rattle.std.proofs.lemmas.List.{get_or-map, length-map}
use Rattle.std.proofs.lemmas.Map.Text.{is_eq-slice_cmp}
use Rattle.std.proofs.lemmas.Option.{slice_get_within, slice_get-get_or, get_or_from_slice_get}
use Rattle.std.proofs.lemmas.Slice.Eq.{bytes_eq-Decides}
use Rattle.std.specs.declared.cmp.Ordering.TheVariants.{Equal}
use Rattle.std.specs.Cmp.Lexicographic.{slice_cmp}
use Rattle.std.specs.List.{AllPairs}
use Rattle.std.specs.List.Sorted.{IsBinarySearchResult, IsSearchInRange}
use Rattle.std.specs.Ordering.{is_eq}
use Rattle.std.specs.Result.{result_ok}
use Rattle.cp_strset.specs.OrderLaws.{IsBelow, answers_rise}
use Rattle.cp_strset_terms.specs.Places.{IsAt}

same_bytes : (s t : List ℕ) → slice_cmp nat_cmp s t ≡ Equal → s ≡ t
same_bytes s t h = (bytes_eq-Decides s t).0 (sym (is_eq-slice_cmp s t) ∙ ap is_eq h)

-- a text compares equal to itself
pub equal_bytes : (s : List ℕ) → is_eq (slice_cmp nat_cmp s s) ≡ true
equal_bytes s = is_eq-slice_cmp s s ∙ (bytes_eq-Decides s s).1 refl

not_below_itself : (s t : List ℕ) → s ≡ t → IsBelow s t → ⊥
not_below_itself s t same below =
    let at : is_eq (slice_cmp nat_cmp s t) ≡ true = ap (λ u. is_eq (slice_cmp nat_cmp s u)) (sym same) ∙ equal_bytes s in
    let not : is_eq (slice_cmp nat_cmp s t) ≡ false = ap is_eq below in
    cc

-- of two strings of a list in order the one in front is below the other
pub below_at : (list : List (List ℕ)) → AllPairs IsBelow list → (i j : ℕ) (s t : List ℕ) → IsAt list i s → IsAt list j t → i < j → IsBelow s t
below_at list ascending i j s t at there before =
    ap (λ u. slice_cmp nat_cmp u t) (sym (get_or_from_slice_get list i s s at))
    ∙ (ap (slice_cmp nat_cmp (get_or list i s)) (sym (get_or_from_slice_get list j t s there))
    ∙ ascending i j s before (slice_get_within list j t there))

-- a string stands at no second place behind one
place_once : (list : List (List ℕ)) → AllPairs IsBelow list → (i j : ℕ) (s : List ℕ) → IsAt list i s → IsAt list j s → i < j → ⊥
place_once list ascending i j s at at_too before = not_below_itself s s refl (below_at list ascending i j s s at at_too before)

-- the text of the element at a place
pub text_at : {X : Type 0} (f : X → List ℕ) (list : List X) (place : ℕ) (s : List ℕ) (d : X) → IsAt (map f list) place s → f (get_or list place d) ≡ s
text_at f list place s d at =
    let within : place < length list = omega (arith, slice_get_within (map f list) place s at, length-map list f) in
    sym (get_or-map f list place d [] within) ∙ get_or_from_slice_get (map f list) place s [] at

-- a place of the text of the element there
pub is_at : {X : Type 0} (f : X → List ℕ) (list : List X) (place : ℕ) (s : List ℕ) (d : X) → place < length list → f (get_or list place d) ≡ s → IsAt (map f list) place s
is_at f list place s d within same =
    slice_get-get_or (map f list) place [] (omega (arith, length-map list f))
    ∙ ap Some (get_or-map f list place d [] within ∙ same)

-- a string stands at one place at most
pub one_place : (list : List (List ℕ)) → AllPairs IsBelow list → (i j : ℕ) (s : List ℕ) → IsAt list i s → IsAt list j s → i ≡ j
one_place list ascending i j s at at_too = elim (cases_lt i j) [
  | inl below ↦ absurd (place_once list ascending i j s at at_too below)
  | inr above ↦ elim (cases_lt j i) [
    | inl below ↦ absurd (place_once list ascending j i s at_too at below)
    | inr same ↦ omega arith
  ]
]

equal_itself : (s t : List ℕ) (o : Bool) → s ≡ t → is_eq (slice_cmp nat_cmp s t) ≡ o → o ≡ true
equal_itself s t o same h = sym h ∙ (ap (λ u. is_eq (slice_cmp nat_cmp s u)) (sym same) ∙ equal_bytes s)

-- a binary search in texts in order finds the place of a text, where it has one
pub search_finds : {X : Type 0} (f : X → List ℕ) (list : List X) (s : List ℕ) (r : Result ℕ ℕ) → AllPairs IsBelow (map f list) → IsSearchInRange r (length list) →
    IsBinarySearchResult (λ y. slice_cmp nat_cmp (f y) s) list r → (place : ℕ) → (result_ok r ≡ Some place) ↔ IsAt (map f list) place s
search_finds f [] s (Ok i) ascending bound found place = absurd (omega arith)
search_finds f (x ∷ xs) s (Ok i) ascending bound found place =
    let here = is_at f (x ∷ xs) i s x bound (same_bytes (f (get_or (x ∷ xs) i x)) s (found x)) in (
      λ e. (let same : i ≡ place = cc in subst (λ k. IsAt (map f (x ∷ xs)) k s) same here),
      λ at. ap Some (one_place (map f (x ∷ xs)) ascending i place s here at),
    )
search_finds f [] s (Err i) ascending bound found place = (λ e. cc, λ e. cc)
search_finds f (x ∷ xs) s (Err i) ascending bound found place = (
  λ e. cc,
  λ at.
      let cut = found (answers_rise f (x ∷ xs) s ascending) in
      let same = text_at f (x ∷ xs) place s x at in
      let within : place < length (x ∷ xs) = omega (arith, slice_get_within (map f (x ∷ xs)) place s at, length-map (x ∷ xs) f) in
      elim (cases_lt place i) [
        | inl before ↦ (let e = equal_itself (f (get_or (x ∷ xs) place x)) s false same (ap is_eq (cut.0 place x (omega arith) before)) in cc)
        | inr behind ↦ (let e = equal_itself (f (get_or (x ∷ xs) place x)) s false same (ap is_eq (cut.1 place x behind within)) in cc)
      ],
)
