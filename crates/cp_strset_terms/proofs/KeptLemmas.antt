-- The strings that a term keeps of a list.
use Rattle.std.proofs.Common.{nat_lt, ◌≡◌, ◌≢◌, ◌<◌, ◌≤◌, ◌+◌, ◌-◌, ◌||◌, ◌&&◌, ◌==◌, ℕ, Bool, true, false, true≢false, cond, Bor, Some, List, [], ◌∷◌, ◌++◌, length, map, filter, take, drop, get_or, refl, sym, subst, ap, ap₂, ◌∙◌, append_assoc, append-nil, arith, inl, inr}
use Rattle.std.proofs.Math.Seq.{take-add}
use Rattle.std.proofs.Math.Bool.{or-false}
use Rattle.std.proofs.lemmas.Bool.{cases_Bool, cases_lt, cond-true, cond-false, eq-eqb, le-leb, lt-ltb, le-ltb}
use Rattle.std.proofs.lemmas.Bool.Decides.{eqb_tells}
use Rattle.std.proofs.lemmas.List.{map_more, map-append}
use Rattle.std.proofs.lemmas.List.Elements.{All-filter, filter-append}
use Rattle.std.proofs.lemmas.List.Folds.{list_any-append}
use Rattle.std.proofs.lemmas.List.Kept.{AllPairs-filter}
use Rattle.std.proofs.lemmas.Map.Views.{any-filter_same}
use Rattle.std.proofs.lemmas.Slice.Eq.{bytes_eq-Decides}
use Rattle.std.specs.declared.string.String.{String}
use Rattle.std.specs.Global.{Global}
use Rattle.std.specs.Str.{bytes_eq, chars}
use Rattle.std.specs.String.{string_bytes}
use Rattle.cp_invlist.specs.InversionList.{is_code_point, is_added}
use Rattle.cp_strset.specs.StringList.{AreCanonical, holds}
use Rattle.cp_strset_terms.specs.Places.{IsAt}
use Rattle.cp_strset.specs.OrderLaws.{IsBelow}

-- what is kept of one text more
pub filter-more : (test : List ℕ → Bool) (list : List (Bor (List ℕ))) (place : ℕ) (d : Bor (List ℕ)) → place < length list →
    filter test (map (λ text. text.now) (take (place + 1) list)) ≡
    filter test (map (λ text. text.now) (take place list)) ++ cond (test (get_or list place d).now) ((get_or list place d).now ∷ []) []
filter-more test list place d within =
    ap (filter test) (map_more (λ text. text.now) list place d within)
    ∙ filter-append test (map (λ text. text.now) (take place list)) ((get_or list place d).now ∷ [])

-- a text that passes the test is copied behind the others
pub kept_more : (test : List ℕ → Bool) (list : List (Bor (List ℕ))) (place : ℕ) (d : Bor (List ℕ)) (old : List (List ℕ)) (kept : List (String Global)) (copy : String Global) →
    place < length list → test (get_or list place d).now ≡ true → string_bytes copy ≡ (get_or list place d).now →
    map string_bytes kept ≡ old ++ filter test (map (λ text. text.now) (take place list)) →
    map string_bytes (kept ++ copy ∷ []) ≡ old ++ filter test (map (λ text. text.now) (take (place + 1) list))
kept_more test list place d old kept copy within passes same before =
    map-append string_bytes kept (copy ∷ [])
    ∙ (ap₂ ◌++◌ before (ap (λ s. s ∷ []) same)
    ∙ (append_assoc old (filter test (map (λ text. text.now) (take place list))) ((get_or list place d).now ∷ [])
    ∙ ap (λ l. old ++ l) (ap (λ l. filter test (map (λ text. text.now) (take place list)) ++ l) (sym (cond-true _ _ _ passes)) ∙ sym (filter-more test list place d within))))

-- a text that fails the test is passed over
pub kept_others : (test : List ℕ → Bool) (list : List (Bor (List ℕ))) (place : ℕ) (d : Bor (List ℕ)) (old : List (List ℕ)) (kept : List (List ℕ)) →
    place < length list → test (get_or list place d).now ≡ false →
    kept ≡ old ++ filter test (map (λ text. text.now) (take place list)) →
    kept ≡ old ++ filter test (map (λ text. text.now) (take (place + 1) list))
kept_others test list place d old kept within fails before =
    before
    ∙ ap (λ l. old ++ l) (sym (filter-more test list place d within ∙ (ap (λ l. filter test (map (λ text. text.now) (take place list)) ++ l) (cond-false _ _ _ fails) ∙ append-nil _)))

-- what is kept of one piece more
pub kept_piece : (test : List ℕ → Bool) (front rest : List (Bor (List ℕ))) (old kept all : List (List ℕ)) →
    old ++ filter test (map (λ text. text.now) (front ++ rest)) ≡ all → kept ≡ old ++ filter test (map (λ text. text.now) front) →
    kept ++ filter test (map (λ text. text.now) rest) ≡ all
kept_piece test front rest old kept all before is =
    ap (λ l. l ++ filter test (map (λ text. text.now) rest)) is
    ∙ (append_assoc old (filter test (map (λ text. text.now) front)) (filter test (map (λ text. text.now) rest))
    ∙ (ap (λ l. old ++ l) (sym (filter-append test (map (λ text. text.now) front) (map (λ text. text.now) rest)) ∙ ap (filter test) (sym (map-append (λ text. text.now) front rest)))
    ∙ before))

-- what one string more adds to a list
pub holds-more : (strings : List (String Global)) (i : ℕ) (d : String Global) (string text : List ℕ) → i < length strings → string ≡ string_bytes (get_or strings i d) →
    holds (map string_bytes (take (i + 1) strings)) text ≡ (holds (map string_bytes (take i strings)) text || (bytes_eq string text || false))
holds-more strings i d string text within same =
    ap (λ list. holds list text) (map_more string_bytes strings i d within)
    ∙ (list_any-append (λ s. bytes_eq s text) (map string_bytes (take i strings)) (string_bytes (get_or strings i d) ∷ [])
    ∙ ap (λ s. holds (map string_bytes (take i strings)) text || (bytes_eq s text || false)) (sym same))

some_same : (s t : List ℕ) → Some s ≡ Some t → s ≡ t
some_same s t h = cc

one_text : (list : List (List ℕ)) (place : ℕ) (s t : List ℕ) → IsAt list place s → IsAt list place t → bytes_eq s t ≡ true
one_text list place s t at here =
    let same : s ≡ t = some_same s t (sym at ∙ here) in
    (bytes_eq-Decides s t).1 same

-- a string that is added at its only place is the text at just that place
pub is_added-place : (list : List (List ℕ)) (added place : ℕ) (string text : List ℕ) → ((k : ℕ) → IsAt list k string → k ≡ added) → added < 0x11_0000 →
    IsAt list added string → IsAt list place text → is_added added place ≡ (bytes_eq string text || false)
is_added-place list added place string text once short at here = elim (cases_Bool (bytes_eq string text)) [
  | inl same ↦ (
      let there : IsAt list place string = here ∙ ap Some (sym ((bytes_eq-Decides string text).0 same)) in
      let one : place ≡ added = once place there in
      ap₂ ◌&&◌ (eq-eqb place added one) (le-leb place 0x10_FFFF (omega arith)) ∙ ap (λ b. b || false) (sym same))
  | inr other ↦ elim (eqb_tells place added) [
    | inl equal ↦ (
        let there : IsAt list place string = subst (λ k. IsAt list k string) (sym equal.1) at in
        absurd (true≢false (sym (one_text list place string text there here) ∙ other)))
    | inr apart ↦ ap (λ b. b && is_code_point place) apart.0 ∙ ap (λ b. b || false) (sym other)
  ]
]

-- a number is that of a string at its only place exactly where its text is the string
pub same_place : (list : List (List ℕ)) (added place : ℕ) (string text : List ℕ) → ((k : ℕ) → IsAt list k string → k ≡ added) → IsAt list added string →
    IsAt list place text → (added == place) ≡ (bytes_eq string text || false)
same_place list added place string text once at here = elim (cases_Bool (bytes_eq string text)) [
  | inl same ↦ (
      let there : IsAt list place string = here ∙ ap Some (sym ((bytes_eq-Decides string text).0 same)) in
      eq-eqb added place (sym (once place there)) ∙ ap (λ b. b || false) (sym same))
  | inr other ↦ elim (eqb_tells added place) [
    | inl equal ↦ (
        let there : IsAt list place string = subst (λ k. IsAt list k string) equal.1 at in
        absurd (true≢false (sym (one_text list place string text there here) ∙ other)))
    | inr apart ↦ apart.0 ∙ ap (λ b. b || false) (sym other)
  ]
]

-- a string that stands nowhere is no text at a place
pub absent : (list : List (List ℕ)) (place : ℕ) (string text : List ℕ) → ((k : ℕ) → IsAt list k string → ⊥) → IsAt list place text → (bytes_eq string text || false) ≡ false
absent list place string text nowhere here = elim (cases_Bool (bytes_eq string text)) [
  | inl same ↦ absurd (nowhere place (here ∙ ap Some (sym ((bytes_eq-Decides string text).0 same))))
  | inr other ↦ ap (λ b. b || false) other
]

-- the strings that pass a test are in order
pub filter-canonical : (test : List ℕ → Bool) (list : List (List ℕ)) → AreCanonical list → AreCanonical (filter test list)
filter-canonical test list h = record {
  ascending = AllPairs-filter IsBelow test list h.ascending;
  none_of_one = All-filter test (λ s. length (chars s) ≢ 1) list h.none_of_one;
}

both_where : (x y : Bool) → (y ≡ false → x ≡ false) → (x && y) ≡ x
both_where true true h = refl
both_where true false h = let e = h refl in cc
both_where false y h = refl

-- of strings that have all that passes the test, those that pass it are what passes it
pub holds-filter : (test : List ℕ → Bool) (list : List (List ℕ)) (bytes : List ℕ) → (holds list bytes ≡ false → test bytes ≡ false) → holds (filter test list) bytes ≡ test bytes
holds-filter test list bytes complete =
    any-filter_same (λ s. bytes_eq s bytes) test (test bytes) (λ s same. ap test ((bytes_eq-Decides s bytes).0 same)) list
    ∙ both_where (test bytes) (holds list bytes) complete

same_side : (place at : ℕ) → (place ≡ at → ⊥) → nat_lt place at ≡ nat_lt place (at + 1)
same_side place at apart = elim (cases_lt place at) [
  | inl before ↦ lt-ltb place at before ∙ sym (lt-ltb place (at + 1) (omega arith))
  | inr behind ↦ (
      let past : at + 1 ≤ place = elim (cases_lt at place) [
        | inl less ↦ omega arith
        | inr more ↦ absurd (apart (omega arith))
      ] in
      le-ltb place at behind ∙ sym (le-ltb place (at + 1) past))
]

-- a place whose text passes is added to the members before it
pub place_added : (place at : ℕ) (member : Bool) → place ≤ 0x10_FFFF → (place ≡ at → member ≡ true) → ((nat_lt place at && member) || is_added at place) ≡ (nat_lt place (at + 1) && member)
place_added place at member small passes = elim (eqb_tells place at) [
  | inl equal ↦
      ap₂ (λ x y. (x && member) || y) (le-ltb place at (omega (arith, equal.1))) (ap₂ ◌&&◌ (eq-eqb place at equal.1) (le-leb place 0x10_FFFF small))
      ∙ sym (ap₂ ◌&&◌ (lt-ltb place (at + 1) (omega (arith, equal.1))) (passes equal.1))
  | inr apart ↦
      ap₂ (λ x y. (x && member) || (y && is_code_point place)) (same_side place at apart.1) apart.0
      ∙ or-false (nat_lt place (at + 1) && member)
]

-- a place whose text fails is passed over
pub place_passed : (place at : ℕ) (member : Bool) → (place ≡ at → member ≡ false) → (nat_lt place at && member) ≡ (nat_lt place (at + 1) && member)
place_passed place at member fails = elim (eqb_tells place at) [
  | inl equal ↦
      ap (λ x. x && member) (le-ltb place at (omega (arith, equal.1)))
      ∙ sym (ap₂ ◌&&◌ (lt-ltb place (at + 1) (omega (arith, equal.1))) (fails equal.1))
  | inr apart ↦ ap (λ x. x && member) (same_side place at apart.1)
]
