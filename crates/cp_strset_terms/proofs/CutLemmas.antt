-- Strings in order, cut at a text.
use Rattle.std.proofs.Common.{◌≡◌, ◌<◌, ◌≤◌, ◌+◌, ◌-◌, ◌||◌, ℕ, suc, Bool, true, false, true≢false, Some, IfSome, All, Ordering, Less, Equal, Greater, List, [], ◌∷◌, length, map, take, drop, get_or, refl, sym, subst, ap, ap₂, ◌∙◌, arith, nat_cmp, inl, inr}
use Rattle.std.proofs.Math.Bool.{or-false}
use Rattle.std.proofs.lemmas.Bool.{cases_Bool, cases_lt, false_from_ne_true}
use Rattle.std.proofs.lemmas.Cmp.{nat_list_cmp_total}
use Rattle.std.proofs.lemmas.List.{take-append-drop, map-append, get_or-take, get_or-drop, length-take, length-drop}
use Rattle.std.proofs.lemmas.List.Elements.{All-head, All-map}
use Rattle.std.proofs.lemmas.List.Folds.{list_any-append, list_any_none}
use Rattle.std.proofs.lemmas.Map.Text.{is_eq-slice_cmp}
use Rattle.std.proofs.lemmas.Option.{slice_get_within, slice_get-get_or}
use Rattle.std.proofs.lemmas.Slice.Eq.{bytes_eq-Decides}
use Rattle.std.specs.declared.string.String.{String}
use Rattle.std.specs.Cmp.Lexicographic.{slice_cmp}
use Rattle.std.specs.Global.{Global}
use Rattle.std.specs.List.{AllPairs, AllWithin, slice_get}
use Rattle.std.specs.List.Sorted.{IsPartitionedBy}
use Rattle.std.specs.Ordering.{is_lt, is_le, is_eq, ordering_index, ordering_reverse, is_ge}
use Rattle.std.specs.Str.{bytes_eq}
use Rattle.std.specs.String.{string_bytes}
use Rattle.cp_strset.specs.StringList.{holds}
use Rattle.cp_strset_terms.specs.Places.{IsAt}
use Rattle.cp_strset.specs.OrderLaws.{IsBelow, answers_rise}
use Rattle.cp_strset_terms.proofs.PlacesLemmas.{below_at, equal_bytes}

pub is_lt-falls : (o p : Ordering) → ordering_index o ≤ ordering_index p → is_lt p ≡ true → is_lt o ≡ true
is_lt-falls Less p h passes = refl
is_lt-falls Equal Less h passes = absurd (omega arith)
is_lt-falls Equal Equal h passes = passes
is_lt-falls Equal Greater h passes = passes
is_lt-falls Greater Less h passes = absurd (omega arith)
is_lt-falls Greater Equal h passes = passes
is_lt-falls Greater Greater h passes = passes

pub is_le-falls : (o p : Ordering) → ordering_index o ≤ ordering_index p → is_le p ≡ true → is_le o ≡ true
is_le-falls Less p h passes = refl
is_le-falls Equal p h passes = refl
is_le-falls Greater Less h passes = absurd (omega arith)
is_le-falls Greater Equal h passes = absurd (omega arith)
is_le-falls Greater Greater h passes = passes

-- along strings in order, none that passes a comparison comes behind one that fails it
pub partitioned : (test : Ordering → Bool) → ((o p : Ordering) → ordering_index o ≤ ordering_index p → test p ≡ true → test o ≡ true) →
    (strings : List (String Global)) (s : List ℕ) → AllPairs IsBelow (map string_bytes strings) → IsPartitionedBy (λ y. test (slice_cmp nat_cmp (string_bytes y) s)) strings
partitioned test falls strings s ascending i j d before within passes =
    falls (slice_cmp nat_cmp (string_bytes (get_or strings i d)) s) (slice_cmp nat_cmp (string_bytes (get_or strings j d)) s) (answers_rise string_bytes strings s ascending i j d before within) passes

-- a test tells two strings apart
told_apart : (test : List ℕ → Bool) (s t : List ℕ) → (test s ≡ test t → ⊥) → bytes_eq s t ≡ false
told_apart test s t apart = elim (cases_Bool (bytes_eq s t)) [
  | inl same ↦ absurd (apart (ap test ((bytes_eq-Decides s t).0 same)))
  | inr other ↦ other
]

parts : (strings : List (String Global)) (i : ℕ) (text : List ℕ) → holds (map string_bytes strings) text ≡ (holds (map string_bytes (take i strings)) text || holds (map string_bytes (drop i strings)) text)
parts strings i text =
    ap (λ l. holds (map string_bytes l) text) (sym (take-append-drop i strings))
    ∙ (ap (λ l. holds l text) (map-append string_bytes (take i strings) (drop i strings))
    ∙ list_any-append (λ s. bytes_eq s text) (map string_bytes (take i strings)) (map string_bytes (drop i strings)))

-- a text that fails where the strings in front of the cut pass is none of those
pub holds-drop : (test : List ℕ → Bool) (strings : List (String Global)) (i : ℕ) (text : List ℕ) → AllWithin (λ y. test (string_bytes y) ≡ true) strings 0 i →
    test text ≡ false → holds (map string_bytes (drop i strings)) text ≡ holds (map string_bytes strings) text
holds-drop test strings i text passing fails =
    let none : holds (map string_bytes (take i strings)) text ≡ false =
    list_any_none (λ s. bytes_eq s text) (map string_bytes (take i strings)) (All-map (λ s. bytes_eq s text ≡ false) string_bytes (take i strings) (λ k d within.
    let short : k < i = omega (arith, length-take i strings) in
    told_apart test (string_bytes (get_or (take i strings) k d)) text
    (λ same. true≢false (sym (passing k d (omega arith) short) ∙ (ap (λ s. test (string_bytes s)) (sym (get_or-take i strings k d short)) ∙ (same ∙ fails)))))) in
    sym (parts strings i text ∙ ap (λ b. b || holds (map string_bytes (drop i strings)) text) none)

-- a text that passes where the strings behind the cut fail is none of those
pub holds-take : (test : List ℕ → Bool) (strings : List (String Global)) (i : ℕ) (text : List ℕ) → AllWithin (λ y. test (string_bytes y) ≡ false) strings i (length strings) →
    test text ≡ true → holds (map string_bytes (take i strings)) text ≡ holds (map string_bytes strings) text
holds-take test strings i text failing passes =
    let none : holds (map string_bytes (drop i strings)) text ≡ false =
    list_any_none (λ s. bytes_eq s text) (map string_bytes (drop i strings)) (All-map (λ s. bytes_eq s text ≡ false) string_bytes (drop i strings) (λ k d within.
    let short : i + k < length strings = omega (arith, length-drop i strings) in
    told_apart test (string_bytes (get_or (drop i strings) k d)) text
    (λ same. true≢false (sym (sym (failing (i + k) d (omega arith) short) ∙ (ap (λ s. test (string_bytes s)) (sym (get_or-drop i strings k d)) ∙ (same ∙ passes))))))) in
    sym (parts strings i text ∙ (ap (λ b. holds (map string_bytes (take i strings)) text || b) none ∙ or-false (holds (map string_bytes (take i strings)) text)))

equal_not_less : (o : Ordering) → is_eq o ≡ true → is_lt o ≡ false
equal_not_less Less h = cc
equal_not_less Equal h = refl
equal_not_less Greater h = refl

equal_at_most : (o : Ordering) → is_eq o ≡ true → is_le o ≡ true
equal_at_most Less h = refl
equal_at_most Equal h = refl
equal_at_most Greater h = cc

compares_equal : (s t : List ℕ) → Some s ≡ Some t → is_eq (slice_cmp nat_cmp t s) ≡ true
compares_equal s t h = let same : s ≡ t = cc in ap (λ u. is_eq (slice_cmp nat_cmp t u)) same ∙ equal_bytes t

-- no text of a list in order is below one in front of it
pub none_below_earlier : (list : List (List ℕ)) → AllPairs IsBelow list → (i j : ℕ) (first text : List ℕ) → IsAt list i first → IsAt list j text → i ≤ j → is_lt (slice_cmp nat_cmp text first) ≡ false
none_below_earlier list ascending i j first text at here order = elim (cases_lt i j) [
  | inl before ↦ ap is_lt (nat_list_cmp_total.antisymm text first ∙ ap ordering_reverse (below_at list ascending i j first text at here before))
  | inr behind ↦ (
      let same : i ≡ j = omega arith in
      equal_not_less (slice_cmp nat_cmp text first) (compares_equal first text (sym at ∙ (ap (slice_get list) same ∙ here))))
]

-- no text of a list in order is above its last
pub none_above_last : (list : List (List ℕ)) → AllPairs IsBelow list → (last text : List ℕ) (place : ℕ) → IsAt list (length list - 1) last → IsAt list place text → is_le (slice_cmp nat_cmp text last) ≡ true
none_above_last list ascending last text place at here = elim (cases_lt place (length list - 1)) [
  | inl before ↦ ap is_le (below_at list ascending place (length list - 1) text last here at before)
  | inr behind ↦ (
      let within = slice_get_within list place text here in
      let same : length list - 1 ≡ place = omega arith in
      equal_at_most (slice_cmp nat_cmp text last) (compares_equal last text (sym at ∙ (ap (slice_get list) same ∙ here))))
]

-- strings in front of a cut of the front of a list are those in front of it in the list
pub front_of_front : (P : String Global → Type 0) (strings : List (String Global)) (end k : ℕ) → k ≤ end → AllWithin P (take end strings) 0 k → AllWithin P strings 0 k
front_of_front P strings end k short front i d from within = subst P (get_or-take end strings i d (omega arith)) (front i d from within)

-- strings in order that fail from a place of the front on fail behind the front too, where the one there fails
pub fails_behind : (test : String Global → Bool) (strings : List (String Global)) (end k : ℕ) → IsPartitionedBy test strings → end ≤ length strings →
    AllWithin (λ y. test y ≡ false) (take end strings) k (length (take end strings)) → IfSome (slice_get strings end) (λ y. test y ≡ false) →
    AllWithin (λ y. test y ≡ false) strings k (length strings)
fails_behind test strings end k parted bound front ended i d from within = elim (cases_lt i end) [
  | inl before ↦ ap test (sym (get_or-take end strings i d before)) ∙ front i d from (omega (arith, length-take end strings))
  | inr behind ↦ false_from_ne_true (test (get_or strings i d)) (λ passes.
      let fails : test (get_or strings end d) ≡ false = subst (λ o. IfSome o (λ y. test y ≡ false)) (slice_get-get_or strings end d (omega arith)) ended in
      true≢false (sym (parted end i d behind within passes) ∙ fails))
]

not_equal_behind : (o p : Ordering) → ordering_index o ≤ ordering_index p → is_lt o ≡ false → is_eq o ≡ false → is_eq p ≡ false
not_equal_behind Less p rises behind other = cc
not_equal_behind Equal p rises behind other = cc
not_equal_behind Greater Less rises behind other = absurd (omega arith)
not_equal_behind Greater Equal rises behind other = absurd (omega arith)
not_equal_behind Greater Greater rises behind other = refl

first_or_none : (string : String Global) (strings : List (String Global)) (text : List ℕ) → AllPairs IsBelow (map string_bytes (string ∷ strings)) →
    is_lt (slice_cmp nat_cmp (string_bytes string) text) ≡ false → bytes_eq (string_bytes string) text ≡ false → holds (map string_bytes strings) text ≡ false
first_or_none string strings text ascending behind other =
    list_any_none (λ s. bytes_eq s text) (map string_bytes strings) (All-map (λ s. bytes_eq s text ≡ false) string_bytes strings (λ k d within.
    sym (is_eq-slice_cmp (string_bytes (get_or strings k d)) text)
    ∙ not_equal_behind (slice_cmp nat_cmp (string_bytes string) text) (slice_cmp nat_cmp (string_bytes (get_or strings k d)) text)
    (answers_rise string_bytes (string ∷ strings) text ascending 0 (suc k) d (omega arith) (omega arith)) behind (is_eq-slice_cmp (string_bytes string) text ∙ other)))

-- strings in order, none of which is below a text, hold it only at their front
pub holds-front : (strings : List (String Global)) (string : String Global) (text : List ℕ) → AllPairs IsBelow (map string_bytes strings) →
    All (λ s. is_lt (slice_cmp nat_cmp (string_bytes s) text) ≡ false) strings → slice_get strings 0 ≡ Some string →
    holds (map string_bytes strings) text ≡ bytes_eq (string_bytes string) text
holds-front [] string text ascending behind front = cc
holds-front (s ∷ strings) string text ascending behind front =
    let same : s ≡ string = cc in
    ap (λ b. b || holds (map string_bytes strings) text) (ap (λ x. bytes_eq (string_bytes x) text) same)
    ∙ elim (cases_Bool (bytes_eq (string_bytes string) text)) [
      | inl equal ↦ ap (λ b. b || holds (map string_bytes strings) text) equal ∙ sym equal
      | inr other ↦
          ap₂ ◌||◌ other (first_or_none s strings text ascending (All-head (λ x. is_lt (slice_cmp nat_cmp (string_bytes x) text) ≡ false) s strings behind) (ap (λ x. bytes_eq (string_bytes x) text) same ∙ other))
          ∙ sym other
    ]

-- what is not before is not below
pub not_below_from_ge : (o : Ordering) → true ≡ is_ge o → is_lt o ≡ false
not_below_from_ge Less is = cc
not_below_from_ge Equal is = refl
not_below_from_ge Greater is = refl
