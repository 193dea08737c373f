-- A walk over the elements of two sets in order gives the merged list.
use Rattle.std.proofs.Common.{◌≡◌, ℕ, zero, suc, ◌+◌, ◌%◌, ◌<◌, ◌≤◌, Bool, true, false, not, ◌==◌, if◌then◌else◌, Some, None, List, [], ◌∷◌, ◌++◌, length, take, drop, All, refl, sym, ap, ap₂, ◌∙◌, subst, append_assoc, IfSome, arith, length-drop, ◌⊎◌, inl, inr}
use mathlib.Core.Bool.{beq}
use Rattle.std.proofs.Math.Bool.{not-not}
use Rattle.std.proofs.lemmas.Bool.{le-leb, lt-leb, eq-eqb, ne_eqb, cases_lt, cases_eq, cond-true, cond-false, cases_Bool}
use Rattle.std.proofs.lemmas.List.{take-append-drop, drop_all, length-take-le, append-nil}
use Rattle.std.proofs.lemmas.List.Elements.{All-weaker, All-push, All-head, All-tail}
use Rattle.cp_invlist.specs.InversionList.{differ, contains, ascends_from, has_even_length, IsInversionList}
use Rattle.std.specs.List.{slice_get}
use Rattle.cp_invlist.specs.Merge.{keeps, inside_behind, turns_first, turns_second, turns_both, extended}
use Rattle.cp_invlist.specs.declared.merge.Operation.{Operation}
use Rattle.cp_invlist.specs.declared.merge.Operation.TheVariants.{Union, Difference, Intersection}
use Rattle.cp_invlist.specs.ListLaws.{ascends_from-parts, ascends_from-cons, ascends_from-lower, ascends_from-append, contains-append, contains-below, contains-all_at_most, has_even_length-append, IsInversionList-from, same_of_differ}
use Rattle.cp_invlist.specs.CutLaws.{odd_length, differ-false}

-- a list with the number put behind it where that turns whether its end is inside
abbrev turned_list : List ℕ → ℕ → Bool → List ℕ
turned_list xs x b = if differ (has_even_length xs) b then xs else xs ++ x ∷ []

-- What is left of a list from a number on: whether that number stands inside the set, and which numbers from it on are members.
pub record Tracks (whole rest : List ℕ) (inside : Bool) (n : ℕ) : Type 0 where
  pub ascends : ascends_from n rest ≡ true
  pub even : has_even_length rest ≡ not inside
  pub members : (d : ℕ) → n ≤ d → contains whole d ≡ differ inside (contains rest d)

-- the elements behind a number, where none before it is left
abbrev pub elements_behind : ℕ → List ℕ → List ℕ
elements_behind x [] = []
elements_behind x (y ∷ ys) = if x == y then ys else y ∷ ys

-- whether a side is inside behind a number: it turns at each of its elements
abbrev pub turned_at : ℕ → List ℕ → Bool → Bool
turned_at x [] b = b
turned_at x (y ∷ ys) b = if x == y then not b else b

-- the number is at most the first element
abbrev pub IsAtMostFirst : ℕ → List ℕ → Type 0
IsAtMostFirst x [] = Unit {0}
IsAtMostFirst x (y ∷ ys) = x ≤ y

abbrev pub IsFirst : ℕ → List ℕ → Type 0
IsFirst x [] = ⊥
IsFirst x (y ∷ ys) = x ≡ y

twice_negated : (a b : Bool) → not a ≡ not b → a ≡ not (not b)
twice_negated true true h = refl
twice_negated true false h = sym h
twice_negated false true h = sym h
twice_negated false false h = refl

differ-true : (b v : Bool) → differ b (not v) ≡ differ (not b) v
differ-true true true = refl
differ-true true false = refl
differ-true false v = refl

-- behind a number that is at most the first element
pub Tracks-pass : (whole rest : List ℕ) (b : Bool) (n x : ℕ) → Tracks whole rest b n → n ≤ x → IsAtMostFirst x rest →
    Tracks whole (elements_behind x rest) (turned_at x rest b) (suc x)
Tracks-pass whole [] b n x h le first = record { ascends = refl; even = h.even; members = λ d low. h.members d (omega arith) }
Tracks-pass whole (y ∷ ys) b n x h le first =
    let parts = ascends_from-parts n y ys h.ascends in
    elim (cases_eq x y) [
      | inl same ↦
          rw (eq-eqb x y same) (record {
            ascends = ascends_from-lower (suc x) (suc y) ys (omega arith) parts.2;
            even = twice_negated (has_even_length ys) b h.even;
            members = λ d low.
                h.members d (omega arith) ∙ ap (λ v. differ b (differ v (contains ys d))) (le-leb y d (omega arith)) ∙ differ-true b (contains ys d);
          })
      | inr apart ↦
          rw (ne_eqb x y apart) (record {
            ascends = ascends_from-cons (suc x) y ys (omega arith) parts.1 parts.2;
            even = h.even;
            members = λ d low. h.members d (omega arith);
          })
    ]

-- membership of the number itself, and of those before it
pub Tracks-at : (whole rest : List ℕ) (b : Bool) (n x : ℕ) → Tracks whole rest b n → n ≤ x → IsAtMostFirst x rest → contains whole x ≡ turned_at x rest b
Tracks-at whole [] b n x h le first = h.members x le ∙ differ-false b
Tracks-at whole (y ∷ ys) b n x h le first =
    let parts = ascends_from-parts n y ys h.ascends in
    let none = contains-below (suc y) x ys parts.2 (omega arith) in
    elim (cases_eq x y) [
      | inl same ↦
          rw (eq-eqb x y same) (
          h.members x le ∙ ap₂ (λ v w. differ b (differ v w)) (le-leb y x (omega arith)) none ∙ differ-true b false ∙ differ-false (not b)
          )
      | inr apart ↦
          rw (ne_eqb x y apart) (h.members x le ∙ ap₂ (λ v w. differ b (differ v w)) (lt-leb y x (omega arith)) none ∙ differ-false b)
    ]

pub Tracks-before : (whole rest : List ℕ) (b : Bool) (n x d : ℕ) → Tracks whole rest b n → IsAtMostFirst x rest → n ≤ d → d < x → contains whole d ≡ b
Tracks-before whole [] b n x d h first low high = h.members d low ∙ differ-false b
Tracks-before whole (y ∷ ys) b n x d h first low high =
    let parts = ascends_from-parts n y ys h.ascends in
    h.members d low
    ∙ ap (differ b) (contains-below y d (y ∷ ys) (ascends_from-cons y y ys (omega arith) parts.1 parts.2) (omega arith))
    ∙ differ-false b

pub Tracks-first : (whole rest : List ℕ) (b : Bool) (n x : ℕ) → Tracks whole rest b n → IsFirst x rest → (n ≤ x) × (x ≤ 0x11_0000)
Tracks-first whole [] b n x h first = absurd first
Tracks-first whole (y ∷ ys) b n x h first =
    let parts = ascends_from-parts n y ys h.ascends in
    (omega arith, omega arith)

-- The merged list up to a number: its members below the number are right, and its end is inside where the operation keeps.
pub record Merges (op : Operation) (first second out : List ℕ) (a b : Bool) (n : ℕ) : Type 0 where
  pub ascends : ascends_from 0 out ≡ true
  pub below : All (λ x. x < n) out
  pub even : has_even_length out ≡ not (keeps op a b)
  pub members : (d : ℕ) → d < n → contains out d ≡ keeps op (contains first d) (contains second d)

-- behind all elements of a list
contains-end : (out : List ℕ) (n d : ℕ) (k : Bool) → All (λ x. x < n) out → has_even_length out ≡ not k → n ≤ d → contains out d ≡ k
contains-end out n d k below even le =
    contains-all_at_most d out (All-weaker (λ x. x < n) (λ x. x ≤ d) (λ x lt. omega arith) out below)
    ∙ ap not even ∙ elim k as (λ v. not (not v) ≡ v) [ true ↦ refl | false ↦ refl ]

same_parity : (e k : Bool) → differ e k ≡ true → e ≡ not k
same_parity true true h = sym h
same_parity true false h = refl
same_parity false true h = refl
same_parity false false h = h

pushed_even : (e k : Bool) → e ≡ k → not (differ e false) ≡ not k
pushed_even true k h = ap not h
pushed_even false k h = ap not h

turned : (e : Bool) → differ (not e) true ≡ e
turned true = refl
turned false = refl

-- what the merged list has up to the next element of either list
pub record Between (first second : List ℕ) (a b a' b' : Bool) (n x : ℕ) : Type 0 where
  pub low : n ≤ x
  pub high : x ≤ 0x11_0000
  pub first_before : (d : ℕ) → n ≤ d → d < x → contains first d ≡ a
  pub second_before : (d : ℕ) → n ≤ d → d < x → contains second d ≡ b
  pub first_at : contains first x ≡ a'
  pub second_at : contains second x ≡ b'

Merges-kept : (op : Operation) (first second out : List ℕ) (a b a' b' : Bool) (n x : ℕ) → Merges op first second out a b n →
    Between first second a b a' b' n x → has_even_length out ≡ not (keeps op a' b') → Merges op first second out a' b' (suc x)
Merges-kept op first second out a b a' b' n x h at even =
    let low = at.low in
    record {
      ascends = h.ascends;
      below = All-weaker (λ y. y < n) (λ y. y < suc x) (λ y lt. omega arith) out h.below;
      even = even;
      members = λ d lt. elim (cases_lt d n) [
        | inl old ↦ h.members d old
        | inr new ↦ elim (cases_eq d x) [
          | inl same ↦
              contains-end out n d (keeps op a' b') h.below even new
              ∙ ap₂ (keeps op) (sym at.first_at ∙ ap (contains first) (sym same)) (sym at.second_at ∙ ap (contains second) (sym same))
          | inr apart ↦
              contains-end out n d (keeps op a b) h.below h.even new
              ∙ ap₂ (keeps op) (sym (at.first_before d new (omega arith))) (sym (at.second_before d new (omega arith)))
        ]
      ];
    }

Merges-pushed : (op : Operation) (first second out : List ℕ) (a b a' b' : Bool) (n x : ℕ) → Merges op first second out a b n →
    Between first second a b a' b' n x → has_even_length out ≡ keeps op a' b' → Merges op first second (out ++ x ∷ []) a' b' (suc x)
Merges-pushed op first second out a b a' b' n x h at even =
    let low = at.low in
    let below : All (λ y. y < x) out = All-weaker (λ y. y < n) (λ y. y < x) (λ y lt. omega arith) out h.below in
    let before : (d : ℕ) → d < x → contains (out ++ x ∷ []) d ≡ contains out d =
    λ d lt. contains-append out (x ∷ []) d ∙ ap (λ v. differ (contains out d) (differ v false)) (lt-leb x d lt) ∙ differ-false (contains out d) in
    record {
      ascends = ascends_from-append 0 x out (x ∷ []) (omega arith) below h.ascends (ascends_from-cons x x [] (omega arith) at.high refl);
      below = All-push (λ y. y < suc x) out x (All-weaker (λ y. y < x) (λ y. y < suc x) (λ y lt. omega arith) out below) (omega arith);
      even = has_even_length-append out (x ∷ []) ∙ pushed_even (has_even_length out) (keeps op a' b') even;
      members = λ d lt. elim (cases_lt d n) [
        | inl old ↦ before d (omega arith) ∙ h.members d old
        | inr new ↦ elim (cases_eq d x) [
          | inl same ↦
              contains-append out (x ∷ []) d
              ∙ ap₂ (λ v w. differ v (differ w false)) (contains-all_at_most d out (All-weaker (λ y. y < n) (λ y. y ≤ d) (λ y lt. omega arith) out h.below))
              (le-leb x d (omega arith))
              ∙ turned (has_even_length out) ∙ even
              ∙ ap₂ (keeps op) (sym at.first_at ∙ ap (contains first) (sym same)) (sym at.second_at ∙ ap (contains second) (sym same))
          | inr apart ↦
              before d (omega arith)
              ∙ contains-end out n d (keeps op a b) h.below h.even new
              ∙ ap₂ (keeps op) (sym (at.first_before d new (omega arith))) (sym (at.second_before d new (omega arith)))
        ]
      ];
    }

pub Merges-turn : (op : Operation) (first second out : List ℕ) (a b a' b' : Bool) (n x : ℕ) → Merges op first second out a b n →
    Between first second a b a' b' n x → Merges op first second (turned_list out x (keeps op a' b')) a' b' (suc x)
Merges-turn op first second out a b a' b' n x h at = elim (cases_Bool (differ (has_even_length out) (keeps op a' b'))) [
  | inl same ↦ rw same (Merges-kept op first second out a b a' b' n x h at (same_parity _ _ same))
  | inr other ↦ rw other (Merges-pushed op first second out a b a' b' n x h at (same_of_differ _ _ other))
]

-- the walk over both lists, with what is left of them
pub record Walks (op : Operation) (first second left right out : List ℕ) (a b : Bool) : Type 0 where
  pub at : ℕ
  pub first_track : Tracks first left a at
  pub second_track : Tracks second right b at
  pub merged : Merges op first second out a b at

-- the lowest of the elements that are left
pub record IsLowest (x : ℕ) (left right : List ℕ) : Type 0 where
  pub first : IsAtMostFirst x left
  pub second : IsAtMostFirst x right
  pub there : IsFirst x left ⊎ IsFirst x right

pub Walks-step : (op : Operation) (first second left right out : List ℕ) (a b : Bool) (x : ℕ) → Walks op first second left right out a b → IsLowest x left right →
    Walks op first second (elements_behind x left) (elements_behind x right) (turned_list out x (keeps op (turned_at x left a) (turned_at x right b)))
    (turned_at x left a) (turned_at x right b)
Walks-step op first second left right out a b x w lowest =
    let bounds : (w.at ≤ x) × (x ≤ 0x11_0000) = elim lowest.there [
      | inl f ↦ Tracks-first first left a w.at x w.first_track f
      | inr s ↦ Tracks-first second right b w.at x w.second_track s
    ] in
    record {
      at = suc x;
      first_track = Tracks-pass first left a w.at x w.first_track bounds.0 lowest.first;
      second_track = Tracks-pass second right b w.at x w.second_track bounds.0 lowest.second;
      merged = Merges-turn op first second out a b (turned_at x left a) (turned_at x right b) w.at x w.merged (record {
        low = bounds.0;
        high = bounds.1;
        first_before = λ d low high. Tracks-before first left a w.at x d w.first_track lowest.first low high;
        second_before = λ d low high. Tracks-before second right b w.at x d w.second_track lowest.second low high;
        first_at = Tracks-at first left a w.at x w.first_track bounds.0 lowest.first;
        second_at = Tracks-at second right b w.at x w.second_track bounds.0 lowest.second;
      });
    }

pub Walks-members : (op : Operation) (first second out : List ℕ) (a b : Bool) → Walks op first second [] [] out a b →
    (d : ℕ) → contains out d ≡ keeps op (contains first d) (contains second d)
Walks-members op first second out a b w d = elim (cases_lt d w.at) [
  | inl old ↦ w.merged.members d old
  | inr new ↦
      contains-end out w.at d (keeps op a b) w.merged.below w.merged.even new
      ∙ ap₂ (keeps op) (sym (w.first_track.members d new ∙ differ-false a)) (sym (w.second_track.members d new ∙ differ-false b))
]

-- all elements of a stretch are below the first of a list
abbrev pub AreBelowFirst : List ℕ → List ℕ → Type 0
AreBelowFirst xs [] = Unit {0}
AreBelowFirst xs (y ∷ ys) = All (λ x. x < y) xs

elements_behind-same : (x : ℕ) (xs : List ℕ) → elements_behind x (x ∷ xs) ≡ xs
elements_behind-same x xs = cond-true _ _ _ (eq-eqb x x refl)

turned_at-same : (x : ℕ) (xs : List ℕ) (a : Bool) → turned_at x (x ∷ xs) a ≡ not a
turned_at-same x xs a = cond-true _ _ _ (eq-eqb x x refl)

elements_behind-below : (x : ℕ) (xs ys : List ℕ) → AreBelowFirst (x ∷ xs) ys → elements_behind x ys ≡ ys
elements_behind-below x xs [] h = refl
elements_behind-below x xs (y ∷ ys) h = cond-false _ _ _ (ne_eqb x y (λ same. let lt = All-head (λ z. z < y) x xs h in omega arith))

turned_at-below : (x : ℕ) (xs ys : List ℕ) (b : Bool) → AreBelowFirst (x ∷ xs) ys → turned_at x ys b ≡ b
turned_at-below x xs [] b h = refl
turned_at-below x xs (y ∷ ys) b h = cond-false _ _ _ (ne_eqb x y (λ same. let lt = All-head (λ z. z < y) x xs h in omega arith))

AreBelowFirst-head : (x : ℕ) (xs ys : List ℕ) → AreBelowFirst (x ∷ xs) ys → IsAtMostFirst x ys
AreBelowFirst-head x xs [] h = tt
AreBelowFirst-head x xs (y ∷ ys) h = let lt = All-head (λ z. z < y) x xs h in omega arith

AreBelowFirst-tail : (x : ℕ) (xs ys : List ℕ) → AreBelowFirst (x ∷ xs) ys → AreBelowFirst xs ys
AreBelowFirst-tail x xs [] h = tt
AreBelowFirst-tail x xs (y ∷ ys) h = All-tail (λ z. z < y) x xs h

-- an element of the first list alone turns the merged list, or does not, whatever stands before it
turned_list-first : (op : Operation) (out : List ℕ) (a b : Bool) (x : ℕ) → has_even_length out ≡ not (keeps op a b) →
    turned_list out x (keeps op (not a) b) ≡ extended out (x ∷ []) (turns_first op b)
turned_list-first Union out true true x h = rw h refl
turned_list-first Union out true false x h = rw h refl
turned_list-first Union out false true x h = rw h refl
turned_list-first Union out false false x h = rw h refl
turned_list-first Difference out true true x h = rw h refl
turned_list-first Difference out true false x h = rw h refl
turned_list-first Difference out false true x h = rw h refl
turned_list-first Difference out false false x h = rw h refl
turned_list-first Intersection out true true x h = rw h refl
turned_list-first Intersection out true false x h = rw h refl
turned_list-first Intersection out false true x h = rw h refl
turned_list-first Intersection out false false x h = rw h refl

turned_list-second : (op : Operation) (out : List ℕ) (a b : Bool) (x : ℕ) → has_even_length out ≡ not (keeps op a b) →
    turned_list out x (keeps op a (not b)) ≡ extended out (x ∷ []) (turns_second op a)
turned_list-second Union out true true x h = rw h refl
turned_list-second Union out true false x h = rw h refl
turned_list-second Union out false true x h = rw h refl
turned_list-second Union out false false x h = rw h refl
turned_list-second Difference out true true x h = rw h refl
turned_list-second Difference out true false x h = rw h refl
turned_list-second Difference out false true x h = rw h refl
turned_list-second Difference out false false x h = rw h refl
turned_list-second Intersection out true true x h = rw h refl
turned_list-second Intersection out true false x h = rw h refl
turned_list-second Intersection out false true x h = rw h refl
turned_list-second Intersection out false false x h = rw h refl

turned_list-both : (op : Operation) (out : List ℕ) (a b : Bool) (x : ℕ) → has_even_length out ≡ not (keeps op a b) →
    turned_list out x (keeps op (not a) (not b)) ≡ extended out (x ∷ []) (turns_both op a b)
turned_list-both Union out true true x h = rw h refl
turned_list-both Union out true false x h = rw h refl
turned_list-both Union out false true x h = rw h refl
turned_list-both Union out false false x h = rw h refl
turned_list-both Difference out true true x h = rw h refl
turned_list-both Difference out true false x h = rw h refl
turned_list-both Difference out false true x h = rw h refl
turned_list-both Difference out false false x h = rw h refl
turned_list-both Intersection out true true x h = rw h refl
turned_list-both Intersection out true false x h = rw h refl
turned_list-both Intersection out false true x h = rw h refl
turned_list-both Intersection out false false x h = rw h refl

differ-commutes : (x y : Bool) → differ x y ≡ differ y x
differ-commutes true true = refl
differ-commutes true false = refl
differ-commutes false true = refl
differ-commutes false false = refl

-- behind an element of both lists the merged list turns at the next one as it did there
turns_both-next : (op : Operation) (a b : Bool) → turns_both op (not a) (not b) ≡ turns_both op a b
turns_both-next op a b =
    ap₂ (λ x y. differ (keeps op (not a) (not b)) (keeps op x y)) (not-not a) (not-not b) ∙ differ-commutes (keeps op (not a) (not b)) (keeps op a b)

extended-none : (out : List ℕ) (t : Bool) → extended out [] t ≡ out
extended-none out true = append-nil out
extended-none out false = refl

extended-push : (out xs : List ℕ) (x : ℕ) (t : Bool) → extended (extended out (x ∷ []) t) xs t ≡ extended out (x ∷ xs) t
extended-push out xs x true = append_assoc out (x ∷ []) xs
extended-push out xs x false = refl

-- a stretch of the first list below what is left of the second
stretch_first : (op : Operation) (first second xs left right out : List ℕ) (a b : Bool) →
    Walks op first second (xs ++ left) right out a b → AreBelowFirst xs right →
    Walks op first second left right (extended out xs (turns_first op b)) (inside_behind xs a) b
stretch_first op first second [] left right out a b w below = rw (extended-none out (turns_first op b)) w
stretch_first op first second (x ∷ xs) left right out a b w below =
    let lowest : IsLowest x (x ∷ xs ++ left) right = record { first = omega arith; second = AreBelowFirst-head x xs right below; there = inl refl } in
    let step = Walks-step op first second (x ∷ xs ++ left) right out a b x w lowest in
    let passed = rw (
      elements_behind-same x (xs ++ left),
      elements_behind-below x xs right below,
      turned_at-same x (xs ++ left) a,
      turned_at-below x xs right b below,
      turned_list-first op out a b x w.merged.even,
    ) at step in
    rw (sym (extended-push out xs x (turns_first op b)))
    (stretch_first op first second xs left right (extended out (x ∷ []) (turns_first op b)) (not a) b passed (AreBelowFirst-tail x xs right below))

-- a stretch of the second list below what is left of the first
stretch_second : (op : Operation) (first second xs left right out : List ℕ) (a b : Bool) →
    Walks op first second left (xs ++ right) out a b → AreBelowFirst xs left →
    Walks op first second left right (extended out xs (turns_second op a)) a (inside_behind xs b)
stretch_second op first second [] left right out a b w below = rw (extended-none out (turns_second op a)) w
stretch_second op first second (x ∷ xs) left right out a b w below =
    let lowest : IsLowest x left (x ∷ xs ++ right) = record { first = AreBelowFirst-head x xs left below; second = omega arith; there = inr refl } in
    let step = Walks-step op first second left (x ∷ xs ++ right) out a b x w lowest in
    let passed = rw (
      elements_behind-same x (xs ++ right),
      elements_behind-below x xs left below,
      turned_at-same x (xs ++ right) b,
      turned_at-below x xs left a below,
      turned_list-second op out a b x w.merged.even,
    ) at step in
    rw (sym (extended-push out xs x (turns_second op a)))
    (stretch_second op first second xs left right (extended out (x ∷ []) (turns_second op a)) a (not b) passed (AreBelowFirst-tail x xs left below))

-- so many elements of the first list are taken, with each outcome by an equation
pub Walks-first : (op : Operation) (first second left right out left' out' : List ℕ) (a b a' : Bool) (n : ℕ) →
    Walks op first second left right out a b → AreBelowFirst (take n left) right → left' ≡ drop n left →
    a' ≡ inside_behind (take n left) a → out' ≡ extended out (take n left) (turns_first op b) →
    Walks op first second left' right out' a' b
Walks-first op first second left right out left' out' a b a' n w below el ea eo =
    rw (el, ea, eo) (stretch_first op first second (take n left) (drop n left) right out a b (rw (take-append-drop n left) w) below)

pub Walks-second : (op : Operation) (first second left right out right' out' : List ℕ) (a b b' : Bool) (n : ℕ) →
    Walks op first second left right out a b → AreBelowFirst (take n right) left → right' ≡ drop n right →
    b' ≡ inside_behind (take n right) b → out' ≡ extended out (take n right) (turns_second op a) →
    Walks op first second left right' out' a b'
Walks-second op first second left right out right' out' a b b' n w below er eb eo =
    let whole = subst (λ (r : List ℕ). Walks op first second left r out a b) (sym (take-append-drop n right)) w in
    rw (er, eb, eo) (stretch_second op first second (take n right) left (drop n right) out a b whole below)

-- a stretch of both lists
stretch_both : (op : Operation) (first second xs left right out : List ℕ) (a b : Bool) → Walks op first second (xs ++ left) (xs ++ right) out a b →
    Walks op first second left right (extended out xs (turns_both op a b)) (inside_behind xs a) (inside_behind xs b)
stretch_both op first second [] left right out a b w = rw (extended-none out (turns_both op a b)) w
stretch_both op first second (x ∷ xs) left right out a b w =
    let lowest : IsLowest x (x ∷ xs ++ left) (x ∷ xs ++ right) = record { first = omega arith; second = omega arith; there = inl refl } in
    let step = Walks-step op first second (x ∷ xs ++ left) (x ∷ xs ++ right) out a b x w lowest in
    let passed = rw (
      elements_behind-same x (xs ++ left),
      elements_behind-same x (xs ++ right),
      turned_at-same x (xs ++ left) a,
      turned_at-same x (xs ++ right) b,
      turned_list-both op out a b x w.merged.even,
    ) at step in
    let rest = stretch_both op first second xs left right (extended out (x ∷ []) (turns_both op a b)) (not a) (not b) passed in
    rw (sym (extended-push out xs x (turns_both op a b))) (rw (turns_both-next op a b) at rest)

-- so many elements that both lists have are taken
pub Walks-both : (op : Operation) (first second left right out left' right' out' : List ℕ) (a b a' b' : Bool) (n : ℕ) →
    Walks op first second left right out a b → take n left ≡ take n right → left' ≡ drop n left → right' ≡ drop n right →
    a' ≡ inside_behind (take n left) a → b' ≡ inside_behind (take n right) b → out' ≡ extended out (take n left) (turns_both op a b) →
    Walks op first second left' right' out' a' b'
Walks-both op first second left right out left' right' out' a b a' b' n w same el er ea eb eo =
    let one = subst (λ (l : List ℕ). Walks op first second l right out a b) (sym (take-append-drop n left)) w in
    let front = sym (take-append-drop n right) ∙ ap (λ t. t ++ drop n right) (sym same) in
    let both = subst (λ (r : List ℕ). Walks op first second (take n left ++ drop n left) r out a b) front one in
    let turned_second : b' ≡ inside_behind (take n left) b = eb ∙ ap (λ t. inside_behind t b) (sym same) in
    rw (el, er, ea, turned_second, eo) (stretch_both op first second (take n left) (drop n left) (drop n right) out a b both)

-- where a list has ended, each stretch of the other is below it
pub AreBelowFirst-end : (xs ys : List ℕ) → slice_get ys 0 ≡ None → AreBelowFirst xs ys
AreBelowFirst-end xs [] h = tt
AreBelowFirst-end xs (y ∷ ys) h = cc

pub AreBelowFirst-from : (xs ys : List ℕ) (y : ℕ) → slice_get ys 0 ≡ Some y → All (λ x. x < y) xs → AreBelowFirst xs ys
AreBelowFirst-from xs [] y h all = tt
AreBelowFirst-from xs (z ∷ zs) y h all = let same : z ≡ y = cc in rw same all

AreBelowFirst-none : (ys : List ℕ) → AreBelowFirst [] ys
AreBelowFirst-none [] = tt
AreBelowFirst-none (y ∷ ys) = λ k d lt. absurd (omega arith)

-- a stretch of a list, where that list or the other has ended
AreBelowFirst-ended : (n : ℕ) (xs ys : List ℕ) → (slice_get xs 0 ≡ None) ⊎ (slice_get ys 0 ≡ None) → AreBelowFirst (take n xs) ys
AreBelowFirst-ended n xs ys (inr h) = AreBelowFirst-end (take n xs) ys h
AreBelowFirst-ended zero xs ys (inl h) = AreBelowFirst-none ys
AreBelowFirst-ended (suc n) [] ys (inl h) = AreBelowFirst-none ys
AreBelowFirst-ended (suc n) (x ∷ xs) ys (inl h) = cc

-- what is left of both lists is taken, where one of them has ended
pub Walks-rest : (op : Operation) (first second left right out out' out'' : List ℕ) (a b a' b' : Bool) (n m : ℕ) →
    Walks op first second left right out a b → (slice_get left 0 ≡ None) ⊎ (slice_get right 0 ≡ None) → n ≡ length left → m ≡ length right →
    a' ≡ inside_behind (take n left) a → out' ≡ extended out (take n left) (turns_first op b) →
    b' ≡ inside_behind (take m right) b → out'' ≡ extended out' (take m right) (turns_second op a') →
    Walks op first second [] [] out'' a' b'
Walks-rest op first second left right out out' out'' a b a' b' n m w ended en em ea eo eb eo' =
    let none_left = sym (drop_all n left (omega arith)) in
    let none_right = sym (drop_all m right (omega arith)) in
    let behind_first = Walks-first op first second left right out [] out' a b a' n w (AreBelowFirst-ended n left right ended) none_left ea eo in
    Walks-second op first second [] right out' [] out'' a' b b' m behind_first tt none_right eb eo'

-- the merged list of two walks that ended
pub Walks-list : (op : Operation) (first second out : List ℕ) (a b : Bool) → Walks op first second [] [] out a b → IsInversionList out
Walks-list op first second out true b w = cc
Walks-list op first second out false true w = cc
Walks-list op first second out false false w =
    IsInversionList-from out w.merged.ascends (w.merged.even ∙ elim op as (λ o. not (keeps o false false) ≡ true) [ Union ↦ refl | Difference ↦ refl | Intersection ↦ refl ])

pub beq-differ : (a b : Bool) → not (beq a b) ≡ differ a b
beq-differ true true = refl
beq-differ true false = refl
beq-differ false true = refl
beq-differ false false = refl

inside_behind-odd : (xs : List ℕ) (b : Bool) → inside_behind xs b ≡ differ b (not (has_even_length xs))
inside_behind-odd [] b = sym (differ-false b)
inside_behind-odd (x ∷ xs) b = inside_behind-odd xs (not b) ∙ sym (differ-true b (not (has_even_length xs)))

pub inside_behind-take : (n : ℕ) (xs : List ℕ) (b : Bool) → n ≤ length xs → not (beq b (n % 2 == 1)) ≡ inside_behind (take n xs) b
inside_behind-take n xs b le =
    beq-differ b (n % 2 == 1) ∙ ap (λ m. differ b (m % 2 == 1)) (sym (length-take-le n xs le))
    ∙ ap (differ b) (sym (odd_length (take n xs))) ∙ sym (inside_behind-odd (take n xs) b)

-- fewer elements are left where those below a number are taken and the first is below it
pub fewer-below : (xs rest : List ℕ) (n m x y : ℕ) → Some x ≡ slice_get xs 0 → x < y → IfSome (slice_get xs n) (λ z. y ≤ z) → rest ≡ drop n xs → (length rest + m < length xs + m) × (m + length rest < m + length xs)
fewer-below [] rest n m x y first lt behind is = cc
fewer-below (a ∷ xs) rest zero m x y first lt behind is = let same : x ≡ a = cc in absurd (omega arith)
fewer-below (a ∷ xs) rest (suc n) m x y first lt behind is =
    let less : length rest < length (a ∷ xs) = omega (arith, ap length is, length-drop n xs) in
    (omega arith, omega arith)

-- and where some of both lists are taken
pub fewer-both : (xs ys rest rest' : List ℕ) (n : ℕ) → 0 < n → n ≤ length xs → rest ≡ drop n xs → rest' ≡ drop n ys →
    length rest + length rest' < length xs + length ys
fewer-both xs ys rest rest' n some within is is' = omega (arith, ap length is, ap length is', length-drop n xs, length-drop n ys)
