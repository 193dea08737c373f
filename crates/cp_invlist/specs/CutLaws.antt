-- Where a list is cut by a number: the parts before and behind the place that a binary search finds.
use Rattle.std.proofs.Common.{◌≡◌, ℕ, zero, suc, ◌+◌, ◌-◌, ◌%◌, ◌<◌, ◌≤◌, Bool, true, false, not, ◌==◌, nat_le, nat_lt, List, [], ◌∷◌, Some, length, take, drop, get_or, All, refl, sym, ap, ◌∙◌, arith, leb-true, ◌⊎◌, inl, inr}
use Rattle.std.specs.List.{AllWithin, slice_get}
use Rattle.std.specs.List.Sorted.{IsPartitionPoint, IsPartitionedBy}
use Rattle.std.proofs.lemmas.Bool.{leb-false, ltb-true, ltb-false, cases_lt, cases_eq, not-false, not-true}
use Rattle.std.proofs.lemmas.Bool.Decides.{nat_tests}
use Rattle.std.proofs.lemmas.List.{get_or-take, get_or-drop, length-take, length-drop, take-append-drop, length-take-le}
use Rattle.std.proofs.lemmas.List.Elements.{All-take}
use Rattle.std.proofs.lemmas.Option.{get_or_from_slice_get}
use Rattle.std.proofs.lemmas.List.Sorted.{IsPartitionedBy-leb, IsPartitionedBy-ltb}
use Rattle.cp_invlist.specs.InversionList.{differ, contains, ascends_from, has_even_length, IsInversionList}
use Rattle.cp_invlist.specs.Cuts.{CutAfter, CutBefore}
use Rattle.cp_invlist.specs.ListLaws.{ascends_from-parts, IsInversionList-parts, contains-append, contains-all_at_most, contains-all_above}

-- an ascending list ascends element by element
ascends_from-at : (n k d : ℕ) (xs : List ℕ) → ascends_from n xs ≡ true → k < length xs → n ≤ get_or xs k d
ascends_from-at n k d [] h lt = absurd (omega arith)
ascends_from-at n zero d (x ∷ xs) h lt = (ascends_from-parts n x xs h).0
ascends_from-at n (suc k) d (x ∷ xs) h lt =
    let parts = ascends_from-parts n x xs h in
    let rest = ascends_from-at (suc x) k d xs parts.2 (omega arith) in
    omega arith

pub IsAscending-ascends : (n : ℕ) (xs : List ℕ) → ascends_from n xs ≡ true → (i j d : ℕ) → i < j → j < length xs → get_or xs i d < get_or xs j d
IsAscending-ascends n [] h i j d lt within = absurd (omega arith)
IsAscending-ascends n (x ∷ xs) h i zero d lt within = absurd (omega arith)
IsAscending-ascends n (x ∷ xs) h zero (suc j) d lt within = ascends_from-at (suc x) j d xs (ascends_from-parts n x xs h).2 (omega arith)
IsAscending-ascends n (x ∷ xs) h (suc i) (suc j) d lt within =
    IsAscending-ascends (suc x) xs (ascends_from-parts n x xs h).2 i j d (omega arith) (omega arith)

pub IsNonDecreasingBy-ascends : (n : ℕ) (xs : List ℕ) → ascends_from n xs ≡ true → (i j d : ℕ) → i ≤ j → j < length xs → get_or xs i d ≤ get_or xs j d
IsNonDecreasingBy-ascends n xs h i j d le within = elim (cases_lt i j) [
  | inl lt ↦ omega (arith, IsAscending-ascends n xs h i j d lt within)
  | inr ge ↦ let same : i ≡ j = omega arith in rw same (omega arith)
]

pub partitioned_at_most : (c : ℕ) (xs : List ℕ) → ascends_from 0 xs ≡ true → IsPartitionedBy (λ y. nat_le y c) xs
partitioned_at_most c xs h = IsPartitionedBy-leb (λ y. y) xs c (IsNonDecreasingBy-ascends 0 xs h)

pub partitioned_below : (c : ℕ) (xs : List ℕ) → ascends_from 0 xs ≡ true → IsPartitionedBy (λ y. nat_lt y c) xs
partitioned_below c xs h = IsPartitionedBy-ltb (λ y. y) xs c (IsNonDecreasingBy-ascends 0 xs h)

-- what stands before a place and what stands behind it
pub All-before : (P : ℕ → Type 0) (xs : List ℕ) (i : ℕ) → AllWithin P xs 0 i → All P (take i xs)
All-before P xs i h k d lt =
    let short : k < i = omega (arith, length-take i xs) in
    rw (get_or-take i xs k d) (h k d (omega arith) short)

pub All-behind : (P : ℕ → Type 0) (xs : List ℕ) (i : ℕ) → AllWithin P xs i (length xs) → All P (drop i xs)
All-behind P xs i h k d lt =
    rw (get_or-drop i xs k d) (h (i + k) d (omega arith) (omega (arith, length-drop i xs)))

pub CutAfter-from : (c : ℕ) (xs : List ℕ) (i : ℕ) → IsPartitionPoint (λ y. nat_le y c ≡ true) (λ y. nat_le y c ≡ false) xs i → CutAfter c xs i
CutAfter-from c xs i h = record {
  before = λ k d lt. leb-true _ _ (All-before (λ y. nat_le y c ≡ true) xs i h.0 k d lt);
  behind = λ k d lt. leb-false _ _ (All-behind (λ y. nat_le y c ≡ false) xs i h.1 k d lt);
}

pub CutBefore-from : (c : ℕ) (xs : List ℕ) (i : ℕ) → IsPartitionPoint (λ y. nat_lt y c ≡ true) (λ y. nat_lt y c ≡ false) xs i → CutBefore c xs i
CutBefore-from c xs i h = record {
  before = λ k d lt. ltb-true _ _ (All-before (λ y. nat_lt y c ≡ true) xs i h.0 k d lt);
  behind = λ k d lt. ltb-false _ _ (All-behind (λ y. nat_lt y c ≡ false) xs i h.1 k d lt);
}

not-remainder : (n : ℕ) → not (n % 2 == 1) ≡ (suc n % 2 == 1)
not-remainder n = grind (arith, nat_tests)

-- a length is odd by its remainder
pub odd_length : (xs : List ℕ) → not (has_even_length xs) ≡ (length xs % 2 == 1)
odd_length [] = refl
odd_length (x ∷ xs) = ap not (odd_length xs) ∙ not-remainder (length xs)

pub differ-false : (b : Bool) → differ b false ≡ b
differ-false true = refl
differ-false false = refl

-- the number is a member where the place behind the last element at most it is odd
pub contains-cut : (c : ℕ) (xs : List ℕ) (i : ℕ) → i ≤ length xs → CutAfter c xs i → contains xs c ≡ (i % 2 == 1)
contains-cut c xs i le cut =
    ap (λ l. contains l c) (sym (take-append-drop i xs))
    ∙ contains-append (take i xs) (drop i xs) c
    ∙ ap (λ b. differ (contains (take i xs) c) b) (contains-all_above c (drop i xs) cut.behind)
    ∙ differ-false (contains (take i xs) c)
    ∙ contains-all_at_most c (take i xs) cut.before
    ∙ odd_length (take i xs)
    ∙ ap (λ n. n % 2 == 1) (length-take-le i xs le)

-- all elements of an ascending list are below what is above its last
pub All-above_last : (n start : ℕ) (xs : List ℕ) → ascends_from n xs ≡ true → (0 < length xs → (d : ℕ) → get_or xs (length xs - 1) d < start) → All (λ x. x < start) xs
All-above_last n start xs h last k d lt =
    let at_last = last (omega arith) d in
    let ordered = IsNonDecreasingBy-ascends n xs h k (length xs - 1) d (omega arith) (omega arith) in
    omega arith

-- no number from the last element on is a member
pub none_from_last : (xs : List ℕ) (last c : ℕ) → IsInversionList xs → slice_get xs (length xs - 1) ≡ Some last → last ≤ c → contains xs c ≡ false
none_from_last xs last c list is le =
    let parts = IsInversionList-parts xs list in
    let below = All-above_last 0 (suc c) xs parts.0 (λ some d. omega (arith, le, get_or_from_slice_get xs (length xs - 1) last d is)) in
    contains-all_at_most c xs (λ k d lt. omega (arith, below k d lt)) ∙ ap not parts.1

-- where the first number is below the second, so are the cuts
pub cuts_ordered : (xs : List ℕ) (start past low high : ℕ) → low ≤ length xs → start < past → CutBefore start xs low → CutAfter past xs high → low ≤ high
cuts_ordered xs start past low high le lt before after = elim (cases_lt high low) [
  | inl short ↦
      let small = before.before high 0 (omega (arith, length-take-le low xs le)) in
      let large = after.behind 0 0 (omega (arith, length-drop high xs)) in
      let same : get_or (take low xs) high 0 ≡ get_or (drop high xs) 0 0 =
      get_or-take low xs high 0 short ∙ ap (λ k. get_or xs k 0) (omega arith) ∙ sym (get_or-drop high xs 0 0) in
      absurd (omega arith)
  | inr ge ↦ ge
]

-- the last element of an ascending list stands behind what is below it
pub CutBefore-last : (c : ℕ) (xs : List ℕ) → ascends_from 0 xs ≡ true → 0 < length xs → ((d : ℕ) → get_or xs (length xs - 1) d ≡ c) → CutBefore c xs (length xs - 1)
CutBefore-last c xs h some last = record {
  before = λ k d lt.
      let short : k < length xs - 1 = omega (arith, length-take-le (length xs - 1) xs (omega arith)) in
      rw (get_or-take (length xs - 1) xs k d short) (omega (arith, last d, IsAscending-ascends 0 xs h k (length xs - 1) d short (omega arith)));
  behind = λ k d lt.
      let first : k ≡ 0 = omega (arith, length-drop (length xs - 1) xs) in
      let same : get_or xs (length xs - 1 + k) d ≡ c = ap (λ i. get_or xs i d) (omega arith) ∙ last d in
      rw (get_or-drop (length xs - 1) xs k d) (omega (arith, same));
}

-- a place behind all elements
pub CutBefore-all : (c : ℕ) (xs : List ℕ) → All (λ x. x < c) xs → CutBefore c xs (length xs)
CutBefore-all c xs all = record {
  before = All-take (λ x. x < c) (length xs) xs all;
  behind = λ k d lt. absurd (omega (arith, length-drop (length xs) xs));
}

pub CutAfter-all : (c : ℕ) (xs : List ℕ) → All (λ x. x ≤ c) xs → CutAfter c xs (length xs)
CutAfter-all c xs all = record {
  before = All-take (λ x. x ≤ c) (length xs) xs all;
  behind = λ k d lt. absurd (omega (arith, length-drop (length xs) xs));
}

-- the parity of a cut list by the place
pub has_even_length-take : (xs : List ℕ) (i : ℕ) → i ≤ length xs → i % 2 ≡ 0 → has_even_length (take i xs) ≡ true
has_even_length-take xs i le even =
    not-false _ (odd_length (take i xs) ∙ ap (λ n. n % 2 == 1) (length-take-le i xs le) ∙ ap (λ n. n == 1) even)

pub has_odd_length-take : (xs : List ℕ) (i : ℕ) → i ≤ length xs → i % 2 ≡ 1 → has_even_length (take i xs) ≡ false
has_odd_length-take xs i le odd =
    not-true _ (odd_length (take i xs) ∙ ap (λ n. n % 2 == 1) (length-take-le i xs le) ∙ ap (λ n. n == 1) odd)

pub cases_parity : (n : ℕ) → (n % 2 ≡ 0) ⊎ (n % 2 ≡ 1)
cases_parity n = elim (cases_eq (n % 2) 0) [ inl e ↦ inl e | inr ne ↦ inr (omega arith) ]
