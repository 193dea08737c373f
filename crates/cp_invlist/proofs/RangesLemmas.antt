-- The ranges that an inversion list spells are the maximal ranges of its members, and there are no others.
use Rattle.std.proofs.Common.{◌≡◌, ℕ, suc, ◌+◌, ◌-◌, ◌/◌, ◌<◌, ◌≤◌, Bool, true, false, not, List, [], ◌∷◌, length, take, drop, get_or, refl, sym, ap, ap₂, ◌∙◌, arith, true≢false, subst, inl, inr}
use Rattle.std.proofs.lemmas.Bool.{le-leb, lt-leb, cases_lt}
use Rattle.std.proofs.lemmas.List.{take_rest}
use Rattle.cp_invlist.specs.InversionList.{differ, contains, ascends_from, has_even_length, IsInversionList}
use Rattle.cp_invlist.specs.Ranges.{AreRangesFrom, AreMaximalRanges, ranges_of}
use Rattle.cp_invlist.specs.declared.ranges.CodePointRange.{CodePointRange}
use Rattle.cp_invlist.specs.ListLaws.{ascends_from-parts, ascends_from-lower, ascends_from-drop, contains-below, IsInversionList-parts, IsInversionList-from}

-- membership before, in and behind the first range of a list
pub contains-first_below : (a b c : ℕ) (xs : List ℕ) → a < b → ascends_from (suc b) xs ≡ true → c < a → contains (a ∷ b ∷ xs) c ≡ false
contains-first_below a b c xs lt h below =
    ap₂ (λ p q. differ p (differ q (contains xs c))) (lt-leb a c below) (lt-leb b c (omega arith))
    ∙ contains-below (suc b) c xs h (omega arith)

pub contains-first_within : (a b c : ℕ) (xs : List ℕ) → ascends_from (suc b) xs ≡ true → a ≤ c → c < b → contains (a ∷ b ∷ xs) c ≡ true
contains-first_within a b c xs h low high =
    ap₂ (λ p q. differ p (differ q (contains xs c))) (le-leb a c low) (lt-leb b c high)
    ∙ ap not (contains-below (suc b) c xs h (omega arith))

pub contains-first_behind : (a b c : ℕ) (xs : List ℕ) → a < b → b ≤ c → contains (a ∷ b ∷ xs) c ≡ contains xs c
contains-first_behind a b c xs lt le =
    ap₂ (λ p q. differ p (differ q (contains xs c))) (le-leb a c (omega arith)) (le-leb b c le)
    ∙ elim (contains xs c) as (λ b. not (not b) ≡ b) [ true ↦ refl | false ↦ refl ]

-- a list whose length is even behind two elements
pub even_rest : (xs : List ℕ) → not (not (has_even_length xs)) ≡ true → has_even_length xs ≡ true
even_rest xs h = elim (has_even_length xs) as (λ v. not (not v) ≡ true → v ≡ true) [ true ↦ λ _. refl | false ↦ λ e. e ] h

pub ranges_of-maximal : (m : ℕ → Bool) (n : ℕ) (xs : List ℕ) → ascends_from n xs ≡ true → has_even_length xs ≡ true →
    ((c : ℕ) → n ≤ c → m c ≡ contains xs c) → AreRangesFrom m n (ranges_of xs)
ranges_of-maximal m n [] h even same = same
ranges_of-maximal m n (a ∷ []) h even same = absurd (true≢false (sym even))
ranges_of-maximal m n (a ∷ b ∷ xs) h even same =
    let first = ascends_from-parts n a (b ∷ xs) h in
    let second = ascends_from-parts (suc a) b xs first.2 in
    let end : b - 1 + 1 ≡ b = omega arith in
    let even' = even_rest xs even in (
      first.0,
      omega arith,
      λ c low high. same c low ∙ contains-first_below a b c xs second.0 second.2 high,
      λ c low high. same c (omega arith) ∙ contains-first_within a b c xs second.2 low (omega arith),
      ap m end ∙ same b (omega arith) ∙ contains-first_behind a b b xs second.0 (omega arith) ∙ contains-below (suc b) b xs second.2 (omega arith),
      subst (λ (k : ℕ). AreRangesFrom m k (ranges_of xs)) (sym end)
          (ranges_of-maximal m b xs (ascends_from-lower b (suc b) xs (omega arith) second.2) even'
          (λ c le. same c (omega arith) ∙ contains-first_behind a b c xs second.0 le)),
    )

pub AreMaximalRanges-ranges_of : (xs : List ℕ) → IsInversionList xs → AreMaximalRanges (contains xs) (ranges_of xs)
AreMaximalRanges-ranges_of xs h =
    let parts = IsInversionList-parts xs h in
    ranges_of-maximal (contains xs) 0 xs parts.0 parts.1 (λ c _. refl)

-- each range is spelled by two elements
pub length-ranges_of : (xs : List ℕ) → length (ranges_of xs) ≡ length xs / 2
length-ranges_of [] = refl
length-ranges_of (a ∷ []) = refl
length-ranges_of (a ∷ b ∷ xs) = omega (arith, length-ranges_of xs)

-- a set has one list of maximal ranges
pub AreRangesFrom-unique : (m : ℕ → Bool) (n : ℕ) (rs ss : List CodePointRange) → AreRangesFrom m n rs → AreRangesFrom m n ss → rs ≡ ss
AreRangesFrom-unique m n [] [] hr hs = refl
AreRangesFrom-unique m n [] (s ∷ ss) hr hs =
    absurd (true≢false (sym (hs.3 s.start (omega arith) hs.1) ∙ hr s.start hs.0))
AreRangesFrom-unique m n (r ∷ rs) [] hr hs =
    absurd (true≢false (sym (hr.3 r.start (omega arith) hr.1) ∙ hs r.start hr.0))
AreRangesFrom-unique m n (r ∷ rs) (s ∷ ss) hr hs =
    let no_start : (a b : CodePointRange) → n ≤ a.start → a.start ≤ a.end → ((c : ℕ) → a.start ≤ c → c ≤ a.end → m c ≡ true) →
    ((c : ℕ) → n ≤ c → c < b.start → m c ≡ false) → a.start < b.start → ⊥ =
    λ a b low ends inside before lt. true≢false (sym (inside a.start (omega arith) ends) ∙ before a.start low lt) in
    let starts : r.start ≡ s.start = elim (cases_lt r.start s.start) [
      | inl lt ↦ absurd (no_start r s hr.0 hr.1 hr.3 hs.2 lt)
      | inr ge ↦ elim (cases_lt s.start r.start) [
        | inl lt ↦ absurd (no_start s r hs.0 hs.1 hs.3 hr.2 lt)
        | inr le ↦ omega arith
      ]
    ] in
    let no_end : (a b : CodePointRange) → a.start ≡ b.start → a.start ≤ a.end → m (a.end + 1) ≡ false →
    ((c : ℕ) → b.start ≤ c → c ≤ b.end → m c ≡ true) → a.end < b.end → ⊥ =
    λ a b same ends past inside lt. true≢false (sym (inside (a.end + 1) (omega arith) (omega arith)) ∙ past) in
    let ends : r.end ≡ s.end = elim (cases_lt r.end s.end) [
      | inl lt ↦ absurd (no_end r s starts hr.1 hr.4 hs.3 lt)
      | inr ge ↦ elim (cases_lt s.end r.end) [
        | inl lt ↦ absurd (no_end s r (sym starts) hs.1 hs.4 hr.3 lt)
        | inr le ↦ omega arith
      ]
    ] in
    ap₂ ◌∷◌ (ap₂ (λ (a b : ℕ). let x : CodePointRange = record { start = a; end = b } in x) starts ends)
    (AreRangesFrom-unique m (r.end + 1) rs ss hr.5 (subst (λ (k : ℕ). AreRangesFrom m (k + 1) ss) (sym ends) hs.5))

-- the first range of a list with two elements and more
pub ranges_of-first : (xs : List ℕ) → 2 ≤ length xs → ranges_of xs ≡ record { start = get_or xs 0 0; end = get_or xs 1 0 - 1 } ∷ ranges_of (take (length xs - 2) (drop 2 xs))
ranges_of-first [] le = absurd (omega arith)
ranges_of-first (a ∷ []) le = absurd (omega arith)
ranges_of-first (a ∷ b ∷ xs) le = rw (take_rest (a ∷ b ∷ xs) 2)

-- what is left of a list behind its first range
pub IsInversionList-rest : (xs : List ℕ) → 2 ≤ length xs → IsInversionList xs → IsInversionList (take (length xs - 2) (drop 2 xs))
IsInversionList-rest [] le h = absurd (omega arith)
IsInversionList-rest (a ∷ []) le h = absurd (omega arith)
IsInversionList-rest (a ∷ b ∷ xs) le h =
    let parts = IsInversionList-parts (a ∷ b ∷ xs) h in
    let even' = even_rest xs parts.1 in
    rw (take_rest (a ∷ b ∷ xs) 2) (IsInversionList-from xs (ascends_from-drop 0 2 (a ∷ b ∷ xs) parts.0) even')

-- the list that spells the ranges
list_of : List CodePointRange → List ℕ
list_of [] = []
list_of (r ∷ rs) = r.start ∷ (r.end + 1) ∷ list_of rs

list_of-ranges_of : (n : ℕ) (xs : List ℕ) → ascends_from n xs ≡ true → has_even_length xs ≡ true → list_of (ranges_of xs) ≡ xs
unfolding list_of
list_of-ranges_of n [] h even = refl
list_of-ranges_of n (a ∷ []) h even = absurd (true≢false (sym even))
list_of-ranges_of n (a ∷ b ∷ xs) h even =
    let first = ascends_from-parts n a (b ∷ xs) h in
    let second = ascends_from-parts (suc a) b xs first.2 in
    let end : b - 1 + 1 ≡ b = omega arith in
    ap₂ (λ (e : ℕ) (l : List ℕ). a ∷ e ∷ l) end (list_of-ranges_of (suc b) xs second.2 (even_rest xs even))

-- two sets with the same members have the same list
pub same_members-same_lists : (xs ys : List ℕ) → IsInversionList xs → IsInversionList ys → ((c : ℕ) → contains xs c ≡ contains ys c) → xs ≡ ys
same_members-same_lists xs ys hx hy same =
    let px = IsInversionList-parts xs hx in
    let py = IsInversionList-parts ys hy in
    let ranges = AreRangesFrom-unique (contains xs) 0 (ranges_of xs) (ranges_of ys) (AreMaximalRanges-ranges_of xs hx)
    (ranges_of-maximal (contains xs) 0 ys py.0 py.1 (λ c _. same c)) in
    sym (list_of-ranges_of 0 xs px.0 px.1) ∙ ap list_of ranges ∙ list_of-ranges_of 0 ys py.0 py.1
