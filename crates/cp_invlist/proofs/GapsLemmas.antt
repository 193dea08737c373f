-- The gaps between the ranges of an inversion list are the maximal ranges of the code points that are no members.
use Rattle.std.proofs.Common.{◌≡◌, ℕ, suc, ◌+◌, ◌-◌, ◌<◌, ◌≤◌, Bool, true, false, not, ◌&&◌, List, [], ◌∷◌, length, take, drop, get_or, refl, sym, ap, ap₂, ◌∙◌, arith, true≢false, subst, inl, inr}
use Rattle.std.proofs.lemmas.Bool.{le-leb, lt-leb, cases_lt}
use Rattle.std.proofs.lemmas.List.{take_rest}
use Rattle.cp_invlist.specs.InversionList.{contains, is_code_point, ascends_from, has_even_length, IsInversionList}
use Rattle.cp_invlist.specs.Ranges.{AreRangesFrom, AreMaximalRanges, is_outside, last_gap, gaps_from}
use Rattle.cp_invlist.specs.Gap.{IsGapBefore}
use Rattle.cp_invlist.specs.declared.ranges.CodePointRange.{CodePointRange}
use Rattle.cp_invlist.specs.ListLaws.{ascends_from-parts, ascends_from-cons, IsInversionList-parts}
use Rattle.cp_invlist.proofs.RangesLemmas.{contains-first_below, contains-first_within, contains-first_behind, even_rest}

-- the first gap of a list with two elements and more
pub gaps_from_first : (n : ℕ) (xs : List ℕ) → 2 ≤ length xs →
    gaps_from n xs ≡ record { start = n; end = get_or xs 0 0 - 1 } ∷ gaps_from (get_or xs 1 0) (take (length xs - 2) (drop 2 xs))
gaps_from_first n [] le = absurd (omega arith)
gaps_from_first n (a ∷ []) le = absurd (omega arith)
gaps_from_first n (a ∷ b ∷ xs) le = rw (take_rest (a ∷ b ∷ xs) 2)

-- ranges from a number are those from a lower one, where nothing between is a member
AreRangesFrom-lower : (m : ℕ → Bool) (a b : ℕ) (rs : List CodePointRange) → a ≤ b → ((c : ℕ) → a ≤ c → c < b → m c ≡ false) → AreRangesFrom m b rs → AreRangesFrom m a rs
AreRangesFrom-lower m a b [] le none h = λ c low. elim (cases_lt c b) [ inl lt ↦ none c low lt | inr ge ↦ h c ge ]
AreRangesFrom-lower m a b (r ∷ rs) le none h = (
  omega arith,
  h.1,
  λ c low high. elim (cases_lt c b) [ inl lt ↦ none c low lt | inr ge ↦ h.2 c ge high ],
  h.3,
  h.4,
  h.5,
)

is_outside-member : (xs : List ℕ) (c : ℕ) → contains xs c ≡ true → is_outside xs c ≡ false
is_outside-member xs c h =
    ap (λ b. is_code_point c && not b) h ∙ elim (is_code_point c) as (λ b. (b && false) ≡ false) [ true ↦ refl | false ↦ refl ]

is_outside-none : (xs : List ℕ) (c : ℕ) → c ≤ 0x10_FFFF → contains xs c ≡ false → is_outside xs c ≡ true
is_outside-none xs c le h = ap₂ (λ a b. a && not b) (le-leb c 0x10_FFFF le) h

is_outside-past : (xs : List ℕ) (c : ℕ) → 0x10_FFFF < c → is_outside xs c ≡ false
is_outside-past xs c lt = ap (λ b. b && not (contains xs c)) (lt-leb c 0x10_FFFF lt)

-- the last gap, from a number on from which nothing is a member
last_gap-maximal : (m : ℕ → Bool) (n : ℕ) → ((c : ℕ) → n ≤ c → m c ≡ is_outside [] c) → AreRangesFrom m n (last_gap n)
last_gap-maximal m n same = elim (cases_lt 0x10_FFFF n) [
  | inl past ↦ rw (lt-leb n 0x10_FFFF past) (λ c le. same c le ∙ is_outside-past [] c (omega arith))
  | inr within ↦ rw (le-leb n 0x10_FFFF within) (
    omega arith,
    within,
    λ c low high. absurd (omega arith),
    λ c low high. same c low ∙ is_outside-none [] c high refl,
    same 0x11_0000 (omega arith) ∙ is_outside-past [] 0x11_0000 (omega arith),
    λ c low. same c (omega arith) ∙ is_outside-past [] c (omega arith),
  )
]

gaps_from-maximal : (m : ℕ → Bool) (n : ℕ) (xs : List ℕ) → n ≤ 0x11_0000 → ascends_from (suc n) xs ≡ true → has_even_length xs ≡ true →
    ((c : ℕ) → n ≤ c → m c ≡ is_outside xs c) → AreRangesFrom m n (gaps_from n xs)
gaps_from-maximal m n [] le h even same = last_gap-maximal m n same
gaps_from-maximal m n (a ∷ []) le h even same = absurd (true≢false (sym even))
gaps_from-maximal m n (a ∷ b ∷ xs) le h even same =
    let first = ascends_from-parts (suc n) a (b ∷ xs) h in
    let second = ascends_from-parts (suc a) b xs first.2 in
    let end : a - 1 + 1 ≡ a = omega arith in
    let member : (c : ℕ) → a ≤ c → c < b → m c ≡ false =
    λ c low high. same c (omega arith) ∙ is_outside-member (a ∷ b ∷ xs) c (contains-first_within a b c xs second.2 low high) in (
      omega arith,
      omega arith,
      λ c low high. absurd (omega arith),
      λ c low high. same c low ∙ is_outside-none (a ∷ b ∷ xs) c (omega arith) (contains-first_below a b c xs second.0 second.2 (omega arith)),
      ap m end ∙ member a (omega arith) second.0,
      subst (λ (k : ℕ). AreRangesFrom m k (gaps_from b xs)) (sym end)
          (
          AreRangesFrom-lower m a b (gaps_from b xs) (omega arith) member
          (gaps_from-maximal m b xs second.1 second.2 (even_rest xs even)
          (λ c low. same c (omega arith) ∙ ap (λ v. is_code_point c && not v) (contains-first_behind a b c xs second.0 low)))
          ),
    )

-- a list whose first range starts above 0, or that is empty
pub gaps-behind_zero : (xs : List ℕ) → IsInversionList xs → (0 < length xs → 0 < get_or xs 0 0) → IsGapBefore 0 xs
gaps-behind_zero [] h first = record { within = omega arith; ascends = refl; even = refl }
gaps-behind_zero (a ∷ xs) h first =
    let parts = IsInversionList-parts (a ∷ xs) h in
    let order = ascends_from-parts 0 a xs parts.0 in
    record {
      within = omega arith;
      ascends = ascends_from-cons (suc 0) a xs (first (omega arith)) order.1 order.2;
      even = parts.1;
    }

pub gaps-maximal : (xs : List ℕ) → IsGapBefore 0 xs → AreMaximalRanges (is_outside xs) (gaps_from 0 xs)
gaps-maximal xs h = gaps_from-maximal (is_outside xs) 0 xs h.within h.ascends h.even (λ c _. refl)

-- a list whose first range starts at 0
pub gaps-behind_first : (xs : List ℕ) → IsInversionList xs → 2 ≤ length xs → get_or xs 0 0 ≡ 0 →
    IsGapBefore (get_or xs 1 0) (take (length xs - 2) (drop 2 xs))
    × AreMaximalRanges (is_outside xs) (gaps_from (get_or xs 1 0) (take (length xs - 2) (drop 2 xs)))
gaps-behind_first [] h le zeroth = absurd (omega arith)
gaps-behind_first (a ∷ []) h le zeroth = absurd (omega arith)
gaps-behind_first (a ∷ b ∷ xs) h le zeroth =
    let parts = IsInversionList-parts (a ∷ b ∷ xs) h in
    let first = ascends_from-parts 0 a (b ∷ xs) parts.0 in
    let second = ascends_from-parts (suc a) b xs first.2 in
    let even = even_rest xs parts.1 in
    rw (take_rest (a ∷ b ∷ xs) 2) (
      record { within = second.1; ascends = second.2; even = even },
      AreRangesFrom-lower (is_outside (a ∷ b ∷ xs)) 0 b (gaps_from b xs) (omega arith)
          (λ c low high. is_outside-member (a ∷ b ∷ xs) c (contains-first_within a b c xs second.2 (omega arith) high))
          (gaps_from-maximal (is_outside (a ∷ b ∷ xs)) b xs second.1 second.2 even
          (λ c low. ap (λ v. is_code_point c && not v) (contains-first_behind a b c xs second.0 low))),
    )

-- an inversion list of fewer than two elements
pub gaps-behind_none : (xs : List ℕ) → IsInversionList xs → length xs < 2 → IsGapBefore 0 xs
gaps-behind_none [] h short = record { within = omega arith; ascends = refl; even = refl }
gaps-behind_none (a ∷ []) h short = absurd (true≢false (sym (IsInversionList-parts (a ∷ []) h).1))
gaps-behind_none (a ∷ b ∷ xs) h short = absurd (omega arith)
