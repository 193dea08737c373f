-- The ranges of the runs whose values pass a test are the maximal ranges of the code points whose values do.
use Rattle.std.proofs.Common.{◌≡◌, ℕ, ◌+◌, ◌<◌, ◌≤◌, Bool, true, false, ◌&&◌, List, [], ◌∷◌, Option, Some, None, length, refl, subst, sym, ap, ap₂, ◌∙◌, inl, inr, arith}
use Rattle.std.specs.Iterator.{MakesProgress, YieldsFirst, item_count}
use Rattle.std.proofs.lemmas.Bool.{cases_lt, cond_both}
use Rattle.std.proofs.lemmas.Bool.Decides.{nat_tests}
use Rattle.cp_invlist.specs.InversionList.{is_code_point}
use Rattle.cp_invlist.specs.Ranges.{AreRangesFrom}
use Rattle.cp_trie.specs.Runs.{AreRunsFrom}
use Rattle.cp_invlist.specs.declared.ranges.CodePointRange.{CodePointRange}
use Rattle.cp_trie.specs.declared.ranges.CodePointMapRange.{CodePointMapRange}
use Rattle.prop_query.specs.Passing.{grown, closed, passing_from, passing}

-- the code points whose values pass the test
abbrev pub members : {V : Type 0} → (V → Bool) → (ℕ → V) → ℕ → Bool
members passes at c = is_code_point c && passes (at c)

-- From a number on up to another nothing is a member, or up to an begun range, all of whose numbers are and which ends before the other.
abbrev IsBegun : (ℕ → Bool) → ℕ → ℕ → Option CodePointRange → Type 0
IsBegun m from n None = (from ≤ n) × ((c : ℕ) → from ≤ c → c < n → m c ≡ false)
IsBegun m from n (Some begun) =
    (from ≤ begun.start)
    × (begun.start ≤ begun.end)
    × (begun.end + 1 ≡ n)
    × ((c : ℕ) → from ≤ c → c < begun.start → m c ≡ false)
    × ((c : ℕ) → begun.start ≤ c → c ≤ begun.end → m c ≡ true)

-- all numbers of a run are members, or none is, by its value
members-run : {V : Type 0} (eq : V → V → Bool) → ((x y : V) → eq x y ≡ true → x ≡ y) → (passes : V → Bool) (at : ℕ → V) (n : ℕ) (r : CodePointMapRange V) (b : Bool) → passes r.value ≡ b → r.range.end ≤ 0x10_FFFF → r.value ≡ at n → ((c : ℕ) → n ≤ c → c ≤ r.range.end → eq (at n) (at c) ≡ true) → (c : ℕ) → n ≤ c → c ≤ r.range.end → members passes at c ≡ b
members-run eq exact passes at n r b test within value same c low high =
    let point : is_code_point c ≡ true = grind (arith, nat_tests) in
    ap₂ (λ p v. p && passes v) point (sym (exact _ _ (same c low high)) ∙ sym value) ∙ test

-- the numbers of a run whose value passes are put to the begun range
IsBegun-grown : (m : ℕ → Bool) (from n : ℕ) (begun : Option CodePointRange) (r : CodePointRange) → r.start ≡ n → n ≤ r.end → ((c : ℕ) → n ≤ c → c ≤ r.end → m c ≡ true) → IsBegun m from n begun → IsBegun m from (r.end + 1) (Some (grown begun r))
IsBegun-grown m from n None r starts ordered all is_begun =
    (omega arith, omega arith, refl, λ c low high. is_begun.1 c low (omega arith), λ c low high. all c (omega arith) high)
IsBegun-grown m from n (Some begun) r starts ordered all is_begun = (
  is_begun.0,
  omega arith,
  refl,
  is_begun.3,
  λ c low high.
      elim (cases_lt begun.end c) as (λ _. m c ≡ true) [ inl above ↦ all c (omega arith) high | inr below ↦ is_begun.4 c low below ],
)

-- the numbers of a run whose value does not pass close the begun range
ranges-closed : (m : ℕ → Bool) (from n : ℕ) (begun : Option CodePointRange) (end : ℕ) (rs : List CodePointRange) → n ≤ end → ((c : ℕ) → n ≤ c → c ≤ end → m c ≡ false) → IsBegun m from n begun → ((k : ℕ) → IsBegun m k (end + 1) None → AreRangesFrom m k rs) → AreRangesFrom m from (closed begun rs)
ranges-closed m from n None end rs ordered none is_begun behind =
    behind from (
      omega arith,
      λ c low high.
          elim (cases_lt c n) as (λ _. m c ≡ false) [ inl before ↦ is_begun.1 c low before | inr within ↦ none c within (omega arith) ],
    )
ranges-closed m from n (Some begun) end rs ordered none is_begun behind =
    (is_begun.0, is_begun.1, is_begun.3, is_begun.4, none (begun.end + 1) (omega arith) (omega arith), behind (begun.end + 1) (omega arith, λ c low high. none c (omega arith) (omega arith)))

-- behind the last code point nothing is a member
members-past_end : {V : Type 0} (passes : V → Bool) (at : ℕ → V) (c : ℕ) → 0x11_0000 ≤ c → members passes at c ≡ false
members-past_end passes at c past =
    let point : is_code_point c ≡ false = grind (arith, nat_tests) in ap (λ p. p && passes (at c)) point

-- at the end of the runs the begun range is the last
ranges-end : {V : Type 0} (passes : V → Bool) (at : ℕ → V) (from n : ℕ) (begun : Option CodePointRange) → n ≡ 0x11_0000 → IsBegun (members passes at) from n begun → AreRangesFrom (members passes at) from (closed begun [])
ranges-end passes at from n None ends is_begun =
    λ c low. elim (cases_lt c n) as (λ _. members passes at c ≡ false) [ inl before ↦ is_begun.1 c low before | inr past ↦ members-past_end passes at c (omega arith) ]
ranges-end passes at from n (Some begun) ends is_begun =
    (is_begun.0, is_begun.1, is_begun.3, is_begun.4, members-past_end passes at (begun.end + 1) (omega arith), λ c low. members-past_end passes at c (omega arith))

pub ranges-passing_from : {V : Type 0} (eq : V → V → Bool) → ((x y : V) → eq x y ≡ true → x ≡ y) → (passes : V → Bool) (at : ℕ → V) (from n : ℕ) (begun : Option CodePointRange) (rs : List (CodePointMapRange V)) → AreRunsFrom eq at n rs → IsBegun (members passes at) from n begun → AreRangesFrom (members passes at) from (passing_from passes begun rs)
ranges-passing_from eq exact passes at from n begun [] runs is_begun = ranges-end passes at from n begun runs is_begun
ranges-passing_from eq exact passes at from n begun (r ∷ rs) runs is_begun =
    let m = members passes at in
    cond_both (passes r.value) (passing_from passes (Some (grown begun r.range)) rs) (closed begun (passing_from passes None rs)) (AreRangesFrom m from)
    (λ test. ranges-passing_from eq exact passes at from (r.range.end + 1) (Some (grown begun r.range)) rs runs.6
    (IsBegun-grown m from n begun r.range runs.0 runs.1 (members-run eq exact passes at n r true test runs.2 runs.3 runs.4) is_begun))
    (λ test. ranges-closed m from n begun r.range.end (passing_from passes None rs) runs.1 (members-run eq exact passes at n r false test runs.2 runs.3 runs.4) is_begun
    (λ k behind. ranges-passing_from eq exact passes at k (r.range.end + 1) None rs runs.6 behind))

-- the maximal ranges of the code points whose values pass
pub ranges-passing : {V : Type 0} (eq : V → V → Bool) → ((x y : V) → eq x y ≡ true → x ≡ y) → (passes : V → Bool) (at : ℕ → V) (rs : List (CodePointMapRange V)) → AreRunsFrom eq at 0 rs → AreRangesFrom (members passes at) 0 (passing passes rs)
ranges-passing eq exact passes at rs runs =
    ranges-passing_from eq exact passes at 0 0 None rs runs (omega arith, λ c low high. absurd (omega arith))

-- The walk goes on with the same test.
pub yields-same : {V : Type 0} (p q : V → Bool) (s : List CodePointRange) (old new : List (CodePointMapRange V)) (r : Option CodePointRange) →
    passing p old ≡ s → q ≡ p → YieldsFirst (passing p) old r new → YieldsFirst (λ ranges. ranges) s r (passing q new)
yields-same p q s old new r view same yields =
    subst (λ t. YieldsFirst (λ ranges. ranges) s r (passing t new)) (sym same)
    (subst (λ t. YieldsFirst (λ ranges. ranges) t r (passing p new)) view yields)

-- A walk that yields the first of what is left goes on.
pub yields-goes : (s t : List CodePointRange) (r : Option CodePointRange) → YieldsFirst (λ ranges. ranges) s r t →
    MakesProgress (λ _. Unit {0}) (item_count (λ ranges. ranges)) s r t
yields-goes s t (Some x) yields = record { on = λ _. (tt, tt, omega (arith, ap length yields)); keeps = tt; rests = λ _. tt }
yields-goes s t None yields = record { on = λ _. tt; keeps = tt; rests = λ _. tt }
