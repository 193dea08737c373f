-- The run that holds a number.
use Rattle.std.proofs.Common.{◌≡◌, ℕ, ◌+◌, ◌<◌, ◌≤◌, true, false, cond, Some, List, [], ◌∷◌, ap, ◌∙◌, inl, inr, arith}
use Rattle.std.proofs.lemmas.Bool.{cases_lt}
use Rattle.cp_invlist.specs.Ranges.{in_range}
use Rattle.cp_trie.specs.Runs.{value_in, run_at}
use Rattle.cp_trie.specs.declared.ranges.CodePointMapRange.{CodePointMapRange}
use Rattle.cp_trie.proofs.CoverLemmas.{IsCover, in_range-within, in_range-behind}

pub run_at-within : {V : Type 0} (r : CodePointMapRange V) (rs : List (CodePointMapRange V)) (c : ℕ) → r.range.start ≤ c → c ≤ r.range.end → run_at (r ∷ rs) c ≡ Some r
run_at-within r rs c low high = ap (λ b. cond b (Some r) (run_at rs c)) (in_range-within r.range c low high)

pub run_at-behind : {V : Type 0} (r : CodePointMapRange V) (rs : List (CodePointMapRange V)) (c : ℕ) → r.range.end < c → run_at (r ∷ rs) c ≡ run_at rs c
run_at-behind r rs c h = ap (λ b. cond b (Some r) (run_at rs c)) (in_range-behind r.range c h)

-- some run of a cover holds each code point from where it begins
pub held_by : {V : Type 0} (n : ℕ) (rs : List (CodePointMapRange V)) (c : ℕ) → IsCover n rs → n ≤ c → c ≤ 0x10_FFFF → (r : CodePointMapRange V) × (run_at rs c ≡ Some r)
held_by n [] c cover low high = absurd (omega arith)
held_by {V} n (r ∷ rs) c cover low high =
    elim (cases_lt r.range.end c) as (λ _. (x : CodePointMapRange V) × (run_at (r ∷ rs) c ≡ Some x)) [
      | inl behind ↦ let rest = held_by (r.range.end + 1) rs c cover.3 (omega arith) high in (rest.0, run_at-behind r rs c behind ∙ rest.1)
      | inr within ↦ (r, run_at-within r rs c (omega arith) within)
    ]

-- the value at a number is that of the run that holds it
pub value_in-held : {V : Type 0} (rs : List (CodePointMapRange V)) (e : V) (c : ℕ) (r : CodePointMapRange V) → run_at rs c ≡ Some r → value_in rs e c ≡ r.value
value_in-held [] e c r held = cc
value_in-held (x ∷ xs) e c r held =
    elim (in_range x.range c) as (λ b. cond b (Some x) (run_at xs c) ≡ Some r → cond b x.value (value_in xs e c) ≡ r.value)
    [ true ↦ λ h. let same : x ≡ r = cc in ap (λ y. y.value) same | false ↦ λ h. value_in-held xs e c r h ] held
