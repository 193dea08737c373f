-- What operations on words do to their bits.
use Rattle.std.proofs.Common.{◌≡◌, ℕ, zero, suc, ◌-◌, ◌^◌, ◌≤◌, ◌<◌, max, min, true, false, not, ◌&&◌, ◌||◌, ◌==◌, refl, ap, ◌∙◌, arith, bit_and, bit_or, ◌+◌, ◌%◌, inl, inr}
use Rattle.std.specs.Int.{bit_at, w64, trailing_zeros}
use Rattle.std.specs.Int.RustNames.{bit_xor}
use Rattle.std.specs.Int.Count.{trailing_of_zero}
use Rattle.std.proofs.lemmas.Bool.{cases_lt}
use Rattle.std.proofs.lemmas.Nat.Bits.{bit_at_and, bit_at_or, bit_at_xor, bit_at_not, bit_at-lt, bit_at-trailing_zeros}
use Rattle.cp_invlist.specs.InversionList.{differ}
use Rattle.cp_invlist.specs.Words.{has_bit}

or_of : (x y : ℕ) → x < 2 → y < 2 → (max x y == 1) ≡ (x == 1 || y == 1)
or_of zero zero hx hy = refl
or_of zero (suc zero) hx hy = refl
or_of (suc zero) zero hx hy = refl
or_of (suc zero) (suc zero) hx hy = refl
or_of (suc (suc x)) y hx hy = absurd (omega arith)
or_of zero (suc (suc y)) hx hy = absurd (omega arith)
or_of (suc zero) (suc (suc y)) hx hy = absurd (omega arith)

and_of : (x y : ℕ) → x < 2 → y < 2 → (min x y == 1) ≡ (x == 1 && y == 1)
and_of zero zero hx hy = refl
and_of zero (suc zero) hx hy = refl
and_of (suc zero) zero hx hy = refl
and_of (suc zero) (suc zero) hx hy = refl
and_of (suc (suc x)) y hx hy = absurd (omega arith)
and_of zero (suc (suc y)) hx hy = absurd (omega arith)
and_of (suc zero) (suc (suc y)) hx hy = absurd (omega arith)

not_of : (x : ℕ) → x < 2 → (1 - x == 1) ≡ not (x == 1)
not_of zero hx = refl
not_of (suc zero) hx = refl
not_of (suc (suc x)) hx = absurd (omega arith)

pub has_bit-or : (a b j : ℕ) → has_bit (bit_or a b) j ≡ (has_bit a j || has_bit b j)
has_bit-or a b j = ap (λ n. n == 1) (bit_at_or a b j) ∙ or_of (bit_at a j) (bit_at b j) (bit_at-lt a j) (bit_at-lt b j)

pub has_bit-and : (a b j : ℕ) → has_bit (bit_and a b) j ≡ (has_bit a j && has_bit b j)
has_bit-and a b j = ap (λ n. n == 1) (bit_at_and a b j) ∙ and_of (bit_at a j) (bit_at b j) (bit_at-lt a j) (bit_at-lt b j)

sum_of : (x y : ℕ) → x < 2 → y < 2 → ((x + y) % 2 == 1) ≡ differ (y == 1) (x == 1)
sum_of zero zero hx hy = refl
sum_of zero (suc zero) hx hy = refl
sum_of (suc zero) zero hx hy = refl
sum_of (suc zero) (suc zero) hx hy = refl
sum_of (suc (suc x)) y hx hy = absurd (omega arith)
sum_of zero (suc (suc y)) hx hy = absurd (omega arith)
sum_of (suc zero) (suc (suc y)) hx hy = absurd (omega arith)

pub has_bit-xor : (a b j : ℕ) → has_bit (bit_xor a b) j ≡ differ (has_bit b j) (has_bit a j)
has_bit-xor a b j = ap (λ n. n == 1) (bit_at_xor a b j) ∙ sum_of (bit_at a j) (bit_at b j) (bit_at-lt a j) (bit_at-lt b j)

pub has_bit-not : (a j : ℕ) → a < 2 ^ 64 → j < 64 → has_bit (18446744073709551615 - a) j ≡ not (has_bit a j)
has_bit-not a j ha hj = ap (λ n. n == 1) (bit_at_not w64 a j ha hj) ∙ not_of (bit_at a j) (bit_at-lt a j)

pub has_bit-and_not : (a b j : ℕ) → b < 2 ^ 64 → j < 64 → has_bit (bit_and a (18446744073709551615 - b)) j ≡ (has_bit a j && not (has_bit b j))
has_bit-and_not a b j hb hj = has_bit-and a (18446744073709551615 - b) j ∙ ap (λ x. has_bit a j && x) (has_bit-not b j hb hj)

-- A word that has no bit up to a place has more zeros at its end.
pub zeros_more : (n k : ℕ) → n < 2 ^ 64 → k < 64 → ((j : ℕ) → j ≤ k → has_bit n j ≡ false) → k < trailing_zeros w64 n
zeros_more n k fits short none = elim (cases_lt k (trailing_zeros w64 n)) [
  | inl more ↦ more
  | inr few ↦ elim (cases_lt 0 n) [
    | inl some ↦
        let there : has_bit n (trailing_zeros w64 n) ≡ true = ap (λ b. b == 1) (bit_at-trailing_zeros w64 n some fits).1 in
        absurd (let e = none (trailing_zeros w64 n) few in cc)
    | inr zero_is ↦
        let is : n ≡ 0 = omega (arith, zero_is) in
        absurd (omega (arith, few, short, ap (trailing_zeros w64) is, trailing_of_zero 64))
  ]
]

-- the zeros at the end of a word, and the bit behind them
pub has_bit-before : (n j : ℕ) → 0 < n → n < 2 ^ 64 → j < trailing_zeros w64 n → has_bit n j ≡ false
has_bit-before n j some fits lt = ap (λ b. b == 1) ((bit_at-trailing_zeros w64 n some fits).2 j lt)

pub has_bit-first : (n : ℕ) → 0 < n → n < 2 ^ 64 → has_bit n (trailing_zeros w64 n) ≡ true
has_bit-first n some fits = ap (λ b. b == 1) (bit_at-trailing_zeros w64 n some fits).1
