-- The word of no members.
use Rattle.std.proofs.Common.{◌≡◌, ℕ, false, ◌==◌, ap}
use Rattle.std.proofs.lemmas.Nat.Bits.{bit_at-zero}
use Rattle.cp_invlist.specs.Words.{has_bit}

pub has_bit-zero : (j : ℕ) → has_bit 0 j ≡ false
has_bit-zero j = ap (λ n. n == 1) (bit_at-zero j)
