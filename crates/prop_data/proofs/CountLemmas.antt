-- How many numbers pass a test.
use Rattle.std.proofs.Common.{◌≡◌, ℕ, ◌+◌, ◌≤◌, Bool, true, false, refl, ap, arith, add-one}
use Rattle.std.specs.Int.{from_bool}
use Rattle.prop_data.specs.Counts.{count_below, one_if}

pub count_below-none : (test : ℕ → Bool) → count_below 0 test ≡ 0
unfolding count_below
count_below-none test = refl

pub count_below-next : (n : ℕ) (test : ℕ → Bool) → count_below (n + 1) test ≡ count_below n test + one_if (test n)
unfolding count_below
count_below-next n test = ap (λ (m : ℕ). count_below m test) (add-one n)

pub one_if-small : (b : Bool) → one_if b ≤ 1
one_if-small true = omega arith
one_if-small false = omega arith

-- a truth value as a number
pub from_bool-one_if : (b : Bool) → from_bool b ≡ one_if b
from_bool-one_if true = refl
from_bool-one_if false = refl
