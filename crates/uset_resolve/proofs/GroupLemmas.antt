-- The group that a number unpacks to.
use Rattle.std.proofs.Common.{◌≡◌, ℕ, ◌<◌, true, cond, nat_lt, Option, Some, None, sym, ap, ◌∙◌, arith}
use Rattle.std.proofs.lemmas.Bool.Decides.{nat_tests}
use Rattle.prop_values.specs.Groups.{packings, bits_in, unpacked_group}
use Rattle.uset_resolve.specs.Resolution.{group_bits}

-- a number of 16 bits unpacks to the group of its bits
pub unpacked-bits : (n group : ℕ) → n < 65536 → unpacked_group n ≡ Some group → group ≡ group_bits n
unfolding group_bits
unpacked-bits n group small h =
    let low : nat_lt n 65536 ≡ true = grind (arith, nat_tests) in
    let same : ◌≡◌ {A = Option ℕ} (Some (bits_in packings n)) (Some group) = sym (ap (λ b. cond b (Some (bits_in packings n)) None) low) ∙ h in
    cc
