-- Groups by their bits.
use Rattle.std.proofs.Common.{◌≡◌, ℕ, zero, suc, ◌+◌, ◌<◌, Bool, true, ◌&&◌, ◌==◌, List, [], ◌∷◌, length, refl, arith}
use Rattle.std.specs.Int.{bit_at}
use Rattle.std.proofs.lemmas.Bool.{and_parts}
use Rattle.std.proofs.lemmas.Bool.Decides.{nat_tests}
use Rattle.std.proofs.lemmas.Nat.Bits.{bit_at-lt, same_from_bits_below}
use Rattle.prop_values.specs.Category.{categories, number_of}
use Rattle.prop_values.specs.Groups.{has, SameMembers}
use Rattle.prop_values.specs.declared.category.GeneralCategory.{GeneralCategory}

-- the numbers of the categories in a list count from this one
abbrev are_numbered : ℕ → List GeneralCategory → Bool
are_numbered n [] = true
are_numbered n (c ∷ cs) = (number_of c == n) && are_numbered (n + 1) cs

same_bit : (x y : ℕ) → x < 2 → y < 2 → (x == 1) ≡ (y == 1) → x ≡ y
same_bit x y small_x small_y same = grind (arith, nat_tests)

same_bit_of : (a b i : ℕ) → (bit_at a i == 1) ≡ (bit_at b i == 1) → bit_at a i ≡ bit_at b i
same_bit_of a b i same = same_bit (bit_at a i) (bit_at b i) (bit_at-lt a i) (bit_at-lt b i) same

-- so the bits of their numbers are the same
same_bits_of : (a b n i m : ℕ) (cs : List GeneralCategory) → are_numbered n cs ≡ true → ((c : GeneralCategory) → has a c ≡ has b c) → m ≡ n + i → i < length cs → bit_at a m ≡ bit_at b m
same_bits_of a b n i m [] numbered same is below = absurd (omega arith)
same_bits_of a b n zero m (c ∷ cs) numbered same is below =
    let parts = and_parts (number_of c == n) (are_numbered (n + 1) cs) numbered in
    let here : number_of c ≡ m = grind (arith, nat_tests, parts.0) in
    rw (← here) (same_bit_of a b (number_of c) (same c))
same_bits_of a b n (suc i) m (c ∷ cs) numbered same is below =
    let parts = and_parts (number_of c == n) (are_numbered (n + 1) cs) numbered in
    same_bits_of a b (n + 1) i m cs parts.1 same (omega arith) (omega arith)

pub same_members-same_bits : SameMembers
same_members-same_bits a b small_a small_b same =
    same_from_bits_below 30 a b small_a small_b (λ i below. same_bits_of a b 0 i i categories refl same (omega arith) below)
