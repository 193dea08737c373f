-- The law of the packing of groups.
use Rattle.std.proofs.Common.{◌≡◌, ℕ, ◌<◌, ◌^◌, Bool, true, false, cond, ◌&&◌, ◌==◌, Some, None, List, [], ◌∷◌, nat_lt, refl, sym, ap, ◌∙◌, arith}
use Rattle.std.specs.Prelude.{is_some}
use Rattle.std.proofs.lemmas.Bool.{and_parts}
use Rattle.std.proofs.lemmas.Bool.Decides.{nat_tests}
use Rattle.std.proofs.lemmas.Option.{cond_some}
use Rattle.prop_values.specs.Groups.{number_in, bits_in, packings, packed_group, unpacked_group}

-- the bits that the number of these bits stands for are these bits
abbrev comes_back : ℕ → Bool
comes_back bits = (bits_in packings (number_in packings bits) == bits) && nat_lt (number_in packings bits) 65536

-- so it is for the bits of each row
abbrev all_come_back : List (ℕ × ℕ) → Bool
all_come_back [] = true
all_come_back (row ∷ rows) = comes_back row.1 && all_come_back rows

choice_comes_back : (b : Bool) (x y : ℕ) → comes_back x ≡ true → comes_back y ≡ true → comes_back (cond b x y) ≡ true
choice_comes_back true x y h k = h
choice_comes_back false x y h k = k

-- the bits of a number come back where those of each row and none do
bits_in-comes_back : (rows : List (ℕ × ℕ)) (n : ℕ) → comes_back 0 ≡ true → all_come_back rows ≡ true →
    comes_back (bits_in rows n) ≡ true
bits_in-comes_back [] n empty all = empty
bits_in-comes_back (row ∷ rows) n empty all =
    let parts = and_parts (comes_back row.1) (all_come_back rows) all in
    choice_comes_back (row.0 == n) row.1 (bits_in rows n) parts.0 (bits_in-comes_back rows n empty parts.1)

-- the packing of a group that a number unpacks to unpacks to that group
pub unpacked_group-again : (n group : ℕ) → unpacked_group n ≡ Some group →
    unpacked_group (packed_group group) ≡ Some group
unpacked_group-again n group h =
    let group_is : bits_in packings n ≡ group = (cond_some (nat_lt n 65536) (bits_in packings n) group h).1 in
    let back = bits_in-comes_back packings n refl refl in
    let parts = and_parts (bits_in packings (number_in packings (bits_in packings n)) == bits_in packings n) _ back in
    let same : bits_in packings (number_in packings (bits_in packings n)) ≡ bits_in packings n = grind (arith, nat_tests, parts.0) in
    let again : unpacked_group (number_in packings (bits_in packings n)) ≡ Some (bits_in packings n) = ap (λ b. cond b (Some (bits_in packings (number_in packings (bits_in packings n)))) None) parts.1 ∙ ap Some same in
    ap (λ g. unpacked_group (packed_group g)) (sym group_is) ∙ (again ∙ ap Some group_is)

-- each number that is 16 bits wide unpacks to a group
pub unpacked_group-is_some : (n : ℕ) → n < 2 ^ 16 → is_some (unpacked_group n) ≡ true
unpacked_group-is_some n small =
    let fits : nat_lt n 65536 ≡ true = grind (arith, nat_tests, small) in ap (λ b. is_some (cond b (Some (bits_in packings n)) None)) fits
