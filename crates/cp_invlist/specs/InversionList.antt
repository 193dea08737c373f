-- A set of code points as an inversion list (UTS 35, "Unicode Sets"; ICU calls the form so): the first member and the number
-- past the last member of each maximal range, strictly ascending.
use Rattle.std.specs.Prelude.{◌≡◌, ℕ, suc, Bool, true, false, not, ◌&&◌, ◌==◌, nat_le, List, [], ◌∷◌}

-- one of the two, and not both
abbrev pub differ : Bool → Bool → Bool
differ true y = not y
differ false y = y

-- the number is a member exactly where an odd number of the elements are at most it
abbrev pub contains : List ℕ → ℕ → Bool
contains [] c = false
contains (x ∷ xs) c = differ (nat_le x c) (contains xs c)

-- the number is a code point
abbrev pub is_code_point : ℕ → Bool
is_code_point c = nat_le c 0x10_FFFF

-- adding the first number adds the second: it is that one, and a code point
abbrev pub is_added : ℕ → ℕ → Bool
is_added c d = d == c && is_code_point d

-- each element is above the one before it, the first is at least the number, and none is above 110000
abbrev pub ascends_from : ℕ → List ℕ → Bool
ascends_from n [] = true
ascends_from n (x ∷ xs) = (nat_le n x && nat_le x 0x11_0000) && ascends_from (suc x) xs

abbrev pub has_even_length : List ℕ → Bool
has_even_length [] = true
has_even_length (x ∷ xs) = not (has_even_length xs)

-- strictly ascending, of even length, and no element above 110000
abbrev pub is_inversion_list : List ℕ → Bool
is_inversion_list xs = ascends_from 0 xs && has_even_length xs

abbrev pub IsInversionList : List ℕ → Type 0
IsInversionList xs = is_inversion_list xs ≡ true

-- a number is in the one set exactly where it is in the other
abbrev pub HaveSameMembers : List ℕ → List ℕ → Type 0
HaveSameMembers xs ys = (c : ℕ) → contains xs c ≡ contains ys c
