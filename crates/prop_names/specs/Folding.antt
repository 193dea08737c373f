-- Names compared loosely (UAX 44, section 5.9): without case, and without white space, `_` and hyphens in what is asked for. A hyphen
-- in a name that is stored stays, so that it is found by no query.
use Rattle.std.specs.Prelude.{◌≡◌, ℕ, Bool, false, ◌||◌, ◌&&◌, ◌==◌, nat_le, List, [], ◌∷◌, All, if◌then◌else◌}
use Rattle.std.specs.Char.{to_ascii_lowercase}

-- the bytes in ASCII's lower case, without those that are dropped
abbrev pub folded : (ℕ → Bool) → List ℕ → List ℕ
folded drops [] = []
folded drops (c ∷ cs) = if drops c then folded drops cs else to_ascii_lowercase c ∷ folded drops cs

abbrev pub is_underscore : ℕ → Bool
is_underscore c = c == 0x5F

-- tab, LF, VT, FF, CR, a space, `_` or a hyphen
abbrev pub is_ignored : ℕ → Bool
is_ignored c = (nat_le 0x09 c && nat_le c 0x0D) || (c == 0x20 || (c == 0x5F || c == 0x2D))

-- white space (tab, LF, VT, FF, CR, a space) or a hyphen
abbrev pub is_space_or_hyphen : ℕ → Bool
is_space_or_hyphen c = (nat_le 0x09 c && nat_le c 0x0D) || (c == 0x20 || c == 0x2D)

-- the name has no white space and no hyphen
abbrev pub LacksSpacesAndHyphens : List ℕ → Type 0
LacksSpacesAndHyphens name = All (λ c. is_space_or_hyphen c ≡ false) name

-- a name as it is stored, folded
abbrev pub stored_folding : List ℕ → List ℕ
stored_folding name = folded is_underscore name

-- a name that is asked for, folded
abbrev pub query_folding : List ℕ → List ℕ
query_folding name = folded is_ignored name
