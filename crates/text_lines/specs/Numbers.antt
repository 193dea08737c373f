-- Numbers as they are spelled.
use Rattle.std.specs.Prelude.{ℕ, ◌+◌, ◌*◌, ◌&&◌, nat_lt, nat_le, List, [], ◌∷◌, length, Option, Some, None, option_and_then, if◌then◌else◌}
use Rattle.std.specs.Char.{digit_value}

-- the value of a digit of the base
abbrev pub digit : ℕ → ℕ → Option ℕ
digit base c = if nat_lt (digit_value c) base then Some (digit_value c) else None

-- the digits read on from the number
abbrev pub number_onto : ℕ → ℕ → List ℕ → Option ℕ
number_onto base n [] = Some n
number_onto base n (d ∷ digits) = option_and_then (λ value. number_onto base (n * base + value) digits) (digit base d)

-- one to so many digits of the base
unfoldable pub spelled : ℕ → ℕ → List ℕ → Option ℕ
spelled base most digits =
    if nat_le 1 (length digits) && nat_le (length digits) most then number_onto base 0 digits else None

-- one to six hexadecimal digits
abbrev pub hex : List ℕ → Option ℕ
hex digits = spelled 16 6 digits

-- one to ten decimal digits
abbrev pub decimal_number : List ℕ → Option ℕ
decimal_number digits = spelled 10 10 digits
