-- The numbers that unpack to a value of a plain type, each to itself.
use Rattle.std.specs.Prelude.{ℕ, Bool, ◌||◌, ◌&&◌, Option, Some, None, nat_lt, nat_le, if◌then◌else◌}

-- the number itself where it is below the limit
abbrev pub below : ℕ → ℕ → Option ℕ
below limit n = if nat_lt n limit then Some n else None

-- a Unicode scalar value: a code point that is no surrogate
abbrev pub is_scalar_value : ℕ → Bool
is_scalar_value n = nat_lt n 0xD800 || (nat_le 0xE000 n && nat_le n 0x10_FFFF)

-- the number itself where it is a scalar value
abbrev pub scalar_value : ℕ → Option ℕ
scalar_value n = if is_scalar_value n then Some n else None
