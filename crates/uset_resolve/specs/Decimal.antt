-- Values that are written as decimal numbers: one or more ASCII digits, behind a `+` or not.
use Rattle.std.specs.Prelude.{ℕ, ◌+◌, ◌*◌, ◌==◌, nat_le, List, [], ◌∷◌, Option, Some, None, if◌then◌else◌}
use Rattle.std.specs.Char.{is_ascii_digit, digit_value}
use Prim.Native.Char.{code}
use Rattle.uset_grammar.specs.Text.{◌>>=◌, ◌>>◌}

-- the number of further digits behind those of a number
abbrev pub further_digits : ℕ → List ℕ → Option ℕ
further_digits n [] = Some n
further_digits n (d ∷ ds) = is_ascii_digit d >> further_digits (n * 10 + digit_value d) ds

-- the number of one digit or more
abbrev pub digits : List ℕ → Option ℕ
digits [] = None
digits (d ∷ ds) = further_digits 0 (d ∷ ds)

abbrev pub without_plus : List ℕ → List ℕ
without_plus [] = []
without_plus (c ∷ t) = if c == code "+" then t else c ∷ t

-- the number, where it is at most this one
abbrev pub at_most : ℕ → ℕ → Option ℕ
at_most most n = nat_le n most >> Some n

-- the number that the text writes, where it is at most this one
unfoldable pub decimal : ℕ → List ℕ → Option ℕ
decimal most text = digits (without_plus text) >>= at_most most
