-- Escapes (UTS 35, Unicode Sets), first by their shapes, with every number taken as it stands, and then by their
-- values.
use Rattle.std.specs.Prelude.{◌≡◌, ℕ, suc, zero, ◌+◌, ◌*◌, Bool, true, false, ◌&&◌, nat_le, nat_lt, length, List, ◌∷◌, [], ◌++◌, Option, Some, None, if◌then◌else◌}
use Rattle.std.specs.Char.{digit_value}
use Rattle.std.specs.List.{list_all}
use Prim.Native.Char.{code}
use Rattle.uset_grammar.specs.Text.{Text, ◌>>=◌, ◌∈◌, behind}

-- a hexadecimal digit
unfoldable pub is_hex : ℕ → Bool
is_hex c = nat_lt (digit_value c) 16

-- White space is no hexadecimal digit, no closing brace and no backslash.
pub record Apart (white_space : ℕ → Bool) : Type 0 where
  pub no_digit : (c : ℕ) → white_space c ≡ true → is_hex c ≡ false
  pub no_brace : white_space (code "}") ≡ false
  pub no_backslash : white_space (code "\\") ≡ false

-- the value of digits, read onto a number
abbrev pub onto : ℕ → Text → ℕ
onto n [] = n
onto n (c ∷ t) = onto (n * 16 + digit_value c) t

unfoldable pub value : Text → ℕ
value digits = onto 0 digits

-- one to six hexadecimal digits
unfoldable pub is_number : Text → Bool
is_number word = list_all is_hex word && (nat_le 1 (length word) && nat_le (length word) 6)

-- What an escape spells: `\N`, a character, or numbers.
pub data Spelled : Type 0 where
  named : Spelled
  itself : ℕ → Spelled
  numbers : List ℕ → Spelled

-- so many more digits behind those that were read, as one number
abbrev pub digits : ℕ → Text → Text → Option (Spelled × Text)
digits zero read t = Some (numbers (value read ∷ []), t)
digits (suc k) read [] = None
digits (suc k) read (c ∷ t) = if is_hex c then digits k (read ++ c ∷ []) t else None

-- what stands before the first closing brace, and behind it
abbrev pub up_to_brace : Text → Option (Text × Text)
up_to_brace [] = None
up_to_brace (c ∷ t) = if c ∈ "}" then Some ([], t) else (up_to_brace t >>= λ p. Some (c ∷ p.0, p.1))

abbrev pub with_word : Text → List Text → List Text
with_word [] words = words
with_word (c ∷ word) words = (c ∷ word) ∷ words

-- the words of a text, parted by white space; the first begins with what was read of it
abbrev pub words : (ℕ → Bool) → Text → Text → List Text
words white_space word [] = with_word word []
words white_space word (c ∷ t) =
    if white_space c then with_word word (words white_space [] t)
    else words white_space (word ++ c ∷ []) t

-- the values of words, where each is a number
abbrev pub values : List Text → Option (List ℕ)
values [] = Some []
values (word ∷ words) = if is_number word then (values words >>= λ ns. Some (value word ∷ ns)) else None

abbrev pub at_least_one : List ℕ → Text → Option (Spelled × Text)
at_least_one [] t = None
at_least_one (n ∷ ns) t = Some (numbers (n ∷ ns), t)

-- behind an opening brace: numbers parted by white space, and the closing brace
abbrev pub braced : (ℕ → Bool) → Text → Option (Spelled × Text)
braced white_space t = do
  inner ← up_to_brace t
  ns ← values (words white_space [] inner.0)
  at_least_one ns inner.1

-- numbers in braces where a brace stands in front, and else what was read without
abbrev pub braced_or : (ℕ → Bool) → Option (Spelled × Text) → Option Text → Option (Spelled × Text)
braced_or white_space read None = read
braced_or white_space read (Some inner) = braced white_space inner

-- `a`, `b`, `t`, `n`, `v`, `f` and `r` stand for 07 to 0D, every other character for itself
unfoldable pub plain : ℕ → ℕ
plain c =
    if c ∈ "a" then 0x07
    else if c ∈ "b" then 0x08
    else if c ∈ "t" then 0x09
    else if c ∈ "n" then 0x0A
    else if c ∈ "v" then 0x0B
    else if c ∈ "f" then 0x0C
    else if c ∈ "r" then 0x0D
    else c

-- What the character behind the backslash begins.
pub data Letter : Type 0 where
  -- four digits, or numbers in braces
  four : Letter
  -- two digits, or numbers in braces
  two : Letter
  -- two zeros and six digits
  six : Letter
  -- the name of a character, which isn't read
  name : Letter
  -- a character
  other : Letter

unfoldable pub letter : ℕ → Letter
letter c = if c ∈ "u" then four else if c ∈ "x" then two else if c ∈ "U" then six else if c ∈ "N" then name else other

abbrev pub escape_by : (ℕ → Bool) → Letter → ℕ → Text → Option (Spelled × Text)
escape_by white_space four c t = braced_or white_space (digits 4 [] t) (behind "{" t)
escape_by white_space two c t = braced_or white_space (digits 2 [] t) (behind "{" t)
escape_by white_space six c t = behind "0" t >>= λ u. (behind "0" u >>= digits 6 [])
escape_by white_space name c t = Some (named, t)
escape_by white_space other c t = Some (itself (plain c), t)

abbrev pub escape_at : (ℕ → Bool) → Text → Option (Spelled × Text)
escape_at white_space [] = None
escape_at white_space (c ∷ t) = escape_by white_space (letter c) c t

-- what an escape spells, with its backslash, and what stands behind it
abbrev pub escape_shape : (ℕ → Bool) → Text → Option (Spelled × Text)
escape_shape white_space t = behind "\\" t >>= escape_at white_space

unfoldable pub is_above : ℕ → Bool
is_above n = nat_lt 0x10FFFF n

unfoldable pub is_surrogate : ℕ → Bool
is_surrogate n = nat_le 0xD800 n && nat_le n 0xDFFF

-- the numbers that are spelled; `\N` spells none
abbrev pub codes_of : Spelled → List ℕ
codes_of named = []
codes_of (itself c) = c ∷ []
codes_of (numbers ns) = ns
