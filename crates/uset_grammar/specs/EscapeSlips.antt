-- Where an escape slips (UTS 35, Unicode Sets): the character behind a text at which a value is refused, and the place.
use Rattle.std.specs.Prelude.{◌≡◌, ◌<◌, ℕ, Bool, true, false, not, ◌&&◌, ◌||◌, nat_le, length, List, ◌∷◌, [], ◌++◌, codes, Some}
use Rattle.std.specs.List.{list_all}
use mathlib.Core.Logic.{◌⊎◌}
use Prim.Native.Char.{code}
use Rattle.uset_grammar.specs.Text.{Text}
use Rattle.uset_grammar.specs.Outcome.{Kind, Outcome, HasOutcome, unexpected, unimplemented, invalid_escape}
use Rattle.uset_grammar.specs.Escape.{Spelled, named, itself, numbers, four, two, letter, is_hex, value, is_number, is_above, is_surrogate, escape_shape}

-- Where an escape stands: in a string, or in a bracket, where an escape of several numbers fits or not.
pub data Around : Type 0 where
  in_string : Around
  in_bracket : Bool → Around

pub record IsNumber (word : Text) : Type 0 where
  pub is : is_number word ≡ true

pub record IsWhite (white_space : ℕ → Bool) (w : Text) : Type 0 where
  pub is : list_all white_space w ≡ true

-- whether a number may stand there: a code point, and in a string a character
abbrev pub fits_in : Around → ℕ → Bool
fits_in in_string n = not (is_above n) && not (is_surrogate n)
fits_in (in_bracket both) n = not (is_above n)

-- whether so many numbers may stand there
abbrev pub so_many : Around → List ℕ → Bool
so_many in_string ns = true
so_many (in_bracket both) ns = both || nat_le (length ns) 1

-- whether what an escape spells may stand there
abbrev pub allowed : Around → Spelled → Bool
allowed a named = false
allowed a (itself c) = true
allowed a (numbers ns) = list_all (fits_in a) ns && so_many a ns

-- The text in front of a number in braces, and the values of the numbers before it.
pub data BeforeNumber (white_space : ℕ → Bool) : List ℕ → Text → Type 0 where
  first : {c : ℕ} {w : Text} → ((letter c ≡ four) ⊎ (letter c ≡ two)) → IsWhite white_space w →
      BeforeNumber white_space [] (code "\\" ∷ c ∷ code "{" ∷ w)
  further : {ns : List ℕ} {before word w : Text} {c : ℕ} → BeforeNumber white_space ns before → IsNumber word →
      white_space c ≡ true → IsWhite white_space w →
      BeforeNumber white_space (ns ++ value word ∷ []) (before ++ (word ++ c ∷ w))

-- The character is the sixth digit of a number, behind five.
pub record Sixth (five : Text) (c : ℕ) : Type 0 where
  pub hex : list_all is_hex five ≡ true
  pub five_digits : length five ≡ 5
  pub sixth : is_hex c ≡ true

-- Behind the text the character slips, with a kind and the text before the place.
pub data EscapeSlips (white_space : ℕ → Bool) : Around → Text → ℕ → Kind → Text → Type 0 where
  -- the `N` of `\N`, at the `N`
  not_read : {a : Around} → EscapeSlips white_space a (codes "\\") (code "N") unimplemented (codes "\\")
  -- the sixth digit of a number above 10FFFF, at that digit
  long_above : {a : Around} {five : Text} {c : ℕ} → Sixth five c → is_above (value (five ++ c ∷ [])) ≡ true →
      EscapeSlips white_space a (codes "\\U00" ++ five) c invalid_escape (codes "\\U00" ++ five)
  above : {a : Around} {ns : List ℕ} {before five : Text} {c : ℕ} → BeforeNumber white_space ns before →
      Sixth five c → is_above (value (five ++ c ∷ [])) ≡ true →
      EscapeSlips white_space a (before ++ five) c invalid_escape (before ++ five)
  -- in a string, the end of an escape whose only number is a surrogate, at the backslash
  sole_surrogate : {t : Text} {c n : ℕ} → escape_shape white_space (t ++ c ∷ []) ≡ Some (numbers (n ∷ []), []) →
      is_surrogate n ≡ true → EscapeSlips white_space in_string t c invalid_escape []
  -- in a string, the first digit of the second number behind a surrogate, at the backslash
  first_surrogate : {t : Text} {c n : ℕ} → BeforeNumber white_space (n ∷ []) t → is_surrogate n ≡ true →
      is_hex c ≡ true → EscapeSlips white_space in_string t c invalid_escape []
  -- in a string, the sixth digit of a later number that is a surrogate, at that number
  later_surrogate : {n : ℕ} {ns : List ℕ} {before five : Text} {c : ℕ} → BeforeNumber white_space (n ∷ ns) before →
      Sixth five c → is_surrogate (value (five ++ c ∷ [])) ≡ true →
      EscapeSlips white_space in_string (before ++ five) c invalid_escape before
  -- in a string, the first character that is no digit behind a later number of fewer digits that is a surrogate, at
  -- that number
  shorter_surrogate : {n : ℕ} {ns : List ℕ} {before word : Text} {c : ℕ} → BeforeNumber white_space (n ∷ ns) before →
      IsNumber word → length word < 6 → is_surrogate (value word) ≡ true → is_hex c ≡ false →
      EscapeSlips white_space in_string (before ++ word) c invalid_escape before
  -- in a bracket where several numbers don't fit, the first digit of the second one, at the backslash
  two_codes : {t : Text} {c n : ℕ} → BeforeNumber white_space (n ∷ []) t → is_hex c ≡ true →
      EscapeSlips white_space (in_bracket false) t c (unexpected (code "\\")) []

-- the text is an escape, whatever its values are
abbrev pub EscapeShape : (ℕ → Bool) → Text → Type 0
EscapeShape white_space t = (v : Spelled) × (escape_shape white_space t ≡ Some (v, []))

-- An escape stands in front, and what it spells may stand there.
pub record EscapeRead (white_space : ℕ → Bool) (a : Around) (q : Text) (v : Spelled) (r : Text) : Type 0 where
  pub shape : escape_shape white_space q ≡ Some (v, r)
  pub fits : allowed a v ≡ true

-- the outcome is the one of a text that begins as an escape
abbrev pub EscapeOutcome : (ℕ → Bool) → Around → Text → Outcome Spelled → Type 0
EscapeOutcome white_space a q o =
    HasOutcome (EscapeRead white_space a) (EscapeShape white_space) (EscapeSlips white_space a) q o
