-- An escape that is read part by part (UTS 35, Unicode Sets).
use Rattle.std.specs.Prelude.{ℕ, zero, suc, ◌+◌, ◌*◌, ◌-◌, Bool, ◌==◌, length, List, [], ◌∷◌, ◌++◌, Option, Some, None, if◌then◌else◌}
use Rattle.std.specs.Char.{digit_value}
use Prim.Native.Char.{code}
use Rattle.uset_grammar.specs.Text.{Text, ◌∈◌, skip}
use Rattle.uset_grammar.specs.Outcome.{unexpected, unimplemented, invalid_escape, Outcome, got, faulty, ended}
use Rattle.uset_grammar.specs.Escape.{is_hex, is_above, is_surrogate, plain, Spelled, itself, numbers, Letter, four, two, six, name, other, letter}
use Rattle.uset_grammar.specs.EscapeSlips.{Around, in_string, in_bracket}
use Rattle.uset_grammar.specs.Parts.{and_then, char_in}

-- a digit onto the number
unfoldable pub digit_in : ℕ → Text → Outcome ℕ
digit_in n [] = ended
digit_in n (c ∷ t) = if is_hex c then got (n * 16 + digit_value c) t else faulty (unexpected c) (c ∷ t)

unfoldable pub two_digits_in : ℕ → Text → Outcome ℕ
two_digits_in n t = and_then (digit_in n t) digit_in

unfoldable pub four_digits_in : ℕ → Text → Outcome ℕ
four_digits_in n t = and_then (two_digits_in n t) two_digits_in

-- a number of six digits that ends so, where it is a code point
abbrev pub checked : Text → ℕ → Text → Outcome ℕ
checked at n t = if is_above n then faulty invalid_escape at else got n t

unfoldable pub last_digit_in : ℕ → Text → Outcome ℕ
last_digit_in n t = and_then (digit_in n t) (checked t)

unfoldable pub six_digits_in : Text → Outcome ℕ
six_digits_in t = and_then (four_digits_in 0 t) (λ n u. and_then (digit_in n u) last_digit_in)

-- the only number of an escape that begins there
abbrev pub sole_in : Around → Text → ℕ → Text → Outcome Spelled
sole_in (in_bracket both) begin n t = got (numbers (n ∷ [])) t
sole_in in_string begin n t = if is_surrogate n then faulty invalid_escape begin else got (numbers (n ∷ [])) t

-- what is left of a number: digits or none, at most so many, where that limit is at least one
abbrev pub further_digits_in : ℕ → ℕ → Text → Outcome ℕ
further_digits_in left n [] = ended
further_digits_in left n (c ∷ t) =
    if is_hex c
    then (if left == 1 then checked (c ∷ t) (n * 16 + digit_value c) t
    else further_digits_in (left - 1) (n * 16 + digit_value c) t)
    else got n (c ∷ t)

-- a number of one to six digits
abbrev pub number_in : Text → Outcome ℕ
number_in [] = ended
number_in (c ∷ t) = if is_hex c then further_digits_in 5 (digit_value c) t else faulty (unexpected c) (c ∷ t)

-- the numbers of an escape that begins there, at its closing brace
abbrev pub all_in : Around → Text → ℕ → List ℕ → Text → Outcome Spelled
all_in a begin c [] t = faulty (unexpected c) (c ∷ t)
all_in a begin c (n ∷ []) t = sole_in a begin n t
all_in a begin c (n ∷ m ∷ ns) t = got (numbers (n ∷ m ∷ ns)) t

-- a number behind that one and those, of an escape that begins there: before the second, the first is judged
abbrev pub second_in : {V : Type 0} → Around → Text → ℕ → List ℕ → Outcome V → Outcome V
second_in in_string begin n [] o = if is_surrogate n then faulty invalid_escape begin else o
second_in (in_bracket both) begin n [] o = if both then o else faulty (unexpected (code "\\")) begin
second_in a begin n (m ∷ ns) o = o

-- a number that began there, behind another: in a string it is no surrogate
abbrev pub later_in : Around → Text → ℕ → Text → Outcome ℕ
later_in (in_bracket both) begin n t = got n t
later_in in_string begin n t = if is_surrogate n then faulty invalid_escape begin else got n t

-- a number behind those, of an escape that begins there
abbrev pub number_at : Around → Text → List ℕ → Text → Outcome ℕ
number_at a begin [] t = number_in t
number_at a begin (n ∷ ns) [] = ended
number_at a begin (n ∷ ns) (c ∷ t) =
    if is_hex c then second_in a begin n ns (and_then (number_in (c ∷ t)) (later_in a (c ∷ t)))
    else faulty (unexpected c) (c ∷ t)

-- a zero
abbrev pub zero_in : Text → Outcome (Unit {0})
zero_in t = char_in (code "0") t

-- two zeros and six digits
abbrev pub long_escape : Around → Text → Text → Outcome Spelled
long_escape a begin t =
    and_then (and_then (and_then (zero_in t) (λ z. zero_in)) (λ z. six_digits_in)) (sole_in a begin)

-- the closing brace, or a number behind those
abbrev pub at_next_in : Around → Text → List ℕ → Text → Outcome (Option ℕ)
at_next_in a begin ns [] = ended
at_next_in a begin ns (c ∷ t) =
    if c ∈ "}" then got None t else and_then (number_at a begin ns (c ∷ t)) (λ n. got (Some n))

module _ (white_space : ℕ → Bool) (a : Around) (begin : Text) where
  -- the closing brace, or white space and what stands behind it
  abbrev pub next_in : List ℕ → Text → Outcome (Option ℕ)
  next_in ns [] = ended
  next_in ns (c ∷ t) =
      if c ∈ "}" then got None t
      else if is_hex c then faulty (unexpected c) (c ∷ t)
      else if white_space c then at_next_in a begin ns (skip white_space t)
      else faulty (unexpected c) (c ∷ t)

  -- behind the last of the numbers
  abbrev pub behind_number : (List ℕ → Text → Outcome Spelled) → List ℕ → Text → Outcome Spelled
  behind_number more ns [] = ended
  behind_number more ns (c ∷ t) =
      if c ∈ "}" then all_in a begin c ns t
      else if is_hex c then faulty (unexpected c) (c ∷ t)
      else if white_space c then more ns t
      else faulty (unexpected c) (c ∷ t)

  -- a number or the closing brace
  abbrev pub number_or : (List ℕ → Text → Outcome Spelled) → List ℕ → Text → Outcome Spelled
  number_or more ns [] = ended
  number_or more ns (c ∷ t) =
      if c ∈ "}" then all_in a begin c ns t
      else and_then (number_at a begin ns (c ∷ t)) (λ n. behind_number more (ns ++ n ∷ []))

  -- numbers behind those that were read, at most so many
  abbrev pub numbers_in : ℕ → List ℕ → Text → Outcome Spelled
  numbers_in zero ns t = ended
  numbers_in (suc k) ns t = number_or (numbers_in k) ns (skip white_space t)

  -- numbers and the closing brace
  unfoldable pub braced_in : Text → Outcome Spelled
  braced_in t = numbers_in (suc (length t)) [] t

  abbrev pub brace_or : (ℕ → Text → Outcome ℕ) → Text → Outcome Spelled
  brace_or digits [] = ended
  brace_or digits (c ∷ t) = if c ∈ "{" then braced_in t else and_then (digits 0 (c ∷ t)) (sole_in a begin)

  abbrev pub letter_in : Letter → ℕ → Text → Outcome Spelled
  letter_in four c t = brace_or four_digits_in t
  letter_in two c t = brace_or two_digits_in t
  letter_in six c t = long_escape a begin t
  letter_in name c t = faulty unimplemented (c ∷ t)
  letter_in other c t = got (itself (plain c)) t

  -- what stands behind the backslash
  abbrev pub letters_in : Text → Outcome Spelled
  letters_in [] = ended
  letters_in (c ∷ t) = letter_in (letter c) c t
