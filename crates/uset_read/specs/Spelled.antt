-- Where an escape stands and what it spells, as the code keeps them.
use Rattle.std.specs.Prelude.{◌≡◌, ℕ, List, ◌∷◌, Option, Some, None}
use Rattle.std.specs.Borrow.{Bor}
use Rattle.std.specs.Str.{chars}
use Prim.Native.Char.{code}
use Rattle.cp_invlist.specs.InversionList.{contains}
use Rattle.uset_grammar.specs.Text.{Text}
use Rattle.uset_grammar.specs.Outcome.{Outcome, got}
use Rattle.uset_grammar.specs.Escape.{Apart, Spelled, itself, numbers, codes_of}
use Rattle.uset_grammar.specs.EscapeSlips.{Around, in_string, in_bracket, EscapeOutcome}
use Rattle.uset_read.specs.declared.stop.Stop.{Stop}
use Rattle.uset_read.specs.UnitRead.{StopsAt}
use Rattle.uset_read.specs.declared.digits.Digits.{Digits}
use Rattle.uset_read.specs.declared.digits.Digits.TheVariants.{Two, Four}
use Rattle.uset_grammar.specs.EscapeParts.{number_at, at_next_in, sole_in, all_in, two_digits_in, four_digits_in, long_escape, next_in, braced_in, brace_or, letters_in}
use Rattle.uset_read.specs.declared.escape.Around.{Around as CodeAround}
use Rattle.uset_read.specs.declared.escape.Around.TheVariants.{String, Bracket}
use Rattle.uset_read.specs.declared.escape.Spelled.{Spelled as CodeSpelled}
use Rattle.uset_read.specs.declared.escape.Spelled.TheVariants.{Itself, Numbers}
use Rattle.uset_read.specs.declared.escape.Next.{Next}
use Rattle.uset_read.specs.declared.escape.Next.TheVariants.{Closed, Number}

abbrev pub around_seen : CodeAround → Around
around_seen String = in_string
around_seen (Bracket several) = in_bracket several

abbrev pub spelled_seen : CodeSpelled → Spelled
spelled_seen (Itself c) = itself c
spelled_seen (Numbers first more) = numbers (first ∷ more.items)

-- the code points that it spells
abbrev pub spelled_codes : CodeSpelled → List ℕ
spelled_codes spelled = codes_of (spelled_seen spelled)

-- what follows the numbers of an escape in braces: the closing brace, or a further number
abbrev pub next_seen : Next → Outcome (Option ℕ)
next_seen (Closed rest) = got None (chars rest.now)
next_seen (Number n rest) = got (Some n) (chars rest.now)

-- the bytes behind it
abbrev pub behind_next : Next → List ℕ
behind_next (Closed rest) = rest.now
behind_next (Number n rest) = rest.now

-- the escape that was read, and what stands behind it
abbrev pub spelled_read : CodeSpelled × Bor (List ℕ) → Outcome Spelled
spelled_read p = got (spelled_seen p.0) (chars p.1.now)

-- so many digits onto the number
abbrev pub digits_in : Digits → ℕ → Text → Outcome ℕ
digits_in Two = two_digits_in
digits_in Four = four_digits_in

-- The parts of the reader over the bytes that the code holds: the list of the white space, where the escape stands, the
-- text that begins with it, and the text of the part.
abbrev pub next_at : List ℕ → CodeAround → List ℕ → List ℕ → List ℕ → Outcome (Option ℕ)
next_at white_space around begin ns text =
    next_in (contains white_space) (around_seen around) (chars begin) ns (chars text)

abbrev pub braced_at : List ℕ → CodeAround → List ℕ → List ℕ → Outcome Spelled
braced_at white_space around begin text =
    braced_in (contains white_space) (around_seen around) (chars begin) (chars text)

abbrev pub sole_at : CodeAround → List ℕ → ℕ → List ℕ → Outcome Spelled
sole_at around begin number rest = sole_in (around_seen around) (chars begin) number (chars rest)

abbrev pub all_at : CodeAround → List ℕ → List ℕ → List ℕ → Outcome Spelled
all_at around begin ns rest = all_in (around_seen around) (chars begin) (code "}") ns (chars rest)

abbrev pub number_behind_at : CodeAround → List ℕ → List ℕ → List ℕ → Outcome ℕ
number_behind_at around begin ns text = number_at (around_seen around) (chars begin) ns (chars text)

abbrev pub behind_white_at : CodeAround → List ℕ → List ℕ → List ℕ → Outcome (Option ℕ)
behind_white_at around begin ns text = at_next_in (around_seen around) (chars begin) ns (chars text)

abbrev pub digits_at : List ℕ → CodeAround → List ℕ → Digits → List ℕ → Outcome Spelled
digits_at white_space around begin digits text =
    brace_or (contains white_space) (around_seen around) (chars begin) (digits_in digits) (chars text)

abbrev pub six_at : CodeAround → List ℕ → List ℕ → Outcome Spelled
six_at around begin text = long_escape (around_seen around) (chars begin) (chars text)

abbrev pub letters_at : List ℕ → CodeAround → List ℕ → List ℕ → Outcome Spelled
letters_at white_space around begin text =
    letters_in (contains white_space) (around_seen around) (chars begin) (chars text)

-- What was read at the front of these bytes, under this white space, is the escape there and what stands behind it,
-- where white space is apart from the characters of escapes and a backslash is in front.
abbrev pub EscapeIs : List ℕ → CodeAround → List ℕ → CodeSpelled → List ℕ → Type 0
EscapeIs white_space around text spelled rest =
    Apart (contains white_space) → (inner : Text) → chars text ≡ code "\\" ∷ inner →
    EscapeOutcome (contains white_space) (around_seen around) (chars text) (got (spelled_seen spelled) (chars rest))

-- The escape there has the fault, with the place, or is not ended, as it says.
abbrev pub EscapeStops : List ℕ → CodeAround → List ℕ → Stop → Type 0
EscapeStops white_space around text stop =
    Apart (contains white_space) → (inner : Text) → chars text ≡ code "\\" ∷ inner →
    StopsAt (EscapeOutcome (contains white_space) (around_seen around) (chars text)) (chars text) stop
