-- What stands in front, as the code has it.
use Rattle.std.specs.Prelude.{◌≡◌, ◌<◌, ℕ, true, false, length, List, ◌∷◌, Option, MatchOption}
use Rattle.std.specs.Borrow.{Bor}
use Rattle.std.specs.Char.{is_ascii_graphic}
use Rattle.std.specs.Str.{chars}
use Rattle.uset_grammar.specs.Text.{Text, ◌∈◌}
use Rattle.uset_grammar.specs.Language.{Language}
use Rattle.uset_grammar.specs.Front.{Front, nothing, closing, opening, single, of_name, begins_unit, caret, bracket_or_unit, First, too_short, stray, bare, of_variable, of_bracket, of_property}
use Rattle.uset_reader.specs.declared.bracket.Opening.{Opening as CodeOpening}
use Rattle.uset_reader.specs.declared.front.Front.{Front as CodeFront}
use Rattle.uset_reader.specs.declared.front.Front.TheVariants.{Nothing, Closing, Opening, Single, Name, Unit as BeginsUnit, Caret}
use Rattle.uset_reader.specs.declared.front.First.{First as CodeFirst}
use Rattle.uset_reader.specs.declared.front.First.TheVariants.{TooShort, Stray, Bare, Variable, Bracket, Property}
use Rattle.uset_reader.specs.Singles.{single_seen}
use Rattle.uset_reader.specs.Brackets.{opening_seen}

abbrev pub front_seen : CodeFront → Front
front_seen Nothing = nothing
front_seen (Closing rest) = closing (chars rest.now)
front_seen (Opening o inner) = opening (opening_seen o) (chars inner.now)
front_seen (Single item rest) = single (single_seen item) (chars rest.now)
front_seen (Name name rest) = of_name (chars name.now) (chars rest.now)
front_seen BeginsUnit = begins_unit
front_seen Caret = caret

abbrev pub first_seen : CodeFirst → First
first_seen TooShort = too_short
first_seen (Stray c) = stray c
first_seen Bare = bare
first_seen (Variable name rest) = of_variable (chars name.now) (chars rest.now)
first_seen (Bracket o inner) = of_bracket (opening_seen o) (chars inner.now)
first_seen Property = of_property

-- what stands behind the front is less than the text
abbrev pub IsBehindFront : CodeFront → List ℕ → Type 0
IsBehindFront Nothing text = Unit {0}
IsBehindFront (Closing rest) text = length rest.now < length text
IsBehindFront (Opening o inner) text = length inner.now < length text
IsBehindFront (Single item rest) text = length rest.now < length text
IsBehindFront (Name name rest) text = length rest.now < length text
IsBehindFront BeginsUnit text = Unit {0}
IsBehindFront Caret text = Unit {0}

abbrev pub IsBehindFirst : CodeFirst → List ℕ → Type 0
IsBehindFirst TooShort text = Unit {0}
IsBehindFirst (Stray c) text = Unit {0}
IsBehindFirst Bare text = Unit {0}
IsBehindFirst (Variable name rest) text = length rest.now < length text
IsBehindFirst (Bracket o inner) text = length inner.now < length text
IsBehindFirst Property text = Unit {0}

-- what a bracket begins with, behind its `[`, and what stands behind that; or a unit begins there
abbrev pub IsOpening : Language → Text → Option (CodeOpening × Bor (List ℕ)) → Type 0
IsOpening l t result =
    MatchOption result (bracket_or_unit l t ≡ begins_unit)
    (λ p. bracket_or_unit l t ≡ opening (opening_seen p.0) (chars p.1.now))

-- The text begins with a visible ASCII character that means nothing by standing behind a `[`.
pub record IsPlain (t : Text) : Type 0 where
  pub first : ℕ
  pub rest : Text
  pub parts : t ≡ first ∷ rest
  pub visible : is_ascii_graphic first ≡ true
  pub plain : first ∈ ":^-" ≡ false
