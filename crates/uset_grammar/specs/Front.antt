-- What stands in front of a text, by its first character (UTS 35, Unicode Sets).
use Rattle.std.specs.Prelude.{ℕ, Bool, [], ◌∷◌, Option, Some, None, is_some, if◌then◌else◌}
use Rattle.uset_grammar.specs.Text.{Text, ◌∈◌, skip, while_in, behind, optional}
use Rattle.uset_grammar.specs.Item.{Item, chars, minus, ampersand, dollar, Opening}
use Rattle.uset_grammar.specs.Language.{Language}

pub data Sign : Type 0 where
  open_bracket : Sign
  close_bracket : Sign
  hyphen_sign : Sign
  ampersand_sign : Sign
  dollar_sign : Sign
  backslash : Sign
  open_brace : Sign
  caret_sign : Sign
  other : Sign

unfoldable pub sign : ℕ → Sign
sign c =
    if c ∈ "[" then open_bracket
    else if c ∈ "]" then close_bracket
    else if c ∈ "-" then hyphen_sign
    else if c ∈ "&" then ampersand_sign
    else if c ∈ "$" then dollar_sign
    else if c ∈ "\\" then backslash
    else if c ∈ "{" then open_brace
    else if c ∈ "^" then caret_sign
    else other

-- What stands in front of a text in a bracket.
pub data Front : Type 0 where
  nothing : Front
  -- a `]`
  closing : Text → Front
  -- a bracket with what it begins with
  opening : Opening → Text → Front
  -- an item of one character
  single : Item → Text → Front
  -- a `$`, a name and what stands behind it
  of_name : Text → Text → Front
  begins_unit : Front
  -- a `^`, which is no item
  caret : Front

-- What a source begins with.
pub data First : Type 0 where
  -- nothing, or a `$` with nothing behind it
  too_short : First
  -- a character that begins no set
  stray : ℕ → First
  -- a `$` without a name
  bare : First
  of_variable : Text → Text → First
  of_bracket : Opening → Text → First
  of_property : First

-- The longest name in front (UAX 31), and what stands behind it: a character that begins a name and all that continue
-- it.
abbrev pub name_in : (ℕ → Bool) → (ℕ → Bool) → Text → Option (Text × Text)
name_in start continue [] = None
name_in start continue (c ∷ t) =
    if start c then Some (c ∷ (while_in continue t).0, (while_in continue t).1) else None

module _ (l : Language) where
  -- the text without the white space in front
  abbrev pub ahead : Text → Text
  ahead t = skip l.white_space t

  abbrev pub name : Text → Option (Text × Text)
  name t = name_in l.start l.continue t

  -- Behind the `[` of a bracket: a caret or none at once, white space, and a hyphen or none.
  abbrev pub header : Text → Opening × Text
  header t =
      let caret = optional "^" t in
      let hyphen = optional "-" (ahead caret.1) in
      (record { negated = caret.0; leading = hyphen.0 }, hyphen.1)

  -- behind a `[`: a `:` at once begins a property
  abbrev pub bracket_or_unit : Text → Front
  bracket_or_unit t = if is_some (behind ":" t) then begins_unit else opening (header t).0 (header t).1

  -- behind a `$`: a name, or else the `$` is an item
  abbrev pub named_or : Text → Option (Text × Text) → Front
  named_or t None = single dollar t
  named_or t (Some n) = of_name n.0 n.1

  abbrev pub front_of : Sign → ℕ → Text → Front
  front_of open_bracket c t = bracket_or_unit t
  front_of close_bracket c t = closing t
  front_of hyphen_sign c t = single minus t
  front_of ampersand_sign c t = single ampersand t
  front_of dollar_sign c t = named_or t (name t)
  front_of backslash c t = begins_unit
  front_of open_brace c t = begins_unit
  front_of caret_sign c t = caret
  front_of other c t = single (chars (c ∷ [])) t

  abbrev pub front : Text → Front
  front [] = nothing
  front (c ∷ t) = front_of (sign c) c t

  abbrev pub first_bracket : Text → First
  first_bracket t = if is_some (behind ":" t) then of_property else of_bracket (header t).0 (header t).1

  abbrev pub first_named : Text → Option (Text × Text) → First
  first_named [] None = too_short
  first_named (c ∷ t) None = bare
  first_named t (Some n) = of_variable n.0 n.1

  abbrev pub first_of : Sign → ℕ → Text → First
  first_of open_bracket c t = first_bracket t
  first_of dollar_sign c t = first_named t (name t)
  first_of backslash c t = of_property
  first_of close_bracket c t = stray c
  first_of hyphen_sign c t = stray c
  first_of ampersand_sign c t = stray c
  first_of open_brace c t = stray c
  first_of caret_sign c t = stray c
  first_of other c t = stray c

  abbrev pub first : Text → First
  first [] = too_short
  first (c ∷ t) = first_of (sign c) c t
