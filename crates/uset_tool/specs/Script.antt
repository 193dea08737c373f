-- The lines of a script.
use Rattle.std.specs.Prelude.{ℕ, Bool, true, ◌&&◌, ◌||◌, nat_lt, nat_le, ◌==◌, List, [], ◌∷◌, Option, Some, None, option_map, option_and_then, codes, if◌then◌else◌}
use Rattle.std.specs.List.{slice_split}
use Rattle.text_lines.specs.Numbers.{hex}

-- What a name is to be bound to.
pub data Definition : Type 0 where
  -- a character
  character : ℕ → Definition
  -- a string, by its characters
  string : List ℕ → Definition
  -- the set of a pattern, by its bytes
  set : List ℕ → Definition

pub data ScriptLine : Type 0 where
  -- an empty line or a comment
  silent : ScriptLine
  -- `pat ` and a pattern
  pattern : List ℕ → ScriptLine
  -- `let ` and a name with what it is to be bound to
  binding : List ℕ → Definition → ScriptLine
  -- anything else
  bad : ScriptLine

-- what stands behind the text, where the line begins with it
abbrev pub stripped : List ℕ → List ℕ → Option (List ℕ)
stripped [] line = Some line
stripped (c ∷ text) [] = None
stripped (c ∷ text) (d ∷ line) = if d == c then stripped text line else None

-- the line is empty or begins with `#`
abbrev pub is_silent : List ℕ → Bool
is_silent [] = true
is_silent (c ∷ line) = c == 0x23

-- a byte in front of the first part
abbrev pub onto_front : ℕ → List ℕ × List ℕ → List ℕ × List ℕ
onto_front c (front, behind) = (c ∷ front, behind)

-- what stands before the first space, and behind it
abbrev pub at_space : List ℕ → Option (List ℕ × List ℕ)
at_space [] = None
at_space (c ∷ text) = if c == 0x20 then Some ([], text) else option_map (onto_front c) (at_space text)

-- the number is that of a character: a code point, and no surrogate
abbrev pub as_character : ℕ → Option ℕ
as_character n = if nat_lt n 0xD800 || (nat_le 0xE000 n && nat_le n 0x10_FFFF) then Some n else None

-- one to six hexadecimal digits, as the character of their number
abbrev pub character_of : List ℕ → Option ℕ
character_of field = option_and_then as_character (hex field)

-- the fields of a text, between which one space stands
abbrev pub spaced : List ℕ → List (List ℕ)
spaced text = slice_split (λ c. c == 0x20) text

abbrev pub both : Option ℕ → Option (List ℕ) → Option (List ℕ)
both None cs = None
both (Some c) None = None
both (Some c) (Some cs) = Some (c ∷ cs)

-- the characters of fields, where each is the number of one
abbrev pub characters_of : List (List ℕ) → Option (List ℕ)
characters_of [] = Some []
characters_of (field ∷ fields) = both (character_of field) (characters_of fields)

-- what stands behind `str`: nothing, or a space and fields
abbrev pub string_of : List ℕ → Option (List ℕ)
string_of [] = Some []
string_of (c ∷ text) = if c == 0x20 then characters_of (spaced text) else None

-- by what stands behind `char `, `str` and `set `
abbrev pub definition_by : Option (List ℕ) → Option (List ℕ) → Option (List ℕ) → Option Definition
definition_by (Some field) fields source = option_map character (character_of field)
definition_by None (Some fields) source = option_map string (string_of fields)
definition_by None None (Some source) = Some (set source)
definition_by None None None = None

-- `char ` and a number; `str` and any numbers; `set ` and a pattern
abbrev pub definition_of : List ℕ → Option Definition
definition_of text =
    definition_by (stripped (codes "char ") text) (stripped (codes "str") text) (stripped (codes "set ") text)

abbrev pub binding_or_bad : List ℕ → Option Definition → ScriptLine
binding_or_bad name None = bad
binding_or_bad name (Some d) = binding name d

-- a name of one character or more, a space, and what it is to be bound to
abbrev pub named : Option (List ℕ × List ℕ) → ScriptLine
named None = bad
named (Some ([], text)) = bad
named (Some (c ∷ name, text)) = binding_or_bad (c ∷ name) (definition_of text)

abbrev pub let_or_bad : Option (List ℕ) → ScriptLine
let_or_bad None = bad
let_or_bad (Some text) = named (at_space text)

abbrev pub pattern_or : Option (List ℕ) → ScriptLine → ScriptLine
pattern_or None other = other
pattern_or (Some p) other = pattern p

unfoldable pub script_line : List ℕ → ScriptLine
script_line line =
    if is_silent line then silent
    else pattern_or (stripped (codes "pat ") line) (let_or_bad (stripped (codes "let ") line))
