-- What a variable is bound to (UTS 35, Unicode Sets).
use Rattle.std.specs.Prelude.{ℕ, Bool, true, not, Option, Some, None, is_some}
use Rattle.std.specs.Str.{chars}
use Rattle.cp_strset.specs.StringList.{sole_of}
use Rattle.uset_grammar.specs.Language.{Value, character, string, set}
use Rattle.uset_gather.specs.Gathered.{in_set}
use Rattle.uset_variables.specs.declared.value.VariableValue.{VariableValue}
use Rattle.uset_variables.specs.declared.value.VariableValue.TheVariants.{UnicodeSet, Char, String as Spelled}

-- a value as the grammar has it, a set by its members
abbrev pub value_seen : VariableValue → Value
value_seen (UnicodeSet s) = set (in_set s)
value_seen (Char c) = character c
value_seen (Spelled s) = string (chars s)

-- a string that is kept isn't exactly one character
abbrev pub is_kept : VariableValue → Bool
is_kept (Spelled s) = not (is_some (sole_of (chars s)))
is_kept (UnicodeSet s) = true
is_kept (Char c) = true

abbrev pub character_or : VariableValue → Option ℕ → VariableValue
character_or value None = value
character_or value (Some c) = Char c

-- the value as it is kept: a string of exactly one character as that character
abbrev pub kept : VariableValue → VariableValue
kept (Spelled s) = character_or (Spelled s) (sole_of (chars s))
kept (UnicodeSet s) = UnicodeSet s
kept (Char c) = Char c
