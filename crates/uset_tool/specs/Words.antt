-- The words after the program's name, and the texts that the program says.
use Rattle.std.specs.Prelude.{ℕ, Bool, ◌&&◌, ◌||◌, ◌==◌, nat_lt, nat_le, List, [], ◌∷◌, ◌++◌, length, codes, decimal, Option, Some, None, is_some, option_map, option_and_then, if◌then◌else◌}
use Rattle.std.specs.Str.{bytes_eq}
use Prim.Native.Char.{code}
use Rattle.prop_data.specs.declared.error.TableError.{TableError}
use Rattle.text_lines.specs.Numbers.{decimal_number}
use Rattle.prop_data.specs.TableErrorKind.{kind_name}

-- What the words ask for.
pub data Command : Type 0 where
  -- the answers to the lines of a script behind a table text
  evaluate : Command
  -- the number of tables of each kind in a table text
  count_tables : Command
  -- the sizes of the set of the pattern that a number tells, under a table text
  generate : ℕ → Command

-- the number is one that tells a pattern
abbrev pub as_pattern_number : ℕ → Option ℕ
as_pattern_number n = if nat_le 1 n && nat_le n 10000 then Some n else None

-- one to five decimal digits, the first of them no `0`, that spell such a number
unfoldable pub pattern_number_of : List ℕ → Option ℕ
pattern_number_of [] = None
pattern_number_of (d ∷ digits) =
    if d == code "0" || nat_lt 5 (length (d ∷ digits)) then None
    else option_and_then as_pattern_number (decimal_number (d ∷ digits))

-- the one word is that of a command
abbrev pub command_named : List ℕ → Option Command
command_named word =
    if bytes_eq word (codes "eval") then Some evaluate
    else if bytes_eq word (codes "tables") then Some count_tables
    else None

abbrev pub command_of : List (List ℕ) → Option Command
command_of [] = None
command_of (word ∷ []) = command_named word
command_of (word ∷ number ∷ []) = if bytes_eq word (codes "gen") then option_map generate (pattern_number_of number) else None
command_of (word ∷ number ∷ other ∷ more) = None

-- the words are a known list
abbrev pub is_known : List (List ℕ) → Bool
is_known words = is_some (command_of words)

-- the answer to a table text with a fault
abbrev pub table_fault_text : TableError → List ℕ
table_fault_text fault =
    codes "tables line " ++ (decimal fault.line ++ (codes ": " ++ (kind_name fault.kind ++ codes "\n")))

abbrev pub usage_text : List ℕ
usage_text = codes "usage: uset COMMAND\n"

abbrev pub not_text_text : List ℕ
not_text_text = codes "input is not UTF-8\n"

abbrev pub too_long_text : List ℕ
too_long_text = codes "input is too long\n"
