-- A line of a table text, by its fields.
use Rattle.std.specs.Prelude.{ℕ, Bool, List, [], ◌∷◌, Option, Some, None, codes, if◌then◌else◌}
use Rattle.std.specs.Str.{bytes_eq}
use Rattle.prop_data.specs.declared.table.TableKind.{TableKind}
use Rattle.prop_data.specs.declared.table.TableKind.TheVariants.{Set, Map, Names, Long, Short, Scripts, Extensions, Emoji}
use Rattle.prop_data.specs.TableKind.{kind_of_word}

-- the header of a table, by the fields behind its word
pub data Header : Type 0 where
  -- `set NAME`
  set_header : List ℕ → Header
  -- `map NAME DEFAULT`
  map_header : List ℕ → List ℕ → Header
  -- `names NAME`
  names_header : List ℕ → Header
  -- `long NAME`
  long_header : List ℕ → Header
  -- `short NAME`
  short_header : List ℕ → Header
  -- `emoji NAME`
  emoji_header : List ℕ → Header
  -- `scx DEFAULT`
  scx_header : List ℕ → Header
  -- `ext INDEX`, or `ext INDEX SCRIPT`
  ext_header : List ℕ → Option (List ℕ) → Header

-- the one or two fields of a row
abbrev pub Row : Type 0
Row = List ℕ × Option (List ℕ)

pub data Line : Type 0 where
  -- no field
  blank : Line
  header : Header → Line
  -- one field, or two, the first neither a header word nor `end`
  row : Row → Line
  -- `end` alone
  closing : Line
  -- anything else
  other : Line

abbrev pub is_end : List ℕ → Bool
is_end field = bytes_eq field (codes "end")

-- the header of a kind with one field behind its word
abbrev pub header_of_two : TableKind → List ℕ → Line
header_of_two Set name = header (set_header name)
header_of_two Map name = other
header_of_two Names name = header (names_header name)
header_of_two Long name = header (long_header name)
header_of_two Short name = header (short_header name)
header_of_two Scripts default = header (scx_header default)
header_of_two Extensions index = header (ext_header index None)
header_of_two Emoji name = header (emoji_header name)

-- the header of a kind with two fields behind its word
abbrev pub header_of_three : TableKind → List ℕ → List ℕ → Line
header_of_three Set second third = other
header_of_three Map name default = header (map_header name default)
header_of_three Names second third = other
header_of_three Long second third = other
header_of_three Short second third = other
header_of_three Scripts second third = other
header_of_three Extensions index script = header (ext_header index (Some script))
header_of_three Emoji second third = other

-- a line of one field, or of two, the first no word of a header: a row, or `end` alone
abbrev pub line_without_word : List ℕ → Option (List ℕ) → Line
line_without_word first None = if is_end first then closing else row (first, None)
line_without_word first (Some second) = if is_end first then other else row (first, Some second)

-- a line of one field, two or three, by the kind that its first field is the word of
abbrev pub one_field : Option TableKind → List ℕ → Line
one_field (Some kind) first = other
one_field None first = line_without_word first None

abbrev pub two_fields : Option TableKind → List ℕ → List ℕ → Line
two_fields (Some kind) first second = header_of_two kind second
two_fields None first second = line_without_word first (Some second)

abbrev pub three_fields : Option TableKind → List ℕ → List ℕ → Line
three_fields (Some kind) second third = header_of_three kind second third
three_fields None second third = other

abbrev pub line_of : List (List ℕ) → Line
line_of [] = blank
line_of (first ∷ []) = one_field (kind_of_word first) first
line_of (first ∷ second ∷ []) = two_fields (kind_of_word first) first second
line_of (first ∷ second ∷ third ∷ []) = three_fields (kind_of_word first) second third
line_of (first ∷ second ∷ third ∷ fourth ∷ more) = other
