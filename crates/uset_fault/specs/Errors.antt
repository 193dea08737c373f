-- What an error says of a source: its kind as the grammar has it, and its place.
use Rattle.std.specs.Fmt.{digits}
use Rattle.std.specs.Prelude.{◌≡◌, ℕ, false, nat_lt, ◌==◌, List, [], ◌++◌, codes, Option, Some, None, if◌then◌else◌}
use Rattle.uset_grammar.specs.Text.{Text}
use Rattle.uset_grammar.specs.Place.{size}
use Rattle.uset_grammar.specs.Shown.{front_past, words, shown, message}
use Rattle.uset_grammar.specs.Outcome.{Kind, unexpected, unimplemented, invalid_escape, unknown_property, internal, unknown_variable, unexpected_variable, eof}
use Rattle.uset_fault.specs.declared.error.ParseError.{ParseError}
use Rattle.uset_fault.specs.declared.error.ParseErrorKind.{ParseErrorKind}
use Rattle.uset_fault.specs.declared.error.ParseErrorKind.TheVariants.{UnexpectedChar, UnknownProperty, UnknownVariable, UnexpectedVariable, Eof, Internal, Unimplemented, InvalidEscape, NoMemory}

-- the kind as the grammar has it; want of memory is none
abbrev pub kind_told : ParseErrorKind → Option Kind
kind_told (UnexpectedChar c) = Some (unexpected c)
kind_told UnknownProperty = Some unknown_property
kind_told UnknownVariable = Some unknown_variable
kind_told UnexpectedVariable = Some unexpected_variable
kind_told Eof = Some eof
kind_told Internal = Some internal
kind_told Unimplemented = Some unimplemented
kind_told InvalidEscape = Some invalid_escape
kind_told NoMemory = None

abbrev pub kind_of : ParseError → ParseErrorKind
kind_of error = error.kind

abbrev pub offset_in : ParseError → Option ℕ
offset_in error = error.offset

abbrev pub ToldAs : Option Kind → Option ℕ → (Kind → Option ℕ → Type 0) → Type 0
ToldAs None offset IsSo = offset ≡ None
ToldAs (Some kind) offset IsSo = IsSo kind offset

-- the error says what is so of its kind and its place, or that memory was refused, which has no place
abbrev pub Tells : ParseError → (Kind → Option ℕ → Type 0) → Type 0
Tells error IsSo = ToldAs (kind_told (kind_of error)) (offset_in error) IsSo

-- the words of a kind, or of want of memory
abbrev pub words_of : Option Kind → Text
words_of None = codes "out of memory"
words_of (Some kind) = words kind

abbrev pub words_told : ParseErrorKind → Text
words_told kind = words_of (kind_told kind)

-- the front of the source that is shown with a kind and an offset: all of it, or up to the place, where that is within it
abbrev pub front_up_to : Option ℕ → Text → Option Text
front_up_to None source = None
front_up_to (Some offset) source = if nat_lt offset (size source) then Some (front_past offset source) else None

abbrev pub front_of : ParseErrorKind → Option ℕ → Text → Option Text
front_of Eof offset source = Some source
front_of (UnexpectedChar c) offset source = front_up_to offset source
front_of UnknownProperty offset source = front_up_to offset source
front_of UnknownVariable offset source = front_up_to offset source
front_of UnexpectedVariable offset source = front_up_to offset source
front_of Internal offset source = front_up_to offset source
front_of Unimplemented offset source = front_up_to offset source
front_of InvalidEscape offset source = front_up_to offset source
front_of NoMemory offset source = front_up_to offset source

abbrev pub front_shown : ParseError → Text → Option Text
front_shown error source = front_of error.kind error.offset source

-- the front and an arrow behind it, where there is a front
abbrev pub with_arrow : Option Text → Text
with_arrow None = []
with_arrow (Some front) = front ++ codes "← "

-- the text that shows a fault with a source, or want of memory
abbrev pub shown_as : Option Kind → Option ℕ → Text → Text
shown_as None offset source = message (codes "out of memory") offset source
shown_as (Some kind) offset source = shown kind offset source

-- the text that shows the error with a source
abbrev pub shown_with : ParseError → Text → Text
shown_with error source = shown_as (kind_told error.kind) error.offset source

-- how a character is written that isn't written as itself nor by its number
abbrev pub escape_of : ℕ → Option (List ℕ)
escape_of c =
    if c == 0 then Some (codes "\\0")
    else if c == 9 then Some (codes "\\t")
    else if c == 0x0D then Some (codes "\\r")
    else if c == 0x0A then Some (codes "\\n")
    else if c == 0x27 then Some (codes "\\'")
    else if c == 0x22 then Some (codes "\\\"")
    else if c == 0x5C then Some (codes "\\\\")
    else None

-- a number in hexadecimal digits and braces
abbrev pub numbered : ℕ → List ℕ
numbered c = codes "\\u{" ++ (digits 16 false c ++ codes "}")
