-- The text that shows a fault with its source: the source through the character at the place, an arrow, and what is wrong.
use Rattle.std.specs.Prelude.{ℕ, ◌+◌, ◌-◌, nat_lt, ◌==◌, length, [], ◌∷◌, ◌++◌, codes, encode_utf8, Option, Some, None, if◌then◌else◌}
use Rattle.uset_grammar.specs.Text.{Text, ◌∈◌}
use Rattle.uset_grammar.specs.Outcome.{Kind, unexpected, unimplemented, invalid_escape, unknown_property, internal, unknown_variable, unexpected_variable, eof}
use Rattle.uset_grammar.specs.Place.{size}

-- a hexadecimal digit, in lower case
abbrev pub hex_digit : ℕ → ℕ
hex_digit d = if nat_lt d 10 then 0x30 + d else 0x57 + d

-- a number below 256 in hexadecimal, without zeros in front
abbrev pub hex_above : ℕ → ℕ → Text
hex_above high d = if high == 0 then hex_digit d ∷ [] else hex_digit high ∷ hex_digit d ∷ []

-- a control character by its code in braces
abbrev pub control : ℕ → Text
control c =
    if nat_lt c 0x10 then codes "\\u{" ++ hex_above 0 c ++ codes "}"
    else if nat_lt c 0x20 then codes "\\u{" ++ hex_above 1 (c - 0x10) ++ codes "}"
    else codes "\\u{7f}"

-- the character between quotes: quotes, the backslash and ASCII's controls are escaped
abbrev pub quoted : ℕ → Text
quoted c =
    if c == 0 then codes "\\0"
    else if c ∈ "\t" then codes "\\t"
    else if c ∈ "\r" then codes "\\r"
    else if c ∈ "\n" then codes "\\n"
    else if c ∈ "'" then codes "\\'"
    else if c ∈ "\"" then codes "\\\""
    else if c ∈ "\\" then codes "\\\\"
    else if nat_lt c 0x20 then control c
    else if c == 0x7F then control c
    else c ∷ []

-- what is wrong, in words
abbrev pub words : Kind → Text
words (unexpected c) = codes "unexpected character '" ++ quoted c ++ codes "'"
words unimplemented = codes "unimplemented"
words invalid_escape = codes "invalid escape sequence"
words unknown_property = codes "unknown property"
words internal = codes "internal error"
words unknown_variable = codes "unknown variable"
words unexpected_variable = codes "unexpected variable"
words eof = codes "unexpected end of input"

-- the front of the text up to the first end of a character behind the byte offset
abbrev pub front_past : ℕ → Text → Text
front_past offset [] = []
front_past offset (c ∷ t) =
    let n = length (encode_utf8 c) in
    c ∷ (if nat_lt offset n then [] else front_past (offset - n) t)

-- that front and an arrow, where there is an offset within the source
abbrev pub up_to_place : Option ℕ → Text → Text
up_to_place None source = []
up_to_place (Some offset) source = if nat_lt offset (size source) then front_past offset source ++ codes "← " else []

-- a fault of these words at this byte offset, with the source
abbrev pub message : Text → Option ℕ → Text → Text
message wrong offset source = up_to_place offset source ++ codes "error: " ++ wrong

-- A fault with its source. Where more is due at the end, the whole source is shown.
abbrev pub shown : Kind → Option ℕ → Text → Text
shown (unexpected c) offset source = message (words (unexpected c)) offset source
shown unimplemented offset source = message (words unimplemented) offset source
shown invalid_escape offset source = message (words invalid_escape) offset source
shown unknown_property offset source = message (words unknown_property) offset source
shown internal offset source = message (words internal) offset source
shown unknown_variable offset source = message (words unknown_variable) offset source
shown unexpected_variable offset source = message (words unexpected_variable) offset source
shown eof offset source = source ++ codes "← error: " ++ words eof
