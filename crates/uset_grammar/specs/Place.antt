-- Places in bytes: the definitions name a place by the text before it, and a fault by a byte offset into the source.
use Rattle.std.specs.Prelude.{ℕ, ◌-◌, length, encode_utf8_all, Option, Some, None}
use Rattle.uset_grammar.specs.Text.{Text}
use Rattle.uset_grammar.specs.Outcome.{Kind, unexpected, unimplemented, invalid_escape, unknown_property, internal, unknown_variable, unexpected_variable, eof}

-- the number of bytes of a text in UTF-8
abbrev pub size : Text → ℕ
size t = length (encode_utf8_all t)

-- The number of bytes before the place. What a property resolves to is missed at its end mark, and the offset is then
-- the byte before the mark, which may be the last of several of one character.
abbrev pub bytes_before : Kind → Text → ℕ
bytes_before (unexpected c) before = size before
bytes_before unimplemented before = size before
bytes_before invalid_escape before = size before
bytes_before unknown_property before = size before - 1
bytes_before internal before = size before - 1
bytes_before unknown_variable before = size before
bytes_before unexpected_variable before = size before
bytes_before eof before = size before

abbrev pub offset_of : Kind → Option Text → Option ℕ
offset_of kind None = None
offset_of kind (Some before) = Some (bytes_before kind before)
