-- Worked sources with a fault inside an escape, a string or a property.
use Rattle.std.proofs.Common.{List, [], ◌∷◌, refl}
use Prim.Native.Char.{code}
use Rattle.uset_grammar.specs.Outcome.{unexpected, unimplemented, invalid_escape, unknown_property, internal}
use Rattle.uset_grammar.specs.Escape.{is_hex, value, is_number, plain, letter, is_above, is_surrogate}
use Rattle.uset_grammar.specs.Property.{is_key}
use Rattle.uset_grammar.specs.Front.{sign}
use lib.Utf8.{encode}
use Rattle.uset_grammar.proofs.ExampleTable.{Row, fails, AreAnswers, are_answers}

-- A character that continues no escape, at that character.
abbrev escapes : List Row
escapes =
    fails "[\\xag]" (unexpected (code "g")) 4 ∷
    fails "[\\x{6g}]" (unexpected (code "g")) 5 ∷
    fails "[\\x{g}]" (unexpected (code "g")) 4 ∷
    fails "[\\x{}]" (unexpected (code "}")) 4 ∷
    fails "[\\x{10ffff0}]" (unexpected (code "0")) 10 ∷
    fails "[\\x{10ffff 1 10ffff0}]" (unexpected (code "0")) 19 ∷
    fails "[\\x{61 62}&]" (unexpected (code "&")) 10 ∷
    fails "[\\U\u{200f}" (unexpected 0x200F) 3 ∷
    fails "[{\\U≠" (unexpected (code "≠")) 4 ∷
    []

escapes_answered : AreAnswers escapes
unfolding sign is_key is_hex value is_number plain letter is_above is_surrogate encode
escapes_answered = are_answers escapes refl

-- Numbers that are no code points, surrogates in strings, and names of characters.
abbrev values_of_escapes : List Row
values_of_escapes =
    fails "[{\\uD800}]" invalid_escape 2 ∷
    fails "[\\N{DASH}]" unimplemented 2 ∷
    fails "[\\x{dabeef}]" invalid_escape 9 ∷
    fails "[\\x{11ffff}]" invalid_escape 9 ∷
    fails "[\\x{110000" invalid_escape 9 ∷
    fails "[\\U00110000" invalid_escape 10 ∷
    fails "[\\N" unimplemented 2 ∷
    fails "[{\\x{110000p" invalid_escape 10 ∷
    fails "[{\\U00110000\u{200f}" invalid_escape 11 ∷
    fails "[{\\x{D800 8" invalid_escape 2 ∷
    fails "[{\\U0000DFFD" invalid_escape 2 ∷
    fails "[{\\uD807" invalid_escape 2 ∷
    fails "[{{\\udFFF ]" invalid_escape 3 ∷
    fails "[[{\\u{D800}" invalid_escape 3 ∷
    fails "[{\\x{dFFF}" invalid_escape 2 ∷
    fails "[{\\x{ 61 d80f N" invalid_escape 9 ∷
    fails "[{a\\x{61 D800\u{2028}" invalid_escape 9 ∷
    fails "[{a\\x{61 D800g}]" invalid_escape 9 ∷
    fails "[{\\x{61 d800}" invalid_escape 8 ∷
    fails "[{\\x{61 00DFFF" invalid_escape 8 ∷
    fails "[{\\N" unimplemented 3 ∷
    fails "[{\\x{61 00DFFF}}]" invalid_escape 8 ∷
    fails "[{\\x{D800 6" invalid_escape 2 ∷
    fails "[{\\N}]" unimplemented 3 ∷
    []

values_of_escapes_answered : AreAnswers values_of_escapes
unfolding sign is_key is_hex value is_number plain letter is_above is_surrogate encode
values_of_escapes_answered = are_answers values_of_escapes refl

-- A character that continues no property, at that character.
abbrev properties : List Row
properties =
    fails "[:=" (unexpected (code "=")) 2 ∷
    fails "[::]" (unexpected (code ":")) 2 ∷
    fails "[:=hello:]" (unexpected (code "=")) 2 ∷
    fails "[:gc=:]" (unexpected (code ":")) 5 ∷
    fails "[:]" (unexpected (code "]")) 2 ∷
    fails "[:L]" (unexpected (code "]")) 3 ∷
    fails "\\p {L}" (unexpected (code " ")) 2 ∷
    fails "\\p]" (unexpected (code "]")) 2 ∷
    fails "[\\p]" (unexpected (code "]")) 3 ∷
    fails "[[:}" (unexpected (code "}")) 3 ∷
    fails "[:XIDS:x" (unexpected (code "x")) 7 ∷
    []

properties_answered : AreAnswers properties
unfolding sign is_key is_hex value is_number plain letter is_above is_surrogate encode
properties_answered = are_answers properties refl

-- Properties that resolve to nothing, at the byte before the end mark; Block lacks a table.
abbrev unresolved_properties : List Row
unresolved_properties =
    fails "\\p{gc=ä}" unknown_property 7 ∷
    fails "[[:scx=Hira:]&[\\u30FC]]" unknown_property 10 ∷
    fails "[[:sc=Hira:]&[\\u30FC]]" unknown_property 9 ∷
    fails "[:blk=ASCII:]" internal 10 ∷
    fails "[:lower case letter:]" unknown_property 18 ∷
    fails "[:ahex:]" unknown_property 5 ∷
    fails "[[:L:]-[aeiou]]" unknown_property 3 ∷
    fails "[:ccc=+230:]" unknown_property 9 ∷
    fails "[:ccc=above:]" unknown_property 10 ∷
    fails "[:ccc=256:]" unknown_property 8 ∷
    fails "[:^AHex≠True:]" unknown_property 13 ∷
    fails "\\p{AHex≠False}" unknown_property 14 ∷
    fails "[:gc=lower-case-letter:]" unknown_property 21 ∷
    fails "[:general_category:]" unknown_property 17 ∷
    fails "[:ll=true:]" unknown_property 8 ∷
    fails "[a-\\p{ll}]" unknown_property 7 ∷
    fails "[a-[:b:]" unknown_property 5 ∷
    fails "\\p{blk=1}[" internal 7 ∷
    fails "\\P{L}" unknown_property 3 ∷
    fails "[:blk=1:]" internal 6 ∷
    fails "[:L:" unknown_property 2 ∷
    fails "[\\p{blk=1}P" internal 8 ∷
    fails "[\\P{L}" unknown_property 4 ∷
    fails "[[:blk=a:" internal 7 ∷
    fails "[[:L:" unknown_property 3 ∷
    []

unresolved_properties_answered : AreAnswers unresolved_properties
unfolding sign is_key is_hex value is_number plain letter is_above is_surrogate encode
unresolved_properties_answered = are_answers unresolved_properties refl
