-- Worked sources that are refused, each with the text that shows its fault.
use Rattle.std.proofs.Common.{◌≡◌, List, [], ◌∷◌, refl, codes}
use Rattle.uset_grammar.specs.Escape.{is_hex, value, is_number, plain, letter, is_above, is_surrogate}
use Rattle.uset_grammar.specs.Property.{is_key}
use Rattle.uset_grammar.specs.Front.{sign}
use Rattle.uset_grammar.specs.Shown.{quoted}
use lib.Utf8.{encode}
use Rattle.uset_grammar.proofs.ExampleTable.{Message, shows, shown_all, messages}

-- The whole source and the arrow where more is due; else the source through the character at the place.
abbrev faults : List Message
faults =
    shows "[a-z[\\]]" "[a-z[\\]]← error: unexpected end of input" ∷
    shows "[a^" "[a^← error: unexpected end of input" ∷
    shows "[a^]" "[a^← error: unexpected character '^'" ∷
    shows "[a-[b^]]" "[a-[b^← error: unexpected character '^'" ∷
    shows "[a-[b]]" "[a-[← error: unexpected character '['" ∷
    shows "[a-\\u{41 42}]" "[a-\\← error: unexpected character '\\\\'" ∷
    shows "[\\xe5-\\xe4]" "[\\xe5-\\xe4← error: unexpected character 'ä'" ∷
    shows "\\p{gc=ä}" "\\p{gc=ä← error: unknown property" ∷
    shows "[{\\uD800}]" "[{\\← error: invalid escape sequence" ∷
    shows "[$a-$s]" "[$a-$s← error: unexpected variable" ∷
    shows "" "← error: unexpected end of input" ∷
    shows "$" "$← error: unexpected end of input" ∷
    shows "[:blk=ASCII:]" "[:blk=ASCII← error: internal error" ∷
    shows "[:ahex:]" "[:ahex← error: unknown property" ∷
    shows "[a-[b]" "[a-[b]← error: unexpected end of input" ∷
    shows "[a-{bc}" "[a-{← error: unexpected character '{'" ∷
    shows "[\\N{DASH}]" "[\\N← error: unimplemented" ∷
    shows "[$zz]" "[$zz← error: unknown variable" ∷
    shows "[\\x{dabeef}]" "[\\x{dabeef← error: invalid escape sequence" ∷
    shows " [a]" " ← error: unexpected character ' '" ∷
    shows "\\x41" "\\x← error: unexpected character 'x'" ∷
    shows "[z-$a]" "[z-$a← error: unexpected character 'a'" ∷
    shows "[$ a]" "[$ a← error: unexpected character 'a'" ∷
    shows "[\\x{10ffff 1 10ffff0}]" "[\\x{10ffff 1 10ffff0← error: unexpected character '0'" ∷
    shows "\\p {L}" "\\p ← error: unexpected character ' '" ∷
    shows "[\\x{61 63}-\\x{62 64}]" "[\\x{61 63}-\\← error: unexpected character '\\\\'" ∷
    shows "[z-\\n]" "[z-\\n← error: unexpected character '\\n'" ∷
    []

faults_shown : shown_all faults ≡ messages faults
unfolding sign is_key is_hex value is_number plain letter is_above is_surrogate encode
faults_shown = refl

-- the characters that are escaped between the quotes
null_is_escaped : quoted 0 ≡ codes "\\0"
null_is_escaped = refl

quote_is_escaped : quoted 0x27 ≡ codes "\\'"
quote_is_escaped = refl

bell_is_escaped : quoted 0x07 ≡ codes "\\u{7}"
bell_is_escaped = refl

unit_separator_is_escaped : quoted 0x1F ≡ codes "\\u{1f}"
unit_separator_is_escaped = refl

delete_is_escaped : quoted 0x7F ≡ codes "\\u{7f}"
delete_is_escaped = refl
