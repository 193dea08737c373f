-- Worked sources with an item that does not fit where it stands, each with its fault.
use Rattle.std.proofs.Common.{List, [], ◌∷◌, refl}
use Prim.Native.Char.{code}
use Rattle.uset_grammar.specs.Outcome.{unexpected}
use Rattle.uset_grammar.specs.Escape.{is_hex, value, is_number, plain, letter, is_above, is_surrogate}
use Rattle.uset_grammar.specs.Property.{is_key}
use Rattle.uset_grammar.specs.Front.{sign}
use lib.Utf8.{encode}
use Rattle.uset_grammar.proofs.ExampleTable.{Row, fails, AreAnswers, are_answers}

-- A character.
abbrev characters : List Row
characters =
    fails "[$ a]" (unexpected (code "a")) 3 ∷
    fails "[a-b-z]" (unexpected (code "z")) 5 ∷
    fails "[[set]&b]" (unexpected (code "b")) 7 ∷
    fails "[$=]" (unexpected (code "=")) 2 ∷
    fails "[\\x{61 62}-d]" (unexpected (code "d")) 11 ∷
    fails "[--z]" (unexpected (code "z")) 3 ∷
    fails "[$s&:]" (unexpected (code ":")) 4 ∷
    fails "[$s$0]" (unexpected (code "0")) 4 ∷
    fails "[$s-z]" (unexpected (code "z")) 4 ∷
    fails "[$v-z]" (unexpected (code "z")) 4 ∷
    fails "[a$0]" (unexpected (code "0")) 3 ∷
    []

characters_answered : AreAnswers characters
unfolding sign is_key is_hex value is_number plain letter is_above is_surrogate encode
characters_answered = are_answers characters refl

-- A hyphen, an ampersand, a dollar, and the closing bracket.
abbrev signs : List Row
signs =
    fails "[a-&]" (unexpected (code "&")) 3 ∷
    fails "[a&b]" (unexpected (code "&")) 2 ∷
    fails "[[set]&]" (unexpected (code "]")) 7 ∷
    fails "[&]" (unexpected (code "&")) 1 ∷
    fails "[^-[a - {z}\\u{ 61 }\\x{61 62 D800}$ &$s\\x41ä]" (unexpected (code "&")) 35 ∷
    fails "[\\x{61 62}-&]" (unexpected (code "&")) 11 ∷
    fails "[$&]" (unexpected (code "&")) 2 ∷
    fails "[--&]" (unexpected (code "&")) 3 ∷
    fails "[a-b&]" (unexpected (code "&")) 4 ∷
    fails "[$s&&]" (unexpected (code "&")) 4 ∷
    fails "[$s$&]" (unexpected (code "&")) 4 ∷
    fails "[$s-&]" (unexpected (code "&")) 4 ∷
    fails "[[b-y]0&a\\]" (unexpected (code "&")) 7 ∷
    fails "[$v&a" (unexpected (code "&")) 3 ∷
    fails "[{ab}-&]" (unexpected (code "&")) 6 ∷
    fails "[{}\u{2028}a&a" (unexpected (code "&")) 7 ∷
    fails "[a&]" (unexpected (code "&")) 2 ∷
    fails "[a$&]" (unexpected (code "&")) 3 ∷
    fails "[😀a&$" (unexpected (code "&")) 6 ∷
    fails "[$s&]" (unexpected (code "]")) 4 ∷
    fails "[\\x{61 62}-$]" (unexpected (code "$")) 11 ∷
    fails "[$$]" (unexpected (code "$")) 2 ∷
    fails "[--$]" (unexpected (code "$")) 3 ∷
    fails "[$s&$]" (unexpected (code "$")) 4 ∷
    fails "[$s$$]" (unexpected (code "$")) 4 ∷
    fails "[$s-$]" (unexpected (code "$")) 4 ∷
    fails "[{ab}-$]" (unexpected (code "$")) 6 ∷
    fails "[a$$]" (unexpected (code "$")) 3 ∷
    fails "[\u{ffff}-$]" (unexpected (code "$")) 5 ∷
    fails "[\\x{61 62}$-z]" (unexpected (code "-")) 11 ∷
    fails "[\\x{61 62}--]" (unexpected (code "-")) 11 ∷
    fails "[$-]" (unexpected (code "-")) 2 ∷
    fails "[---]" (unexpected (code "-")) 3 ∷
    fails "[$s&-]" (unexpected (code "-")) 4 ∷
    fails "[$s$-]" (unexpected (code "-")) 4 ∷
    fails "[$s--]" (unexpected (code "-")) 4 ∷
    fails "[{ab}$-z]" (unexpected (code "-")) 6 ∷
    fails "[{ab}--]" (unexpected (code "-")) 6 ∷
    fails "[a$-]" (unexpected (code "-")) 3 ∷
    fails "[\u{ffff}--]" (unexpected (code "-")) 5 ∷
    []

signs_answered : AreAnswers signs
unfolding sign is_key is_hex value is_number plain letter is_above is_surrogate encode
signs_answered = are_answers signs refl

-- An escape, at its backslash.
abbrev escapes : List Row
escapes =
    fails "[\\x{61 62}$\\uD800" (unexpected (code "\\")) 11 ∷
    fails "[\\x{61 62}-\\n" (unexpected (code "\\")) 11 ∷
    fails "[$\\n" (unexpected (code "\\")) 2 ∷
    fails "[--\\n" (unexpected (code "\\")) 3 ∷
    fails "[$s&\\n" (unexpected (code "\\")) 4 ∷
    fails "[$s$\\n" (unexpected (code "\\")) 4 ∷
    fails "[$s-\\n" (unexpected (code "\\")) 4 ∷
    fails "[$v$\\uD800" (unexpected (code "\\")) 4 ∷
    fails "[{ab}-\\n" (unexpected (code "\\")) 6 ∷
    fails "[a$\\n" (unexpected (code "\\")) 3 ∷
    fails "[a-b-\\n" (unexpected (code "\\")) 5 ∷
    []

escapes_answered : AreAnswers escapes
unfolding sign is_key is_hex value is_number plain letter is_above is_surrogate encode
escapes_answered = are_answers escapes refl

-- An escape of several numbers, at its backslash, once the second number begins.
abbrev escapes_of_several : List Row
escapes_of_several =
    fails "[a-\\u{41 42}]" (unexpected (code "\\")) 3 ∷
    fails "[\\x{61 63}-\\x{62 64}]" (unexpected (code "\\")) 11 ∷
    fails "[$\\x{61 6" (unexpected (code "\\")) 2 ∷
    fails "[a-\\x{61 6" (unexpected (code "\\")) 3 ∷
    []

escapes_of_several_answered : AreAnswers escapes_of_several
unfolding sign is_key is_hex value is_number plain letter is_above is_surrogate encode
escapes_of_several_answered = are_answers escapes_of_several refl

-- A string, at its brace.
abbrev strings : List Row
strings =
    fails "[a-{bc}" (unexpected (code "{")) 3 ∷
    fails "[\\x{61 62}-{a}" (unexpected (code "{")) 11 ∷
    fails "[${a}" (unexpected (code "{")) 2 ∷
    fails "[--{a}" (unexpected (code "{")) 3 ∷
    fails "[$s&{a}" (unexpected (code "{")) 4 ∷
    fails "[$s${a}" (unexpected (code "{")) 4 ∷
    fails "[$s-{a}" (unexpected (code "{")) 4 ∷
    fails "[{ab}-{a}" (unexpected (code "{")) 6 ∷
    fails "[a${a}" (unexpected (code "{")) 3 ∷
    fails "[a-b-{a}" (unexpected (code "{")) 5 ∷
    fails "[\\x{61 62}${}" (unexpected (code "{")) 11 ∷
    fails "[\\x{61 62}-{}" (unexpected (code "{")) 11 ∷
    fails "[${}" (unexpected (code "{")) 2 ∷
    fails "[--{}" (unexpected (code "{")) 3 ∷
    fails "[$s&{}" (unexpected (code "{")) 4 ∷
    fails "[$s${}" (unexpected (code "{")) 4 ∷
    fails "[$s-{}" (unexpected (code "{")) 4 ∷
    fails "[$v${}" (unexpected (code "{")) 4 ∷
    fails "[$v-{}" (unexpected (code "{")) 4 ∷
    fails "[a${}" (unexpected (code "{")) 3 ∷
    fails "[\u{ffff}-{}" (unexpected (code "{")) 5 ∷
    []

strings_answered : AreAnswers strings
unfolding sign is_key is_hex value is_number plain letter is_above is_surrogate encode
strings_answered = are_answers strings refl

-- A set, at its bracket, once something stands behind it.
abbrev sets : List Row
sets =
    fails "[a-[b]]" (unexpected (code "[")) 3 ∷
    fails "[\\x{61 62}-[:XIDS:]]" (unexpected (code "[")) 11 ∷
    fails "[$[:XIDS:]]" (unexpected (code "[")) 2 ∷
    fails "[--[:XIDS:]]" (unexpected (code "[")) 3 ∷
    fails "[$s$[:XIDS:]]" (unexpected (code "[")) 4 ∷
    fails "[{ab}-[:XIDS:]]" (unexpected (code "[")) 6 ∷
    fails "[a$[:XIDS:]]" (unexpected (code "[")) 3 ∷
    fails "[\u{ffff}-[:XIDS:]]" (unexpected (code "[")) 5 ∷
    fails "[\\x{61 62}-[]]" (unexpected (code "[")) 11 ∷
    fails "[$[]]" (unexpected (code "[")) 2 ∷
    fails "[--[]]" (unexpected (code "[")) 3 ∷
    fails "[$s$[]]" (unexpected (code "[")) 4 ∷
    fails "[{ab}-[]]" (unexpected (code "[")) 6 ∷
    fails "[a$[]]" (unexpected (code "[")) 3 ∷
    fails "[\u{ffff}-[]]" (unexpected (code "[")) 5 ∷
    []

sets_answered : AreAnswers sets
unfolding sign is_key is_hex value is_number plain letter is_above is_surrogate encode
sets_answered = are_answers sets refl

-- The end of a range that is below its first, at the last character that spells it; U+FFFD stands for a surrogate.
abbrev reversed_ranges : List Row
reversed_ranges =
    fails "[\\xe5-\\xe4]" (unexpected (code "ä")) 9 ∷
    fails "[z-$a]" (unexpected (code "a")) 4 ∷
    fails "[z-y]" (unexpected (code "y")) 3 ∷
    fails "[\\xe5-ä]" (unexpected (code "ä")) 6 ∷
    fails "[z-a]" (unexpected (code "a")) 3 ∷
    fails "[\u{ffff}-\\n" (unexpected 0xA) 6 ∷
    fails "[\u{ffff}-\\uD800" (unexpected 0xFFFD) 10 ∷
    fails "[\u{ffff}-{a}" (unexpected (code "a")) 7 ∷
    fails "[\u{ffff}-$a" (unexpected (code "a")) 6 ∷
    fails "[\u{ffff}-\\uD800]" (unexpected 0xFFFD) 10 ∷
    fails "[\\uDFFF-\\uD800]" (unexpected 0xFFFD) 13 ∷
    []

reversed_ranges_answered : AreAnswers reversed_ranges
unfolding sign is_key is_hex value is_number plain letter is_above is_surrogate encode
reversed_ranges_answered = are_answers reversed_ranges refl

-- A caret is no item.
abbrev carets : List Row
carets =
    fails "[a^]" (unexpected (code "^")) 2 ∷
    fails "[a-[b^]]" (unexpected (code "^")) 5 ∷
    fails "[ ^]" (unexpected (code "^")) 2 ∷
    []

carets_answered : AreAnswers carets
unfolding sign is_key is_hex value is_number plain letter is_above is_surrogate encode
carets_answered = are_answers carets refl
