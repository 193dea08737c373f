-- Worked sources that are read, each with its tree and what stands behind it.
use Rattle.std.proofs.Common.{List, [], ◌∷◌, true, false, refl}
use Rattle.uset_grammar.specs.Escape.{is_hex, value, is_number, plain, letter, is_above, is_surrogate}
use Rattle.uset_grammar.specs.Property.{is_key}
use Rattle.uset_grammar.specs.Tree.{given, property, bracket, done, add, join, remove, keep}
use Rattle.uset_grammar.specs.Front.{sign}
use lib.Utf8.{encode}
use Rattle.uset_grammar.proofs.SampleLanguage.{begins_name, continues_name, is_space, letters_and_bc}
use Rattle.uset_grammar.proofs.ExampleTable.{Row, reads, set, all_but, one, range, word, AreAnswers, are_answers}

-- Characters, ranges and hyphens; white space; a caret; what stands behind the bracket is free.
abbrev ranges : List Row
ranges =
    reads "[a-z0]" (set (range "a" "z" (one "0" done))) "" ∷
    reads "[--]" (bracket false true (one "-" done)) "" ∷
    reads "[-]" (bracket false true done) "" ∷
    reads "[]" (set done) "" ∷
    reads "[a]x" (set (one "a" done)) "x" ∷
    reads "[a-b]x" (set (range "a" "b" done)) "x" ∷
    reads "[  - -  ]" (bracket false true (one "-" done)) "" ∷
    reads "[ :L:]" (set (one ":" (one "L" (one ":" done)))) "" ∷
    reads "[^]" (all_but done) "" ∷
    reads "[a-b-] x" (set (range "a" "b" (one "-" done))) " x" ∷
    reads "[ - a]" (bracket false true (one "a" done)) "" ∷
    []

ranges_answered : AreAnswers ranges
unfolding sign is_key is_hex value is_number plain letter is_above is_surrogate encode
ranges_answered = are_answers ranges refl

-- A `$` at the end stands for U+FFFF.
abbrev dollars : List Row
dollars =
    reads "[$]" (set (add 0xFFFF 0xFFFF done)) "" ∷
    reads "[^[^ $ ]]" (all_but (join (all_but (add 0xFFFF 0xFFFF done)) done)) "" ∷
    reads "[$a$ ]" (set (one "a" (add 0xFFFF 0xFFFF done))) "" ∷
    []

dollars_answered : AreAnswers dollars
unfolding sign is_key is_hex value is_number plain letter is_above is_surrogate encode
dollars_answered = are_answers dollars refl

-- Strings, and strings of one character.
abbrev strings : List Row
strings =
    reads "[a-z\\]{[}] []" (set (range "a" "z" (one "]" (one "[" done)))) " []" ∷
    reads "[[a-z{abc}]&[b-z{abc}{abx}]]" (set (join (set (range "a" "z" (word "abc" done))) (keep (set (range "b" "z" (word "abc" (word "abx" done)))) done))) "" ∷
    reads "[{}}]" (set (word "" (one "}" done))) "" ∷
    reads "[{ab}-]" (set (word "ab" (one "-" done))) "" ∷
    reads "[{{}]" (set (one "{" done)) "" ∷
    reads "[ { [ a - z } ]" (set (word "[a-z" done)) "" ∷
    reads "[{\\p}]" (set (one "p" done)) "" ∷
    []

strings_answered : AreAnswers strings
unfolding sign is_key is_hex value is_number plain letter is_above is_surrogate encode
strings_answered = are_answers strings refl

-- Escapes.
abbrev escapes : List Row
escapes =
    reads "[\\x{61 0062   063}]" (set (one "a" (one "b" (one "c" done)))) "" ∷
    reads "[^{h\\u{65}llo\\ world}]" (all_but (word "hello world" done)) "" ∷
    reads "[\\uD800-\\uD8FF]" (set (add 0xD800 0xD8FF done)) "" ∷
    reads "[^\\uD800-\\uE0FF]" (all_but (add 0xD800 0xE0FF done)) "" ∷
    reads "[\\$a]" (set (one "$" (one "a" done))) "" ∷
    reads "[\\x{D800 D801 D802}]" (set (add 0xD800 0xD800 (add 0xD801 0xD801 (add 0xD802 0xD802 done)))) "" ∷
    reads "[-\\x{61 62}]" (bracket false true (one "a" (one "b" done))) "" ∷
    []

escapes_answered : AreAnswers escapes
unfolding sign is_key is_hex value is_number plain letter is_above is_surrogate encode
escapes_answered = are_answers escapes refl

-- Sets inside, joined, taken away and kept.
abbrev nested : List Row
nested =
    reads "[[a-a][b-z] - [a-d][e-z]]" (set (join (set (one "a" done)) (join (set (range "b" "z" done)) (remove (set (range "a" "d" done)) (join (set (range "e" "z" done)) done))))) "" ∷
    reads "[-[a-z]&[b]]" (bracket false true (join (set (range "a" "z" done)) (keep (set (one "b" done)) done))) "" ∷
    reads "[[a-b]-]" (set (join (set (range "a" "b" done)) (one "-" done))) "" ∷
    reads "[[a-z]-[a-b]-[y-z]]" (set (join (set (range "a" "z" done)) (remove (set (range "a" "b" done)) (remove (set (range "y" "z" done)) done)))) "" ∷
    reads "[[a-a][b-z] & [a-b][x-z]]" (set (join (set (one "a" done)) (join (set (range "b" "z" done)) (keep (set (range "a" "b" done)) (join (set (range "x" "z" done)) done))))) "" ∷
    reads "[[a-a][b-z] - [a-z][]]" (set (join (set (one "a" done)) (join (set (range "b" "z" done)) (remove (set (range "a" "z" done)) (join (set done) done))))) "" ∷
    reads "[^[^a-z]]" (all_but (join (all_but (range "a" "z" done)) done)) "" ∷
    reads "[[[[[[[[[[[[]]]]]]]]]]]]" (set (join (set (join (set (join (set (join (set (join (set (join (set (join (set (join (set (join (set (join (set (join (set done) done)) done)) done)) done)) done)) done)) done)) done)) done)) done)) done)) "" ∷
    reads "[[[[]]]]x" (set (join (set (join (set (join (set done) done)) done)) done)) "x" ∷
    []

nested_answered : AreAnswers nested
unfolding sign is_key is_hex value is_number plain letter is_above is_surrogate encode
nested_answered = are_answers nested refl

-- Variables: a character, a string and a set.
abbrev variables : List Row
variables =
    reads "[$s-[b-z]]" (set (join (given letters_and_bc) (remove (set (range "b" "z" done)) done))) "" ∷
    reads "$s-[a]" (given letters_and_bc) "-[a]" ∷
    reads "[$ab-$ab$v]" (set (range "z" "z" (word "ab" done))) "" ∷
    reads "[$a-$ab]" (set (range "a" "z" done)) "" ∷
    reads "$s" (given letters_and_bc) "" ∷
    []

variables_answered : AreAnswers variables
unfolding sign is_key is_hex value is_number plain letter is_above is_surrogate encode
variables_answered = are_answers variables refl

-- Properties of the three tables, which carets, `P`, `≠` and words for falsehood negate.
abbrev properties : List Row
properties =
    reads "[:XIDS:]" (property false begins_name) "" ∷
    reads "[:^XID_Start:]x" (property true begins_name) "x" ∷
    reads "[:^Pat_WS≠True:]" (property false is_space) "" ∷
    reads "\\p{XIDC≠No}" (property false continues_name) "" ∷
    reads "\\P{ XID _ Start = f }" (property false begins_name) "" ∷
    reads "[\\p{XIDS}-[:Pattern_White_Space=y:]&[a]]" (set (join (property false begins_name) (remove (property false is_space) (keep (set (one "a" done)) done)))) "" ∷
    []

properties_answered : AreAnswers properties
unfolding sign is_key is_hex value is_number plain letter is_above is_surrogate encode
properties_answered = are_answers properties refl
