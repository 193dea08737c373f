-- Worked sources with a fault of a variable, and sources that begin no set.
use Rattle.std.proofs.Common.{List, [], ◌∷◌, refl}
use Prim.Native.Char.{code}
use Rattle.uset_grammar.specs.Outcome.{unexpected, unknown_variable, unexpected_variable}
use Rattle.uset_grammar.specs.Escape.{is_hex, value, is_number, plain, letter, is_above, is_surrogate}
use Rattle.uset_grammar.specs.Property.{is_key}
use Rattle.uset_grammar.specs.Front.{sign}
use lib.Utf8.{encode}
use Rattle.uset_grammar.proofs.ExampleTable.{Row, fails, AreAnswers, are_answers}

-- Names that are bound to nothing, and variables that do not fit, at the last character of the name.
abbrev variables : List Row
variables =
    fails "[$zz]" unknown_variable 3 ∷
    fails "[$a-$s]" unexpected_variable 5 ∷
    fails "[$$a]" unexpected_variable 3 ∷
    fails "$a" unexpected_variable 1 ∷
    fails "[$v-$a]" unexpected_variable 5 ∷
    fails "[$s-$a]" unexpected_variable 5 ∷
    fails "$v" unexpected_variable 1 ∷
    fails "$x" unknown_variable 1 ∷
    fails "[$x" unknown_variable 2 ∷
    fails "[\\x{61 62}$$a" unexpected_variable 12 ∷
    fails "[\\x{61 62}-$a" unexpected_variable 12 ∷
    fails "[$$a" unexpected_variable 3 ∷
    fails "[--$a" unexpected_variable 4 ∷
    fails "[$s&$a" unexpected_variable 5 ∷
    fails "[$s$$a" unexpected_variable 5 ∷
    fails "[$s-$a" unexpected_variable 5 ∷
    fails "[$v$$a" unexpected_variable 5 ∷
    fails "[$v-$a" unexpected_variable 5 ∷
    fails "[a$$a" unexpected_variable 4 ∷
    fails "[a-b-$a" unexpected_variable 6 ∷
    fails "[\\x{61 62}$$s" unexpected_variable 12 ∷
    fails "[\\x{61 62}-$s" unexpected_variable 12 ∷
    fails "[$$s" unexpected_variable 3 ∷
    fails "[--$s" unexpected_variable 4 ∷
    fails "[$s$$s" unexpected_variable 5 ∷
    fails "[$v$$s" unexpected_variable 5 ∷
    fails "[$v-$s" unexpected_variable 5 ∷
    fails "[a$$s" unexpected_variable 4 ∷
    fails "[\u{ffff}-$s" unexpected_variable 6 ∷
    fails "[\\x{61 62}$$v" unexpected_variable 12 ∷
    fails "[\\x{61 62}-$v" unexpected_variable 12 ∷
    fails "[$$v" unexpected_variable 3 ∷
    fails "[--$v" unexpected_variable 4 ∷
    fails "[$s&$v" unexpected_variable 5 ∷
    fails "[$s$$v" unexpected_variable 5 ∷
    fails "[$s-$v" unexpected_variable 5 ∷
    fails "[$v$$v" unexpected_variable 5 ∷
    fails "[$v-$v" unexpected_variable 5 ∷
    fails "[a$$v" unexpected_variable 4 ∷
    fails "[\u{ffff}-$v" unexpected_variable 6 ∷
    fails "[a-$s" unexpected_variable 4 ∷
    fails "[$abc]" unknown_variable 4 ∷
    fails "[$s$b$]" unknown_variable 4 ∷
    []

variables_answered : AreAnswers variables
unfolding sign is_key is_hex value is_number plain letter is_above is_surrogate encode
variables_answered = are_answers variables refl

-- At the first character nothing but a set is read, and white space is not skipped.
abbrev firsts : List Row
firsts =
    fails " [a]" (unexpected (code " ")) 0 ∷
    fails "\\x41" (unexpected (code "x")) 1 ∷
    fails "ä" (unexpected (code "ä")) 0 ∷
    fails "$]" (unexpected (code "$")) 0 ∷
    fails "\\n" (unexpected (code "n")) 1 ∷
    []

firsts_answered : AreAnswers firsts
unfolding sign is_key is_hex value is_number plain letter is_above is_surrogate encode
firsts_answered = are_answers firsts refl
