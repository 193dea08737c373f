-- Worked sources that end where more is due.
use Rattle.std.proofs.Common.{List, [], ◌∷◌, refl}
use Rattle.uset_grammar.specs.Escape.{is_hex, value, is_number, plain, letter, is_above, is_surrogate}
use Rattle.uset_grammar.specs.Property.{is_key}
use Rattle.uset_grammar.specs.Front.{sign}
use lib.Utf8.{encode}
use Rattle.uset_grammar.proofs.ExampleTable.{Row, ends, AreAnswers, are_answers}

-- Each ends too early.
abbrev unended : List Row
unended =
    ends "[a-z[\\]]" ∷
    ends "[a^" ∷
    ends "" ∷
    ends "$" ∷
    ends "[a-[b]" ∷
    ends "[{]" ∷
    ends "[" ∷
    ends "[^" ∷
    ends "[^{" ∷
    ends "[^{h" ∷
    ends "[^{h\\" ∷
    ends "[^{h\\u" ∷
    ends "[^{h\\u{" ∷
    ends "[^{h\\u{6" ∷
    ends "[^{h\\u{65" ∷
    ends "[^{h\\u{65}" ∷
    ends "[^{h\\u{65}l" ∷
    ends "[^{h\\u{65}ll" ∷
    ends "[^{h\\u{65}llo" ∷
    ends "[^{h\\u{65}llo\\" ∷
    ends "[^{h\\u{65}llo\\ " ∷
    ends "[^{h\\u{65}llo\\ w" ∷
    ends "[^{h\\u{65}llo\\ wo" ∷
    ends "[^{h\\u{65}llo\\ wor" ∷
    ends "[^{h\\u{65}llo\\ worl" ∷
    ends "[^{h\\u{65}llo\\ world" ∷
    ends "[^{h\\u{65}llo\\ world}" ∷
    ends "[[[[[[[[[[[[" ∷
    ends "[[:XIDS:]" ∷
    ends "[0" ∷
    ends "[[]" ∷
    ends "\\" ∷
    ends "\\p" ∷
    ends "[:" ∷
    ends "[\\x" ∷
    ends "[\\p" ∷
    ends "[[:" ∷
    ends "[a-[:XIDS:]" ∷
    ends "[a-\\p{XIDS}" ∷
    ends "[[a]" ∷
    ends "[$s-[b]" ∷
    ends "\\p{XIDS" ∷
    []

unended_answered : AreAnswers unended
unfolding sign is_key is_hex value is_number plain letter is_above is_surrogate encode
unended_answered = are_answers unended refl
