use Rattle.std.proofs.Common.{◌≡◌, ◌≤◌, length}
use denote.Text.{Utf8}
use denote.Shadow.{shadow}
use Rattle.std.specs.Str.{chars}
use Rattle.uset_grammar.specs.EscapeParts.{further_digits_in}
use Rattle.uset_read.proofs.DigitBounds.{BelowFor}
use Rattle.uset_read.proofs.digits.read_further_digits.Given as goal

abbrev pub invariant-loop-c : goal.invariant-loop-c
invariant-loop-c l =
    shadow (Utf8 l.rest)
    × (length l.rest ≤ length l.text)
    × (length (chars l.rest) ≤ length (chars l.text))
    × BelowFor l.left l.number
    × (further_digits_in 5 l.first (chars l.text) ≡ further_digits_in l.left l.number (chars l.rest))

abbrev pub decreases-loop-c : goal.decreases-loop-c
decreases-loop-c l = length l.rest
