use Rattle.std.proofs.Common.{◌≡◌, ◌≤◌, ◌<◌, ℕ, ◌∷◌, length}
use denote.Text.{Utf8}
use denote.Shadow.{shadow}
use Rattle.std.specs.Str.{chars}
use Rattle.cp_invlist.specs.InversionList.{contains}
use Rattle.uset_read.specs.Spelled.{around_seen}
use Rattle.uset_grammar.specs.EscapeParts.{braced_in, numbers_in, behind_number}
use Rattle.uset_read.proofs.escape.read_braced.Given as goal

abbrev pub invariant-loop-more : goal.invariant-loop-more
invariant-loop-more l =
    let white_space = contains l.white_space in
    let around = around_seen l.around in
    let begin = chars l.begin in
    shadow (Utf8 l.rest)
    × (length l.rest < length l.text)
    × (length (chars l.rest) < length (chars l.text))
    × ((left : ℕ) × (length (chars l.rest) ≤ left)
    × (braced_in white_space around begin (chars l.text)
    ≡ behind_number white_space around begin (numbers_in white_space around begin left) (l.first ∷ l.more.items) (chars l.rest)))

abbrev pub decreases-loop-more : goal.decreases-loop-more
decreases-loop-more l = length l.rest
