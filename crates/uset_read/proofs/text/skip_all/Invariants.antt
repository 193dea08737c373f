use Rattle.std.proofs.Common.{◌≡◌, ◌≤◌, ℕ, List, ◌++◌, length}
use denote.Shadow.{shadow}
use denote.Text.{Utf8}
use Rattle.std.specs.Str.{chars}
use Rattle.cp_invlist.specs.InversionList.{contains}
use Rattle.uset_grammar.specs.Text.{skip}
use Rattle.uset_read.proofs.text.skip_all.Given as goal

abbrev pub invariant-loop-c : goal.invariant-loop-c
invariant-loop-c l =
    shadow (Utf8 l.rest)
    × (skip (contains l.set) (chars l.rest) ≡ skip (contains l.set) (chars l.text))
    × ((front : List ℕ) × (l.text ≡ front ++ l.rest))
    × (length l.rest ≤ length l.text)
    × (length (chars l.rest) ≤ length (chars l.text))

abbrev pub decreases-loop-c : goal.decreases-loop-c
decreases-loop-c l = length l.rest
