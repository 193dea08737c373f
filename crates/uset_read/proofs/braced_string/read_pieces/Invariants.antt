use Rattle.std.proofs.Common.{◌≤◌, length}
use denote.Text.{Utf8}
use denote.Shadow.{shadow}
use Rattle.std.specs.String.{string_bytes}
use Rattle.uset_read.proofs.PiecesRead.{SoFar}
use Rattle.uset_read.proofs.braced_string.read_pieces.Given as goal

abbrev pub invariant-loop-string : goal.invariant-loop-string
invariant-loop-string l =
    shadow (Utf8 l.rest)
    × (length l.rest ≤ length l.text)
    × SoFar l.white_space l.text (string_bytes l.string) l.rest

abbrev pub decreases-loop-string : goal.decreases-loop-string
decreases-loop-string l = length l.rest
