use Rattle.std.proofs.Common.{◌≡◌, ◌≤◌, [], length}
use denote.Shadow.{shadow}
use denote.Text.{Utf8}
use Rattle.std.specs.Str.{chars}
use Rattle.std.specs.String.{string_bytes}
use Rattle.cp_invlist.specs.InversionList.{contains}
use Rattle.uset_grammar.specs.PropertyParts.{key_in}
use Rattle.uset_read.specs.Queries.{form_seen}
use Rattle.uset_read.proofs.property.read_key.Given as goal

abbrev pub invariant-loop-key : goal.invariant-loop-key
invariant-loop-key l =
    shadow (Utf8 l.rest)
    × (length l.rest ≤ length l.text)
    × (key_in (contains l.white_space) (form_seen l.form) [] (chars l.text)
    ≡ key_in (contains l.white_space) (form_seen l.form) (chars (string_bytes l.key)) (chars l.rest))

abbrev pub decreases-loop-key : goal.decreases-loop-key
decreases-loop-key l = length l.rest
