use Rattle.std.proofs.Common.{◌≡◌, ◌≤◌, [], length}
use denote.Shadow.{shadow}
use denote.Text.{Utf8}
use Rattle.std.specs.Str.{chars}
use Rattle.std.specs.String.{string_bytes}
use Rattle.cp_invlist.specs.InversionList.{contains}
use Rattle.uset_grammar.specs.PropertyParts.{value_in}
use Rattle.uset_read.specs.Queries.{form_seen}
use Rattle.uset_read.proofs.property.read_value.Given as goal

abbrev pub invariant-loop-value : goal.invariant-loop-value
invariant-loop-value l =
    shadow (Utf8 l.rest)
    × (length l.rest ≤ length l.text)
    × (value_in (contains l.white_space) (form_seen l.form) [] (chars l.text)
    ≡ value_in (contains l.white_space) (form_seen l.form) (chars (string_bytes l.value)) (chars l.rest))

abbrev pub decreases-loop-value : goal.decreases-loop-value
decreases-loop-value l = length l.rest
