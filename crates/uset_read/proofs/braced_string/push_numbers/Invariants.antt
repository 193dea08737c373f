use Rattle.std.proofs.Common.{◌≡◌, true, ◌++◌, ◌∷◌, take}
use Rattle.std.specs.List.{list_all}
use Rattle.std.specs.Str.{chars}
use Rattle.std.specs.String.{string_bytes}
use Rattle.uset_read.specs.Pieces.{is_character}
use Rattle.uset_read.proofs.braced_string.push_numbers.Given as goal

abbrev pub invariant-loop-number : goal.invariant-loop-number
invariant-loop-number l =
    let pushed = l.first ∷ take l.number-index l.more in
    (list_all is_character pushed ≡ true) × (chars (string_bytes l.string) ≡ chars (string_bytes l.fn.string) ++ pushed)
