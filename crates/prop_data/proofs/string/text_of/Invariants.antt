use Rattle.std.proofs.Common.{◌≡◌, true, take}
use Rattle.std.specs.Prelude.{encode_utf8_all}
use Rattle.std.specs.Str.{all_scalars}
use Rattle.std.specs.String.{string_bytes}
use Rattle.prop_data.proofs.string.text_of.Given as goal

abbrev pub invariant-loop-number : goal.invariant-loop-number
invariant-loop-number l =
    (all_scalars (take l.number-index l.numbers) ≡ true) × (string_bytes l.text ≡ encode_utf8_all (take l.number-index l.numbers))
