use Rattle.std.proofs.Common.{◌≡◌, drop}
use Rattle.prop_values.specs.Groups.{bits_in}
use Rattle.prop_values.proofs.group.bits_of_number.Given as goal

abbrev pub invariant-loop-known : goal.invariant-loop-known
invariant-loop-known l = bits_in (drop l.known-index l.rows) l.number ≡ bits_in l.rows l.number
