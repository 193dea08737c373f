use Rattle.std.proofs.Common.{◌≡◌, drop}
use Rattle.prop_values.specs.Groups.{number_in}
use Rattle.prop_values.proofs.group.number_of_bits.Given as goal

abbrev pub invariant-loop-number : goal.invariant-loop-number
invariant-loop-number l = number_in (drop l.number-index l.rows) l.bits ≡ number_in l.rows l.bits
