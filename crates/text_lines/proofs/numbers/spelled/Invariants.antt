use Rattle.std.proofs.Common.{◌≡◌, ◌<◌, ◌^◌, drop}
use Rattle.text_lines.specs.Numbers.{number_onto}
use Rattle.text_lines.proofs.numbers.spelled.Given as goal

abbrev pub invariant-loop-byte : goal.invariant-loop-byte
invariant-loop-byte l = record {
  small : l.value < 16 ^ l.byte-index;
  read_on : number_onto l.base l.value (drop l.byte-index l.digits) ≡ number_onto l.base 0 l.digits;
}
