use Rattle.std.proofs.Common.{map, take}
use Rattle.std.specs.String.{string_bytes}
use Rattle.cp_strset_terms.specs.Numbers.{KeepsNumbers, AreNumbered, Grows}
use Rattle.cp_strset_terms.proofs.string_numbers.StringNumbers.numbers_of.Given as goal

abbrev pub invariant-loop-string : goal.invariant-loop-string
invariant-loop-string l =
    KeepsNumbers l.initial.self l.self × AreNumbered l.self l.numbers.items (map string_bytes (take l.string-index l.strings))
    × Grows (map string_bytes l.strings) l.initial.self l.self
