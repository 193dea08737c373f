use Rattle.std.proofs.Common.{◌≡◌, ◌++◌}
use Rattle.std.specs.List.{flat_map}
use Rattle.std.specs.String.{string_bytes}
use Rattle.cp_strset.specs.PatternText.{range_text}
use Rattle.cp_strset.proofs.pattern_text.push_ranges.Given as goal

abbrev pub invariant-loop-range : goal.invariant-loop-range
invariant-loop-range l =
    string_bytes l.text ++ flat_map range_text l.range-iterator ≡ string_bytes l.fn.text ++ flat_map range_text l.initial.range-iterator
