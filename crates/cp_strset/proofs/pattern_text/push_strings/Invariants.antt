use Rattle.std.proofs.Common.{◌≡◌, ◌++◌, drop, map}
use Rattle.std.specs.List.{flat_map}
use Rattle.std.specs.String.{string_bytes}
use Rattle.cp_strset.specs.PatternText.{string_text}
use Rattle.cp_strset.proofs.pattern_text.push_strings.Given as goal

abbrev pub invariant-loop-string : goal.invariant-loop-string
invariant-loop-string l =
    string_bytes l.text ++ flat_map string_text (map string_bytes (drop l.string-index l.strings))
    ≡ string_bytes l.fn.text ++ flat_map string_text (map string_bytes l.strings)
