use Rattle.std.proofs.Common.{◌≡◌, ◌++◌, map, take}
use Rattle.std.specs.String.{string_bytes}
use Rattle.cp_strset_terms.proofs.table.push_strings.Given as goal

abbrev pub invariant-loop-string : goal.invariant-loop-string
invariant-loop-string l =
    map (λ text. text.now) l.table.items ≡ map (λ text. text.now) l.initial.table.items ++ map string_bytes (take l.string-index l.strings)
