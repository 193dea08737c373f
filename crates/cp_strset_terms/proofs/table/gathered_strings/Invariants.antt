use Rattle.std.proofs.Common.{◌≡◌, ◌≢◌, All, length, map, take}
use Rattle.std.specs.List.{flat_map}
use Rattle.std.specs.Str.{chars}
use Rattle.cp_strset_terms.specs.Leaves.{strings_of}
use Rattle.cp_strset_terms.proofs.table.gathered_strings.Given as goal

abbrev pub invariant-loop-leaf : goal.invariant-loop-leaf
invariant-loop-leaf l =
    (map (λ text. text.now) l.table.items ≡ flat_map strings_of (take l.leaf-index l.leaves))
    × All (λ s. length (chars s) ≢ 1) (flat_map strings_of (take l.leaf-index l.leaves))
