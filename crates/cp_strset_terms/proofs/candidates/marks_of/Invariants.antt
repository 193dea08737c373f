use Rattle.std.proofs.Common.{◌≡◌, ◌<◌, true, Some, All, length, take}
use Rattle.std.specs.List.{slice_get}
use Rattle.cp_strset_terms.proofs.candidates.marks_of.Given as goal

abbrev pub invariant-loop-index : goal.invariant-loop-index
invariant-loop-index l =
    (length l.marks.items ≡ l.count)
    × All (λ index. index < l.count → slice_get l.marks.items index ≡ Some true) (take l.index-index l.indices)
