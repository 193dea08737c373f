use Rattle.std.proofs.Common.{◌≡◌, ℕ, ◌||◌, ◌++◌}
use Rattle.cp_invlist.specs.InversionList.{contains}
use Rattle.cp_invlist.specs.Ranges.{AreMaximalRanges}
use Rattle.uset_gather.specs.Painting.{in_some, in_painting}
use Rattle.uset_gather.proofs.painting.Painting.paint_set.Given as goal

abbrev pub invariant-loop-range : goal.invariant-loop-range
invariant-loop-range l =
    AreMaximalRanges (contains l.set) (l.yielded ++ l.range-iterator)
    × ((c : ℕ) → in_painting l.self c ≡ (in_painting l.fn.self c || in_some l.yielded c))
