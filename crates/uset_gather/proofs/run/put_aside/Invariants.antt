use Rattle.std.proofs.Common.{◌≡◌, ℕ, ◌||◌, ◌++◌}
use Rattle.cp_invlist.specs.InversionList.{contains}
use Rattle.cp_invlist.specs.Ranges.{AreMaximalRanges}
use Rattle.uset_gather.specs.Painting.{in_some}
use Rattle.uset_gather.proofs.run.put_aside.Given as goal

abbrev pub invariant-loop-range : goal.invariant-loop-range
invariant-loop-range l =
    AreMaximalRanges (contains l.set) (l.yielded ++ l.range-iterator)
    × ((c : ℕ) → in_some l.aside.items c ≡ (in_some l.fn.aside.items c || in_some l.yielded c))
