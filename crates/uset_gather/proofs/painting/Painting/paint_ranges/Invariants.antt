use Rattle.std.proofs.Common.{◌≡◌, ℕ, ◌||◌, take}
use Rattle.uset_gather.specs.Painting.{covered, in_painting}
use Rattle.uset_gather.proofs.painting.Painting.paint_ranges.Given as goal

abbrev pub invariant-loop-painted : goal.invariant-loop-painted
invariant-loop-painted l = (c : ℕ) → in_painting l.self c ≡ (in_painting l.fn.self c || covered (take l.painted-index l.ranges) c)
