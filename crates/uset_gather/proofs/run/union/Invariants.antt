use Rattle.std.proofs.Common.{◌≡◌, ℕ, take}
use Rattle.cp_invlist.specs.InversionList.{contains}
use Rattle.uset_gather.specs.Painting.{in_some}
use Rattle.uset_gather.proofs.run.union.Given as goal

abbrev pub invariant-loop-range : goal.invariant-loop-range
invariant-loop-range l = (c : ℕ) → contains l.builder c ≡ in_some (take l.range-index l.fn.ranges) c
