use Rattle.std.proofs.Common.{length, ◌-◌, ◌<◌}
use Rattle.cp_strset_terms.proofs.cut.reach.Given as goal

abbrev pub invariant-loop-end : goal.invariant-loop-end
invariant-loop-end l = 0 < l.end

abbrev pub decreases-loop-end : goal.decreases-loop-end
decreases-loop-end l = length l.strings - l.end
