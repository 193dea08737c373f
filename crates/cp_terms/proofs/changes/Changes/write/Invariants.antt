use Rattle.std.proofs.Common.{◌-◌}
use Rattle.std.specs.Int.{trailing_zeros, w64}
use Rattle.cp_terms.proofs.ChangesLemmas.{IsLeft}
use Rattle.cp_terms.proofs.changes.Changes.write.Given as goal

abbrev pub decreases-loop-left : goal.decreases-loop-left
decreases-loop-left l = 64 - trailing_zeros w64 l.left

abbrev pub invariant-loop-left : goal.invariant-loop-left
invariant-loop-left l = IsLeft l.fn.self l.self l.place l.word l.left
