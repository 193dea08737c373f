use Rattle.std.proofs.Common.{◌≡◌, take}
use Rattle.cp_strset_terms.specs.Steps.{without_complements}
use Rattle.cp_strset_terms.proofs.members.complement_free.Given as goal

abbrev pub invariant-loop-step : goal.invariant-loop-step
invariant-loop-step l = l.free.items ≡ without_complements (take l.step-index l.steps)
