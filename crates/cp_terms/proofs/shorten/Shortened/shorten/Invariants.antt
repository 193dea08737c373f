use Rattle.std.proofs.Common.{ℕ, Bool, [], take}
use Rattle.cp_terms.specs.Terms.{steps_done}
use Rattle.cp_terms.specs.Shorten.{Agree, FitsTerm}
use Rattle.cp_terms.proofs.shorten.Shortened.shorten.Given as goal

abbrev pub invariant-loop-step : goal.invariant-loop-step
invariant-loop-step l = (v w : ℕ → Bool) → Agree l.windows l.end v w → FitsTerm w l.self (steps_done v (take l.step-index l.steps) [])
