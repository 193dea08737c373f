use Rattle.std.proofs.Common.{◌≡◌, ℕ, ◌<◌, [], take}
use Rattle.cp_terms.specs.Terms.{steps_done}
use Rattle.cp_terms.specs.Stretches.{stretch_has, stack_marks}
use Rattle.cp_terms.proofs.stack.Stack.evaluate.Given as goal

abbrev pub invariant-loop-step : goal.invariant-loop-step
invariant-loop-step l = (i j : ℕ) → i < 256 → j < 64 →
    stack_marks l.stretch i j l.self ≡ steps_done (stretch_has l.stretch i j) (take l.step-index l.steps) []
