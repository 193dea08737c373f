-- What follows from the meaning of steps.
use Rattle.std.proofs.Common.{◌≡◌, ℕ, Bool, List, [], ◌∷◌, ◌++◌, refl}
use Rattle.cp_terms.specs.declared.step.Step.{Step}
use Rattle.cp_terms.specs.Terms.{step_done, steps_done}

-- steps behind others
pub steps_done-append : (v : ℕ → Bool) (ss ts : List Step) (stack : List Bool) → steps_done v (ss ++ ts) stack ≡ steps_done v ts (steps_done v ss stack)
steps_done-append v [] ts stack = refl
steps_done-append v (s ∷ ss) ts stack = steps_done-append v ss ts (step_done v s stack)
