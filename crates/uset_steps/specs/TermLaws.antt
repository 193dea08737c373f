-- What follows from the meaning of the steps of a term.
use Rattle.std.proofs.Common.{◌≡◌, ℕ, Bool, List, [], ◌∷◌, ◌++◌, refl}
use Rattle.cp_terms.specs.declared.step.Step.{Step}
use Rattle.uset_grammar.specs.Tree.{Member}
use Rattle.uset_steps.specs.NumberedTerms.{step_over, steps_over}

-- a step behind others
pub steps_over-push : (m : Member) (v : ℕ → Bool) (ss : List Step) (s : Step) (stack : List Bool) → steps_over m v (ss ++ s ∷ []) stack ≡ step_over m v s (steps_over m v ss stack)
steps_over-push m v [] s stack = refl
steps_over-push m v (t ∷ ss) s stack = steps_over-push m v ss s (step_over m v t stack)
