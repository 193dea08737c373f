use Rattle.std.proofs.Common.{◌≡◌, ℕ, Bool, [], ◌++◌}
use Rattle.uset_grammar.specs.Tree.{Member}
use Rattle.uset_steps.specs.Names.{Sets}
use Rattle.uset_steps.specs.NumberedTerms.{steps_over}
use Rattle.uset_steps.specs.Numbering.{AreNumbered, Tells}
use Rattle.uset_steps.specs.TermSteps.{term_steps}
use Rattle.uset_steps.proofs.term.Term.into_numbered.Given as goal

abbrev pub invariant-loop-step : goal.invariant-loop-step
invariant-loop-step l =
    (l.yielded ++ l.step-iterator.rest.items ≡ l.fn.self.steps.items) × AreNumbered l.numbering
    × ((sets : Sets) (m : Member) (v : ℕ → Bool) → Tells sets m v l.numbering.term.sets.items → steps_over m v l.numbering.term.steps.items [] ≡ term_steps sets m l.yielded [])
