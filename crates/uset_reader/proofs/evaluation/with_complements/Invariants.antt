use Rattle.std.proofs.Common.{◌≡◌, [], map, take}
use Rattle.uset_grammar.specs.Tree.{Member}
use Rattle.uset_steps.specs.NumberedTerms.{steps_over}
use Rattle.uset_reader.specs.Evaluation.{lists_of_found, listed_at, found_at}
use Rattle.uset_reader.proofs.evaluation.with_complements.Given as goal

abbrev pub invariant-loop-step : goal.invariant-loop-step
invariant-loop-step l =
    (m : Member) → steps_over m (listed_at (map lists_of_found l.found) m) l.all.items [] ≡ steps_over m (found_at l.found m) (take l.step-index l.steps) []
