use Rattle.std.proofs.Common.{◌≡◌, ℕ, Bool, true, List, ◌++◌, length, reverse}
use Rattle.uset_grammar.specs.Tree.{Member}
use Rattle.uset_steps.specs.declared.named_set.Named.{Named}
use Rattle.uset_steps.specs.Names.{Sets}
use Rattle.uset_steps.specs.Steps.{steps_done, occurs}
use Rattle.uset_steps.specs.Seen.{IsSeen}
use Rattle.uset_steps.proofs.counting.counting.Given as goal

abbrev pub invariant-loop-step : goal.invariant-loop-step
invariant-loop-step l =
    ((meant : Sets) (sets : List Named) (m : Member) (b : Bool) → steps_done meant sets (l.steps.items ++ reverse l.kept.items) m b ≡ steps_done meant sets l.fn.steps.items m b)
    × ((outside : Bool) (place : ℕ) → IsSeen l.seen outside place → occurs outside place (reverse l.kept.items) ≡ true)

abbrev pub decreases-loop-step : goal.decreases-loop-step
decreases-loop-step l = length l.steps.items
