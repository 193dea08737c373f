use Rattle.std.proofs.Common.{◌≡◌, length, reverse}
use Rattle.uset_grammar.specs.Tree.{Member}
use Rattle.uset_gather.specs.Gathered.{gathered_in}
use Rattle.uset_steps.specs.Later.{later_done, LaterFits}
use Rattle.uset_steps.specs.Names.{Sets}
use Rattle.uset_steps.specs.Steps.{steps_done}
use Rattle.uset_steps.specs.Terms.{growing_in}
use Rattle.uset_steps.proofs.later.Later.closed.Given as goal

abbrev pub invariant-loop-step : goal.invariant-loop-step
invariant-loop-step l = (sets : Sets) → LaterFits sets l.fn.self → (m : Member) →
    steps_done sets l.sets.items (reverse l.left.items) m (growing_in sets l.growing m) ≡ later_done sets l.fn.self m (gathered_in l.fn.gathered m)

abbrev pub decreases-loop-step : goal.decreases-loop-step
decreases-loop-step l = length l.left.items
