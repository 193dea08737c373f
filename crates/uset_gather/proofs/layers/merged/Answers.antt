use Rattle.std.proofs.Common.{◌∙◌}
use Rattle.uset_gather.proofs.LayersLemmas.{taken_over}
use Rattle.uset_gather.proofs.layers.merged.Goals as goal

pub loop-below-preserved : goal.loop-below-preserved
loop-below-preserved c = λ d b. taken_over _ _ _ c.loop-below.top c.in_ok-top.top c.in-Some.ensures.items c.in_ok-top.ensures d b ∙ c.loop-below.invariant d b
