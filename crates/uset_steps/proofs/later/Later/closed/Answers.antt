use Rattle.std.proofs.Common.{◌∙◌}
use Rattle.uset_steps.proofs.StepsLemmas.{last_done}
use Rattle.uset_steps.proofs.later.Later.closed.Goals as goal

pub loop-step-init : goal.loop-step-init
loop-step-init c = λ sets fits m. c.in_ok-left.ensures sets c.args.self.sets.items m _

pub loop-step-preserved : goal.loop-step-preserved
loop-step-preserved c = λ sets fits m.
    last_done sets _ c.loop-step.left.items c.pop.new.self.items c.in-Some.step m _ _ c.in-Some.ensures.items ((rw c.deref.ensures.value at c.in_ok-growing.ensures) sets fits.own m)
    ∙ c.loop-step.invariant sets fits m
