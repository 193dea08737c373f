use Rattle.std.proofs.Common.{ap, ◌∙◌}
use Rattle.std.proofs.lemmas.List.{take_all}
use Rattle.cp_terms.specs.declared.step.Step.TheVariants.{Push}
use Rattle.cp_strset_terms.specs.Steps.{without_complement, without_complements}
use Rattle.cp_strset_terms.proofs.PushedLemmas.{list_pushed}
use Rattle.cp_strset_terms.proofs.members.complement_free.Goals as goal

pub loop-step-init : goal.loop-step-init
loop-step-init c = c.in_ok-free.ensures.items

pub loop-step-preserved : goal.loop-step-preserved
loop-step-preserved c =
    list_pushed without_complement c.loop-step.free.items c.push.new.self.items c.complement_free_step.result c.args.steps.now c.loop-step.step-index (Push 0)
    c.loop-step-test.true c.in_ok-push.ensures.items c.complement_free_step.ensures c.loop-step.invariant

pub returns : goal.returns
returns c = c.loop-step.invariant ∙ ap without_complements (take_all c.loop-step.step-index c.args.steps.now c.loop-step-test.false)
