use Rattle.uset_reader.proofs.EvaluationLemmas.{pushed_next}
use Rattle.uset_reader.proofs.evaluation.with_complements.Goals as goal

pub loop-step-preserved : goal.loop-step-preserved
loop-step-preserved c =
    pushed_next c.args.found.now c.args.steps.now c.loop-step.step-index _ c.loop-step.all.items c.push_step.new.all.items c.loop-step-test.true c.loop-step.invariant c.in_ok-push_step.ensures
