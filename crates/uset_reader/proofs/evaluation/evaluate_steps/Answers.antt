use Rattle.uset_reader.proofs.EvaluationLemmas.{both_ok, at_once}
use Rattle.uset_reader.proofs.evaluation.evaluate_steps.Goals as goal

pub evaluate-requires : goal.evaluate-requires
evaluate-requires c = rw c.deref.ensures.value (c.in_ok-leaves.ensures.fit c.args.all.now c.requires)

pub returns : goal.returns
returns c =
    both_ok c.evaluate.result _ _ _ (λ set points strings. at_once c.members_are_code_points.ensures c.args.found.now c.in_ok-leaves.leaves.items c.args.steps.now c.in_ok-steps.steps.items set c.in_ok-steps.ensures
    c.in_ok-leaves.ensures.lists c.in_ok-leaves.ensures.canonical points strings) (rw (c.deref.ensures.value, c.deref-2.ensures.value) at c.evaluate.ensures.code_points)
    (rw (c.deref.ensures.value, c.deref-2.ensures.value) at c.evaluate.ensures.strings)
