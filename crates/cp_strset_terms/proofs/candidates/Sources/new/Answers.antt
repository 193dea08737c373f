use Rattle.std.proofs.Common.{List, [], subst, take, get_or, reverse}
use Rattle.std.proofs.lemmas.List.{take_all}
use Rattle.cp_terms.specs.declared.step.Step.{Step}
use Rattle.cp_terms.specs.declared.step.Step.TheVariants.{Push}
use Rattle.cp_terms.specs.Terms.{steps_done, step_done}
use Rattle.cp_strset_terms.specs.Candidates.{Covers, CoversTerm}
use Rattle.cp_strset_terms.specs.Leaves.{leaf_holds}
use Rattle.cp_strset_terms.specs.Steps.{without_complement, without_complements}
use Rattle.cp_strset_terms.proofs.CandidatesLemmas.{stacked_where_covered, steps_done-more}
use Rattle.cp_strset_terms.proofs.candidates.Sources.new.Goals as goal

pub take-requires : goal.take-requires
take-requires c = stacked_where_covered _ c.loop-step.sources.indices.items (reverse c.loop-step.sources.stack.items) _ (c.loop-step.invariant [])

pub loop-step-preserved : goal.loop-step-preserved
loop-step-preserved c = λ bytes.
    let v = leaf_holds c.args.leaves.now bytes in
    let step = get_or c.args.steps.now c.loop-step.step-index (Push 0) in
    let done = steps_done v (without_complements (take c.loop-step.step-index c.args.steps.now)) [] in
    let e : Covers v c.take.new.self (step_done v (without_complement step) done) = c.in_ok-take.ensures bytes done (c.loop-step.invariant bytes) in
    subst (Covers v c.take.new.self) (steps_done-more v c.args.steps.now c.loop-step.step-index c.loop-step-test.true) e

pub returns-clause-stacked : goal.returns-clause-stacked
returns-clause-stacked c = stacked_where_covered _ c.loop-step.sources.indices.items (reverse c.loop-step.sources.stack.items) _ (c.loop-step.invariant [])

pub returns-clause-covered : goal.returns-clause-covered
returns-clause-covered c = subst (λ (ss : List Step). CoversTerm c.args.leaves.now ss c.loop-step.sources) (take_all c.loop-step.step-index c.args.steps.now c.loop-step-test.false) c.loop-step.invariant
