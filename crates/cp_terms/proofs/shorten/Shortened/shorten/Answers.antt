use Rattle.std.proofs.Common.{[], subst, take, get_or, List}
use Rattle.std.proofs.lemmas.List.{take_all}
use Rattle.cp_terms.specs.declared.step.Step.{Step}
use Rattle.cp_terms.specs.declared.step.Step.TheVariants.{Push}
use Rattle.cp_terms.specs.Terms.{steps_done, step_done}
use Rattle.cp_terms.specs.Shorten.{FitsTerm}
use Rattle.cp_terms.proofs.TermsLemmas.{steps_done-more}
use Rattle.cp_terms.proofs.shorten.Shortened.shorten.Goals as goal

pub loop-step-preserved : goal.loop-step-preserved
loop-step-preserved c = λ v w agree.
    let step = get_or c.args.steps.now c.loop-step.step-index (Push 0) in
    let e : FitsTerm w c.take.new.self (step_done v step (steps_done v (take c.loop-step.step-index c.args.steps.now) [])) = c.in_ok-take.ensures v w (steps_done v (take c.loop-step.step-index c.args.steps.now) []) agree (c.loop-step.invariant v w agree) in
    subst (FitsTerm w c.take.new.self) (steps_done-more v c.args.steps.now c.loop-step.step-index c.loop-step-test.true) e

pub returns : goal.returns
returns c = λ v w agree. subst (λ (ss : List Step). FitsTerm w c.loop-step.self (steps_done v ss [])) (take_all c.loop-step.step-index c.args.steps.now c.loop-step-test.false) (c.loop-step.invariant v w agree)
