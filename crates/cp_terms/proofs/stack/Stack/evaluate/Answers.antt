use Rattle.std.proofs.Common.{◌≡◌, [], ap, ◌∙◌, get_or}
use Rattle.std.proofs.lemmas.List.{take_all}
use Rattle.std.proofs.lemmas.Result.{on_ok_weaker}
use Rattle.cp_terms.specs.declared.step.Step.TheVariants.{Push}
use Rattle.cp_terms.specs.Terms.{steps_done, step_done}
use Rattle.cp_terms.specs.Blocks.{block_marks}
use Rattle.cp_terms.specs.Stretches.{stretch_has, stack_marks}
use Rattle.cp_terms.proofs.TermsLemmas.{steps_done-more}
use Rattle.cp_terms.proofs.stack.Stack.evaluate.Goals as goal

pub loop-step-init : goal.loop-step-init
loop-step-init c = λ i j short h. ap (block_marks i j) c.clear.ensures.items

pub loop-step-preserved : goal.loop-step-preserved
loop-step-preserved c = λ i j short h.
    let v = stretch_has c.args.stretch.now i j in
    let step = get_or c.args.steps.now c.loop-step.step-index (Push 0) in
    let taken : stack_marks c.args.stretch.now i j c.take.new.self ≡ step_done v step (stack_marks c.args.stretch.now i j c.loop-step.self) = c.in_ok-take.ensures i j short h in
    taken ∙ (ap (step_done v step) (c.loop-step.invariant i j short h) ∙ steps_done-more v c.args.steps.now c.loop-step.step-index c.loop-step-test.true)

pub returns : goal.returns
returns c =
    on_ok_weaker c.settle.result
    (λ made i j short h.
    made i j short h
    ∙ (c.loop-step.invariant i j short h ∙ ap (λ ss. steps_done (stretch_has c.args.stretch.now i j) ss []) (take_all c.loop-step.step-index c.args.steps.now c.loop-step-test.false)))
    c.settle.ensures.made
