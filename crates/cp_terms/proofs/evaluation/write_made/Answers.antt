use Rattle.std.proofs.Common.{◌+◌, ◌*◌, [], ap, sym, ◌∙◌, arith}
use Rattle.std.proofs.lemmas.Result.{on_ok_weaker}
use Rattle.cp_terms.specs.Terms.{steps_done, top}
use Rattle.cp_terms.specs.Stretches.{stretch_has}
use Rattle.cp_terms.proofs.BlockLemmas.{empty_has}
use Rattle.cp_terms.proofs.evaluation.write_made.Goals as goal

pub returns-in-Some-clause-members : goal.returns-in-Some-clause-members
returns-in-Some-clause-members c =
    let stretch = c.args.stretch.now in
    on_ok_weaker c.write_block.result
    (λ written m tell made. written m tell
    (λ i j short h.
    made (stretch.start + 64 * i + j) (omega arith) (omega arith)
    ∙ sym (c.in-Some.ensures.some i j ∙ ap top (c.in_ok-evaluate.ensures i j short h ∙ ap (λ ss. steps_done (stretch_has stretch i j) ss []) c.deref.ensures.value))))
    c.write_block.ensures.members

pub returns-in-None-clause-members : goal.returns-in-None-clause-members
returns-in-None-clause-members c =
    let stretch = c.args.stretch.now in
    on_ok_weaker c.write_block-in-None.result
    (λ written m tell made. written m tell
    (λ i j short h.
    made (stretch.start + 64 * i + j) (omega arith) (omega arith)
    ∙ (sym (ap top (c.in_ok-evaluate.ensures i j short h ∙ ap (λ ss. steps_done (stretch_has stretch i j) ss []) c.deref.ensures.value))
    ∙ (c.in-None.ensures.none i j ∙ sym (empty_has i j short)))))
    c.write_block-in-None.ensures.members
