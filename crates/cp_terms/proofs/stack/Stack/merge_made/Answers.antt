use Rattle.std.proofs.Common.{◌≡◌, ◌∷◌, ◌-◌, refl, ap, sym, ◌∙◌, arith}
use Rattle.std.specs.Vec.{vec_len}
use Rattle.cp_terms.specs.Terms.{both_done}
use Rattle.cp_terms.specs.Blocks.{block_has, block_marks}
use Rattle.cp_terms.proofs.BlockLemmas.{block_marks-push, top_set}
use Rattle.cp_terms.proofs.stack.Stack.merge_made.Goals as goal

pub returns-clause-marks : goal.returns-clause-marks
returns-clause-marks c = λ i j short h.
    let below = c.pop.new.self.items in
    let top = top_set i j below (vec_len c.pop.new.self - 1) c.in-Some-last_mut.lower.now c.combine.new.self (omega (arith, c.in-Some-last_mut.ensures.variant.0 refl)) c.in-Some-last_mut.ensures.value in
    let was : block_marks i j c.args.self.now.made.items ≡ block_has c.in-Some.upper i j ∷ block_marks i j below =
    ap (block_marks i j) c.in-Some.ensures.items ∙ block_marks-push i j below c.in-Some.upper in
    top.is
    ∙ (ap (λ b. b ∷ top.rest) (c.combine.ensures i j short h)
    ∙ sym (ap (both_done c.args.operation) (was ∙ ap (λ l. block_has c.in-Some.upper i j ∷ l) top.was)))
