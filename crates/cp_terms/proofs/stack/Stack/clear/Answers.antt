use Rattle.std.proofs.Common.{◌∷◌, ◌-◌, refl, ap, sym, ◌∙◌, arith, set}
use Rattle.std.specs.Vec.{vec_len}
use Rattle.cp_terms.specs.Terms.{clear_done}
use Rattle.cp_terms.specs.Blocks.{block_marks}
use Rattle.cp_terms.specs.Stretches.{stretch_has, named_above}
use Rattle.cp_terms.proofs.BlockLemmas.{empty, empty_has, top_set}
use Rattle.cp_terms.proofs.stack.Stack.clear.Goals as goal

pub returns-in-Some : goal.returns-in-Some
returns-in-Some c = λ i j short h.
    let made = c.settle.new.self.made in
    let settled = c.in_ok-settle.ensures in
    let top = top_set i j made.items (vec_len made - 1) c.in-Some.block.now empty (omega (arith, c.in-Some.ensures.variant.0 refl)) c.in-Some.ensures.value in
    ap (λ o. named_above (stretch_has c.args.stretch.now i j) o (block_marks i j (set made.items (vec_len made - 1) empty))) settled.named
    ∙ (top.is
    ∙ (ap (λ b. b ∷ top.rest) (empty_has i j short)
    ∙ sym (ap clear_done (sym (settled.made i j short h) ∙ top.was))))
