use Rattle.std.proofs.Common.{◌∷◌, ◌-◌, refl, ap, sym, ◌∙◌, arith}
use Rattle.std.specs.Vec.{vec_len}
use Rattle.cp_terms.specs.Terms.{both_done}
use Rattle.cp_terms.specs.Blocks.{block_marks}
use Rattle.cp_terms.specs.Stretches.{stretch_has, named_above}
use Rattle.cp_terms.proofs.BlockLemmas.{top_set}
use Rattle.cp_terms.proofs.stack.Stack.merge.Goals as goal

pub returns-in-Some-last_mut : goal.returns-in-Some-last_mut
returns-in-Some-last_mut c = λ i j short h.
    let made = c.args.self.now.made in
    let v = stretch_has c.args.stretch.now i j in
    let top = top_set i j made.items (vec_len made - 1) c.in-Some-last_mut.lower.now c.combine.new.lower (omega (arith, c.in-Some-last_mut.ensures.variant.0 refl)) c.in-Some-last_mut.ensures.value in
    top.is
    ∙ (ap (λ b. b ∷ top.rest) (c.combine.ensures i j short h)
    ∙ sym (ap (both_done c.args.operation) (ap (λ o. named_above v o (block_marks i j made.items)) c.in-Some.is ∙ ap (λ l. v c.in-Some.index ∷ l) top.was)))
