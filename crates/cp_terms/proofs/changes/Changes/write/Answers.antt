use Rattle.std.proofs.Common.{ℕ, List, sym, arith, subst}
use Rattle.cp_terms.proofs.BitLemmas.{zeros_more}
use Rattle.cp_terms.proofs.ChangesLemmas.{IsLeft, left_none, left_more, bits_gone, tell_written}
use Rattle.cp_terms.proofs.changes.Changes.write.Goals as goal

pub loop-left-init : goal.loop-left-init
loop-left-init c = left_none c.args.self.now c.args.place c.args.word c.difference-left.result c.is_inside.result c.requires.before c.is_inside.ensures c.difference-left.ensures

pub loop-left-preserved : goal.loop-left-preserved
loop-left-preserved c =
    let offset = c.first_bit-offset in
    subst (λ (xs : List ℕ). IsLeft c.args.self.now xs c.args.place c.args.word c.turned-left.result) (sym c.in_ok-push.ensures)
    (left_more c.args.self.now c.loop-left.self c.args.place c.args.word c.loop-left.left c.turned-left.result offset.result c.loop-left.invariant offset.ensures.within offset.ensures.there offset.ensures.before c.turned-left.ensures)

pub loop-left-smaller : goal.loop-left-smaller
loop-left-smaller c =
    let offset = c.first_bit-offset in
    let more = zeros_more c.turned-left.result offset.result c.turned-left.type_inv offset.ensures.within
    (λ j le. bits_gone c.loop-left.left c.turned-left.result offset.result j offset.ensures.within offset.ensures.there offset.ensures.before c.turned-left.ensures le) in
    omega (arith, more, offset.ensures.zeros, offset.ensures.within)

pub returns-clause-members : goal.returns-clause-members
returns-clause-members c = λ m tell bits. tell_written m c.args.self.now c.loop-left.self c.args.place c.args.word c.loop-left.left c.loop-left.invariant (omega arith) tell bits
