use Rattle.std.proofs.Common.{◌≡◌, ℕ, ◌+◌, ◌*◌, ◌<◌, ◌≤◌, Bool, List, ap, sym, subst, ◌∙◌, take, get_or, arith}
use Rattle.std.proofs.lemmas.List.{take_all, take_more}
use Rattle.cp_invlist.specs.InversionList.{contains, differ}
use Rattle.cp_invlist.specs.CutLaws.{differ-false}
use Rattle.cp_terms.specs.Blocks.{odd_below, AreTurned}
use Rattle.cp_terms.proofs.CopyLemmas.{left_ahead, contains-left}
use Rattle.cp_terms.proofs.BlockLemmas.{empty_has}
use Rattle.cp_terms.proofs.TurnedLemmas.{turned_more, odd_below-none, odd_below-next, carried_over}
use Rattle.cp_terms.proofs.windows.read_block.Goals as goal

pub loop-element-init : goal.loop-element-init
loop-element-init c = λ i j short h. empty_has i j short

pub loop-element-preserved : goal.loop-element-preserved
loop-element-preserved c =
    let part = c.elements_before-element-items.result.now in
    let k = c.loop-element.element-index in
    let e = get_or part k 0 in
    let next = left_ahead c.args.set.now part c.args.place (c.args.place + 0x4000) c.args.window c.requires.window c.elements_before-element-items.ensures k 0 c.loop-element-test.true in
    subst (λ (xs : List ℕ). AreTurned xs c.args.place c.turn_word.new.self) (sym (take_more part k 0 c.loop-element-test.true))
    (turned_more (take k part) c.args.place e c.loop-element.block c.turn_word.new.self (omega (arith, next, c.requires.ahead)) c.loop-element.invariant c.turn_word.ensures)

pub returns : goal.returns
returns c =
    let xs = c.args.set.now in
    let place = c.args.place in
    let part = c.elements_before-element-items.result.now in
    let left = c.elements_before-element-items.ensures in
    let inside = c.is_inside.result in
    let starts : ℕ → Bool = λ i. differ inside (odd_below (place + 64 * i) part) in
    let ahead = left_ahead xs part place (place + 0x4000) c.args.window c.requires.window left in
    let turned = subst (λ (ys : List ℕ). AreTurned ys place c.loop-element.block) (take_all c.loop-element.element-index part c.loop-element-test.false) c.loop-element.invariant in
    let tells : (d : ℕ) → place ≤ d → d < place + 0x4000 → contains xs d ≡ differ inside (contains part d) =
    λ d le lt. contains-left xs part place (place + 0x4000) d c.args.window c.requires.window left le lt ∙ ap (λ b. differ b (contains part d)) (sym c.is_inside.ensures) in
    c.carry.ensures starts (λ i j. contains xs (place + 64 * i + j))
    (ap (differ inside) (odd_below-none (place + 64 * 0) part (λ k d lt. omega (arith, ahead k d lt, c.requires.ahead))) ∙ differ-false inside)
    (λ i j short h.
    tells (place + 64 * i + j) (omega arith) (omega arith)
    ∙ (carried_over inside (odd_below (place + 64 * i) part) (contains part (place + 64 * i + j))
    ∙ ap (differ (starts i)) (sym (turned i j short h))))
    (λ i short.
    ap (differ inside) (ap (λ n. odd_below n part) (omega arith) ∙ odd_below-next (place + 64 * i + 63) part)
    ∙ sym (tells (place + 64 * i + 63) (omega arith) (omega arith)))
