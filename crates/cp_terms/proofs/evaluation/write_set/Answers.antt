use Rattle.std.proofs.Common.{◌≡◌, ◌+◌, Some, not, refl, sym, ap, ◌∙◌, arith, subst}
use Rattle.std.proofs.Math.Bool.{beq}
use Rattle.std.specs.List.{slice_get}
use Rattle.std.proofs.lemmas.Option.{slice_get_read, slice_get-get_or}
use Rattle.std.proofs.lemmas.Result.{on_ok_weaker}
use Rattle.cp_invlist.specs.InversionList.{differ}
use Rattle.cp_invlist.specs.CutLaws.{differ-false}
use Rattle.cp_terms.specs.Changes.{AreBefore, TellBelow}
use Rattle.cp_terms.proofs.TermsLemmas.{holds_at-reference, holds_at-past}
use Rattle.cp_terms.proofs.WindowLemmas.{IsAhead}
use Rattle.cp_terms.proofs.ChangesLemmas.{constant_none}
use Rattle.cp_terms.proofs.CopyLemmas.{ascends_copied, before_copied, tell_copied}
use Rattle.cp_terms.proofs.evaluation.write_set.Goals as goal

pub returns-in_default-clause-members : goal.returns-in_default-clause-members
returns-in_default-clause-members c =
    on_ok_weaker c.turn.result
    (λ h m tell made. h m (c.args.start + 0x4000) tell
    (λ d le lt. made d le lt ∙ (ap (differ c.args.complemented) (holds_at-past c.args.sets.now d c.args.index c.in_default.ensures.lookup.3) ∙ differ-false c.args.complemented)))
    c.turn.ensures.members

pub moved-window-requires-clause-window : goal.moved-window-requires-clause-window
moved-window-requires-clause-window c =
    let lookup = c.in-Some.ensures.lookup in
    c.requires.windows c.args.index c.in-Some.set.now _ (slice_get_read c.args.sets.now _ c.args.index c.in-Some.set.now refl lookup.3.0 lookup.1)
    (slice_get-get_or c.args.windows.now c.args.index _ (omega (arith, lookup.1, lookup.3.0, c.requires.windows_each)))

pub extend-requires : goal.extend-requires
extend-requires c =
    let ahead : IsAhead c.in-Some.set.now.now c.args.start c.moved-window.result = record { window_there = c.moved-window.ensures.window; ahead = c.moved-window.ensures.ahead } in
    ascends_copied c.in-Some.set.now.now c.elements_before.result.now c.turn-2.new.self c.args.start (c.args.start + 0x4000) c.moved-window.result ahead c.elements_before.ensures c.in_ok-turn.ensures.before

pub returns-clause-before : goal.returns-clause-before
returns-clause-before c =
    on_ok_weaker c.extend.result
    (λ is. subst (AreBefore (c.args.start + 0x4000)) (sym is) (before_copied c.in-Some.set.now.now c.elements_before.result.now c.turn-2.new.self _ c.args.start (c.args.start + 0x4000) (omega arith) c.elements_before.ensures c.in_ok-turn.ensures.before))
    c.extend.ensures

pub returns-clause-members : goal.returns-clause-members
returns-clause-members c =
    let lookup = c.in-Some.ensures.lookup in
    let set = c.in-Some.set.now in
    let at : slice_get c.args.sets.now c.args.index ≡ Some set = slice_get_read c.args.sets.now _ c.args.index set refl lookup.3.0 lookup.1 in
    let ahead : IsAhead set.now c.args.start c.moved-window.result = record { window_there = c.moved-window.ensures.window; ahead = c.moved-window.ensures.ahead } in
    on_ok_weaker c.extend.result
    (λ is m tell made.
    subst (TellBelow m (c.args.start + 0x4000)) (sym is)
    (tell_copied m set.now c.elements_before.result.now c.turn-2.new.self c.args.start (c.args.start + 0x4000) _ c.args.complemented ahead c.elements_before.ensures c.in_ok-turn.ensures.before (c.in_ok-turn.ensures.inside ∙ ap (λ b. not (beq b c.args.complemented)) c.is_inside.ensures)
    (c.in_ok-turn.ensures.members m c.args.start tell (constant_none m c.args.start _))
    (λ d le lt. made d le lt ∙ ap (differ c.args.complemented) (holds_at-reference c.args.sets.now d c.args.index set at))))
    c.extend.ensures
