use Rattle.std.proofs.Common.{◌≡◌, ℕ, ◌+◌, ◌<◌, ap, sym, subst, ◌∙◌, arith, length}
use Rattle.std.proofs.lemmas.List.Elements.{All-nil}
use Rattle.std.proofs.lemmas.Result.{IfOk-weaker, IfOk-from_err}
use Rattle.cp_invlist.specs.InversionList.{contains}
use Rattle.cp_terms.specs.Changes.{members_of, AreBefore}
use Rattle.cp_terms.proofs.WrittenLemmas.{windows_unknown}
use Rattle.cp_terms.proofs.ChangesLemmas.{members_past, tell_none}
use Rattle.cp_terms.proofs.evaluation.evaluate.Goals as goal

pub returns : goal.returns
returns c =
    let members = members_of c.args.sets.now c.args.steps.now in
    let past = members_past c.args.sets.now c.args.steps.now in
    let tell = c.in_ok-write_all.ensures.members (tell_none members c.new-changes.result) in
    IfOk-weaker c.to_set.result (λ set. set ≡ c.turn.new.self) (λ set. (d : ℕ) → contains set d ≡ members d)
    (λ set same d. ap (λ xs. contains xs d) same ∙ (c.in_ok-turn.ensures.members members (d + 1) tell (λ e le lt. past e le)).told d (omega arith))
    c.to_set.ensures

pub returns-in_err-windows : goal.returns-in_err-windows
returns-in_err-windows c = IfOk-from_err c.from_residual.result _ c.from_residual.ensures.0

pub write_all-requires-clause-windows_each : goal.write_all-requires-clause-windows_each
write_all-requires-clause-windows_each c = c.deref_mut.ensures.len ∙ c.in_ok-windows.ensures.len

pub write_all-requires-clause-windows : goal.write_all-requires-clause-windows
write_all-requires-clause-windows c = windows_unknown c.args.sets.now (length c.args.sets.now) c.deref_mut.result.now (c.deref_mut.ensures.value ∙ c.in_ok-windows.ensures.items_if_clones_equal (λ y same. same))

pub write_all-requires-clause-before : goal.write_all-requires-clause-before
write_all-requires-clause-before c = subst (AreBefore 0) (sym c.new-changes.ensures) (All-nil (λ x. x < 0))

pub returns-in_err-write_all : goal.returns-in_err-write_all
returns-in_err-write_all c = IfOk-from_err c.from_residual-in_err-write_all.result _ c.from_residual-in_err-write_all.ensures.0

pub turn-requires-clause-before : goal.turn-requires-clause-before
turn-requires-clause-before c = c.in_ok-write_all.ensures.before

pub returns-in_err-turn : goal.returns-in_err-turn
returns-in_err-turn c = IfOk-from_err c.from_residual-in_err-turn.result _ c.from_residual-in_err-turn.ensures.0
