use Rattle.std.proofs.Common.{◌+◌, ap, ◌∙◌, arith}
use Rattle.std.proofs.lemmas.Result.{on_ok_weaker, IfOk-from_err}
use Rattle.cp_terms.specs.Outcome.{outcome_value}
use Rattle.cp_terms.specs.Changes.{members_of}
use Rattle.cp_terms.proofs.WindowLemmas.{windows_later}
use Rattle.cp_terms.proofs.ChangesLemmas.{before_later}
use Rattle.cp_terms.proofs.StretchLemmas.{stretch_constant, stretch_of_set, stretch_made}
use Rattle.cp_terms.proofs.evaluation.write_stretch.Goals as goal

pub returns-in-Constant-clause-windows : goal.returns-in-Constant-clause-windows
returns-in-Constant-clause-windows c = on_ok_weaker c.turn.result (λ h. windows_later c.args.sets.now c.args.start (c.args.start + 0x4000) c.move_all.new.windows (omega arith) c.move_all.ensures.windows) c.turn.ensures.members

pub returns-in-Set-clause-windows : goal.returns-in-Set-clause-windows
returns-in-Set-clause-windows c = on_ok_weaker c.write_set.result (λ h. windows_later c.args.sets.now c.args.start (c.args.start + 0x4000) c.move_all.new.windows (omega arith) c.move_all.ensures.windows) c.write_set.ensures.members

pub returns-in-Constant-clause-members : goal.returns-in-Constant-clause-members
returns-in-Constant-clause-members c =
    on_ok_weaker c.turn.result
    (λ h tell. h (members_of c.args.sets.now c.args.steps.now) (c.args.start + 0x4000) tell
    (stretch_constant c.args.sets.now c.move_all.new.windows c.args.start c.args.steps.now c.shorten.new.self c.in-Constant.inside c.requires.start c.move_all.ensures.one_each c.move_all.ensures.windows (record { fits = c.in_ok-shorten.ensures })
    (λ w stack fits. c.outcome.ensures w stack fits ∙ ap (λ o. outcome_value w o c.shorten.new.self.steps.items) c.in-Constant.is)))
    c.turn.ensures.members

pub returns-in-Set-clause-members : goal.returns-in-Set-clause-members
returns-in-Set-clause-members c =
    on_ok_weaker c.write_set.result
    (λ h tell. h (members_of c.args.sets.now c.args.steps.now) tell
    (stretch_of_set c.args.sets.now c.move_all.new.windows c.args.start c.args.steps.now c.shorten.new.self c.in-Set.index c.in-Set.complemented c.requires.start c.move_all.ensures.one_each c.move_all.ensures.windows (record { fits = c.in_ok-shorten.ensures })
    (λ w stack fits. c.outcome.ensures w stack fits ∙ ap (λ o. outcome_value w o c.shorten.new.self.steps.items) c.in-Set.is)))
    c.write_set.ensures.members

pub returns-in-Mixed-clause-members : goal.returns-in-Mixed-clause-members
returns-in-Mixed-clause-members c =
    on_ok_weaker c.write_made.result
    (λ h tell. h (members_of c.args.sets.now c.args.steps.now) tell
    (stretch_made c.args.sets.now c.move_all.new.windows c.args.start c.args.steps.now c.shorten.new.self c.requires.start c.move_all.ensures.one_each c.move_all.ensures.windows (record { fits = c.in_ok-shorten.ensures })
    (λ w stack fits. c.outcome.ensures w stack fits ∙ ap (λ o. outcome_value w o c.shorten.new.self.steps.items) c.in-Mixed.is)))
    c.write_made.ensures.members

pub returns-in_err-shorten-clause-members : goal.returns-in_err-shorten-clause-members
returns-in_err-shorten-clause-members c = IfOk-from_err c.from_residual.result _ c.from_residual.ensures.0

pub outcome-requires : goal.outcome-requires
outcome-requires c = tt

pub turn-requires-clause-before : goal.turn-requires-clause-before
turn-requires-clause-before c = c.requires.before

pub write_set-requires-clause-windows : goal.write_set-requires-clause-windows
write_set-requires-clause-windows c = c.move_all.ensures.windows

pub returns-in-Constant-clause-before : goal.returns-in-Constant-clause-before
returns-in-Constant-clause-before c = on_ok_weaker c.turn.result (before_later (c.args.start + 1) (c.args.start + 0x4000) c.turn.new.self (omega arith)) c.turn.ensures.before

pub returns-in-Set-clause-windows_each : goal.returns-in-Set-clause-windows_each
returns-in-Set-clause-windows_each c = c.move_all.ensures.one_each

pub returns-in-Set-clause-before : goal.returns-in-Set-clause-before
returns-in-Set-clause-before c = c.write_set.ensures.before

pub returns-in-Mixed-clause-windows : goal.returns-in-Mixed-clause-windows
returns-in-Mixed-clause-windows c = on_ok_weaker c.write_made.result (λ h. windows_later c.args.sets.now c.args.start (c.args.start + 0x4000) c.move_all.new.windows (omega arith) c.move_all.ensures.windows) c.write_made.ensures.members

pub returns-in-Mixed-clause-before : goal.returns-in-Mixed-clause-before
returns-in-Mixed-clause-before c = c.write_made.ensures.before

pub move_all-requires-clause-place : goal.move_all-requires-clause-place
move_all-requires-clause-place c = omega (arith, c.requires.start)

pub move_all-requires-clause-one_each : goal.move_all-requires-clause-one_each
move_all-requires-clause-one_each c = c.requires.windows_each

pub move_all-requires-clause-windows : goal.move_all-requires-clause-windows
move_all-requires-clause-windows c = c.requires.windows

pub returns-in_err-shorten-clause-windows_each : goal.returns-in_err-shorten-clause-windows_each
returns-in_err-shorten-clause-windows_each c = c.move_all.ensures.one_each

pub returns-in_err-shorten-clause-windows : goal.returns-in_err-shorten-clause-windows
returns-in_err-shorten-clause-windows c = IfOk-from_err c.from_residual.result _ c.from_residual.ensures.0

pub returns-in_err-shorten-clause-before : goal.returns-in_err-shorten-clause-before
returns-in_err-shorten-clause-before c = IfOk-from_err c.from_residual.result _ c.from_residual.ensures.0

pub turn-requires-clause-place : goal.turn-requires-clause-place
turn-requires-clause-place c = omega (arith, c.requires.start)

pub write_set-requires-clause-start : goal.write_set-requires-clause-start
write_set-requires-clause-start c = c.requires.start

pub write_set-requires-clause-windows_each : goal.write_set-requires-clause-windows_each
write_set-requires-clause-windows_each c = c.move_all.ensures.one_each

pub write_set-requires-clause-before : goal.write_set-requires-clause-before
write_set-requires-clause-before c = c.requires.before

pub returns-in-Constant-clause-windows_each : goal.returns-in-Constant-clause-windows_each
returns-in-Constant-clause-windows_each c = c.move_all.ensures.one_each

pub returns-in-Mixed-clause-windows_each : goal.returns-in-Mixed-clause-windows_each
returns-in-Mixed-clause-windows_each c = c.move_all.ensures.one_each
