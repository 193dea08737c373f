use Rattle.std.proofs.Common.{arith}
use Rattle.uset_read.specs.Stops.{left_at}
use Rattle.uset_reader.specs.Syntaxes.{language_seen}
use Rattle.uset_reader.specs.Units.{OperandStops}
use Rattle.std.proofs.Common.{◌≤◌, length}
use Rattle.std.proofs.lemmas.Result.{IfOk-weaker, IfErr-weaker}
use Rattle.uset_reader.proofs.PropertyLemmas.{answered_err, stops_too}
use Rattle.uset_reader.proofs.property.read_named.Goals as goal

pub returns-in_err-form-clause-stopped : goal.returns-in_err-form-clause-stopped
returns-in_err-form-clause-stopped c =
    let s = c.args.syntax.now in
    let stop = c.in_err-form.field-0.0 in
    answered_err c.from_residual.result stop (OperandStops (language_seen s) c.args.text.now) c.from_residual.ensures (stops_too s c.args.text.now stop c.in_err-form.ensures.stopped)

pub returns-in_err-form-clause-place : goal.returns-in_err-form-clause-place
returns-in_err-form-clause-place c =
    answered_err c.from_residual.result c.in_err-form.field-0.0 (λ stop. left_at stop ≤ length c.args.text.now) c.from_residual.ensures c.in_err-form.ensures.place

pub returns-clause-read : goal.returns-clause-read
returns-clause-read c = IfOk-weaker c.resolve_named.result _ _ (λ p h. h c.args.text.now c.in_ok-form.ensures.read) c.resolve_named.ensures.read

pub returns-clause-stopped : goal.returns-clause-stopped
returns-clause-stopped c = IfErr-weaker c.resolve_named.result _ _ (λ stop h. h c.args.text.now c.in_ok-form.ensures.read) c.resolve_named.ensures.stopped

pub returns-clause-place : goal.returns-clause-place
returns-clause-place c = IfErr-weaker c.resolve_named.result _ _ (λ stop le. omega (arith, le, c.in_ok-form.ensures.shorter)) c.resolve_named.ensures.place

pub returns-clause-shorter : goal.returns-clause-shorter
returns-clause-shorter c = IfOk-weaker c.resolve_named.result _ _ (λ p lt. omega (arith, lt, c.in_ok-form.ensures.shorter)) c.resolve_named.ensures.shorter
