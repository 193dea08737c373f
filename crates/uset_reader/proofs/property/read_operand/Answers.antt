use Rattle.uset_reader.specs.Named.{sets_of}
use Rattle.uset_reader.specs.Syntaxes.{language_seen}
use Rattle.uset_reader.specs.Units.{OperandStopsIn}
use Rattle.uset_reader.proofs.PropertyLemmas.{answered_err, stops_too, kept, kept_unclosed, in_bracket}
use Rattle.uset_reader.proofs.property.read_operand.Goals as goal

pub returns-in_err-form-clause-stopped : goal.returns-in_err-form-clause-stopped
returns-in_err-form-clause-stopped c =
    let s = c.args.syntax.now in
    let stop = c.in_err-form.field-0.0 in
    answered_err c.from_residual.result stop (OperandStopsIn (language_seen s) c.args.gathered.now c.args.text.now) c.from_residual.ensures
    (λ fits. stops_too s c.args.text.now stop c.in_err-form.ensures.stopped)

pub returns-in_err-rest-clause-stopped : goal.returns-in_err-rest-clause-stopped
returns-in_err-rest-clause-stopped c =
    let s = c.args.syntax.now in
    let stop = c.in_err-rest.field-0.0 in
    let found = rw c.in-Some.is at c.place_of.ensures.stands in
    answered_err c.from_residual-in_err-rest.result stop (OperandStopsIn (language_seen s) c.args.gathered.now c.args.text.now) c.from_residual-in_err-rest.ensures (λ fits.
    kept_unclosed s c.args.text.now c.in_ok-form.form c.in_ok-form.query c.in_ok-form.mark.now c.in_ok-form.ensures.read (found (sets_of (language_seen s)) fits) stop c.in_err-rest.ensures.parts)

pub returns-in-Some-clause-read : goal.returns-in-Some-clause-read
returns-in-Some-clause-read c = λ fits.
    let s = c.args.syntax.now in
    let found = rw c.in-Some.is at c.place_of.ensures.stands in
    kept s c.args.text.now c.in_ok-form.form c.in_ok-form.query c.in_ok-form.mark.now c.in_ok-form.ensures.read (found (sets_of (language_seen s)) fits) c.args.gathered.now c.in-Some.place c.in_ok-rest.rest.now
    (rw c.in-Some.is at c.place_of.ensures.found) c.in_ok-rest.ensures.parts

pub returns-in_err-named-clause-stopped : goal.returns-in_err-named-clause-stopped
returns-in_err-named-clause-stopped c =
    let s = c.args.syntax.now in
    answered_err c.from_residual-in_err-named.result c.in_err-named.field-0.0 (OperandStopsIn (language_seen s) c.args.gathered.now c.args.text.now) c.from_residual-in_err-named.ensures
    (λ fits. c.in_err-named.ensures.stopped c.args.text.now c.in_ok-form.ensures.read)

pub returns-clause-read : goal.returns-clause-read
returns-clause-read c = λ fits.
    in_bracket c.args.syntax.now c.args.text.now c.in_ok-set.set c.args.gathered.now c.in_ok-named.rest.now
    (rw (← c.in_ok-set.ensures.ok) at (c.in_ok-named.ensures.read c.args.text.now c.in_ok-form.ensures.read))
