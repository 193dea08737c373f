use Rattle.std.proofs.Common.{rules}
use Rattle.uset_read.proofs.PropertyRead.{front_stops, inner_stops, inner_got}
use Rattle.uset_read.proofs.property.read_property.Goals as goal

pub returns-in_err-form-clause-stopped : goal.returns-in_err-form-clause-stopped
returns-in_err-form-clause-stopped c =
    let h = front_stops c.units_by_parts.ensures.properties c.args.white_space.now c.args.text.now c.in_err-form.field-0.0 c.in_err-form.ensures.parts in
    search rules

pub returns-in_err-query-clause-stopped : goal.returns-in_err-query-clause-stopped
returns-in_err-query-clause-stopped c =
    let h = inner_stops c.units_by_parts.ensures.properties c.args.white_space.now c.args.text.now c.in_ok-form.inner.now c.in_ok-form.form c.in_ok-form.negated c.in_err-query.field-0.0
    c.in_ok-form.ensures.parts c.in_err-query.ensures.parts in
    search rules

pub returns-clause-read : goal.returns-clause-read
returns-clause-read c =
    inner_got c.units_by_parts.ensures.properties c.args.white_space.now c.args.text.now c.in_ok-form.inner.now c.in_ok-query.rest.now c.in_ok-form.form c.in_ok-form.negated c.in_ok-query.query
    c.in_ok-form.ensures.parts c.in_ok-query.ensures.parts
