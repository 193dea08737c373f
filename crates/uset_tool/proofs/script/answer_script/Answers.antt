use Rattle.std.proofs.Common.{refl, ap, ◌∙◌, subst}
use Rattle.std.proofs.lemmas.Result.{err_from_is_err_and}
use Rattle.std.proofs.lemmas.List.{nil_from_length}
use Rattle.std.specs.Str.Iter.{lines_rest}
use Rattle.std.specs.Str.Lines.{lines}
use Rattle.prop_data.specs.Database.{tables_of}
use Rattle.uset_variables.specs.Variables.{no_variables, variables_of}
use Rattle.uset_tool.proofs.BindingLemmas.{nothing_bound}
use Rattle.uset_tool.proofs.Once.{Laws, Holds, holds_none, holds_more, gathering_stops, answering_stops, last_stops, all_answered}
use Rattle.uset_tool.proofs.script.answer_script.Goals as goal

pub loop-line-init : goal.loop-line-init
loop-line-init g c = (
  refl,
  rw (ap lines_rest c.into_iter-line-iterator.ensures.into_iter_gives ∙ c.lines-line-items.ensures.rest) (rw c.new-pending.ensures.items (rw (nothing_bound c.new-variables.result c.new-variables.ensures.free) (holds_none (tables_of c.args.database.now) no_variables (lines c.args.script.now) (g.K.Sink.written c.args.sink.now)))),
  c.new-resolver.ensures,
)

pub returns-in_err-answer-clause-written : goal.returns-in_err-answer-clause-written
returns-in_err-answer-clause-written g c =
    let p = err_from_is_err_and c.from_residual.result c.from_residual.ensures.1 in
    rw (p.1, p.2) (answering_stops (tables_of c.args.database.now) _ _ _ _ _ _ _ _ c.loop-line.invariant.1)

pub returns-in_err-gather-clause-written : goal.returns-in_err-gather-clause-written
returns-in_err-gather-clause-written g c =
    let tables = tables_of c.args.database.now in
    let laws : Laws tables = record { one_answer = c.one_answer.ensures tables c.requires; one_list_of_ranges = c.one_list_of_ranges.ensures; one_list = c.one_list.ensures } in
    let answer = rw (← c.as_bytes.ensures.value, c.loop-line.invariant.2) at c.in_ok-answer.ensures.answer in
    let parts = c.lines_in_order.ensures c.loop-line.line-iterator c.next.new.self c.in-Some.line c.in-Some.ensures.steps in
    let p = err_from_is_err_and c.from_residual-in_err-gather.result c.from_residual-in_err-gather.ensures.1 in
    rw (p.1, p.2) (gathering_stops laws _ _ _ _ _ _ c.in-Some.line.now c.as_bytes.result.now _ _ _ _ _ _ c.in_err-gather.field-0.0 c.loop-line.invariant.1 parts answer c.in_err-gather.ensures.stopped)

pub loop-line-preserved : goal.loop-line-preserved
loop-line-preserved g c =
    let tables = tables_of c.args.database.now in
    let laws : Laws tables = record { one_answer = c.one_answer.ensures tables c.requires; one_list_of_ranges = c.one_list_of_ranges.ensures; one_list = c.one_list.ensures } in
    let answer = rw (← c.as_bytes.ensures.value, c.loop-line.invariant.2) at c.in_ok-answer.ensures.answer in
    let parts = c.lines_in_order.ensures c.loop-line.line-iterator c.next.new.self c.in-Some.line c.in-Some.ensures.steps in (
      ◌∙◌ {b = g.K.Sink.faults c.loop-line.sink} c.in_ok-gather.ensures.counted c.loop-line.invariant.0,
      holds_more laws _ _ _ _ _ _ c.in-Some.line.now c.as_bytes.result.now _ _ _ _ _ _ _ c.loop-line.invariant.1 parts answer c.in_ok-gather.ensures.gathered,
      c.in_ok-answer.ensures.same ∙ c.loop-line.invariant.2,
    )

pub returns-in_err-write_all-clause-written : goal.returns-in_err-write_all-clause-written
returns-in_err-write_all-clause-written g c =
    let tables = tables_of c.args.database.now in
    let none = ap lines (nil_from_length _ c.in-None.ensures.steps.0.0) in
    let held = subst (λ ls. Holds tables no_variables (lines c.args.script.now) (variables_of c.loop-line.variables) ls c.loop-line.has_err c.loop-line.pending.items (g.K.Sink.written c.args.sink.now) (g.K.Sink.written c.loop-line.sink)) none c.loop-line.invariant.1 in
    let p = err_from_is_err_and c.from_residual-in_err-write_all.result c.from_residual-in_err-write_all.ensures.1 in
    rw (p.1, p.2) (last_stops tables _ _ _ _ _ _ _ _ c.in_err-write_all.field-0.0 held (rw c.deref.ensures.value at c.in_err-write_all.ensures.written))

pub returns-clause-written : goal.returns-clause-written
returns-clause-written g c =
    let tables = tables_of c.args.database.now in
    let none = ap lines (nil_from_length _ c.in-None.ensures.steps.0.0) in
    let held = subst (λ ls. Holds tables no_variables (lines c.args.script.now) (variables_of c.loop-line.variables) ls c.loop-line.has_err c.loop-line.pending.items (g.K.Sink.written c.args.sink.now) (g.K.Sink.written c.loop-line.sink)) none c.loop-line.invariant.1 in
    all_answered tables _ _ _ _ _ _ _ _ held (rw c.deref.ensures.value at c.in_ok-write_all.ensures.written)
