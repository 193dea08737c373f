use Rattle.std.proofs.Common.{List, ℕ, ap, ◌∙◌, sym, subst}
use Rattle.std.specs.Str.Lines.{lines}
use Rattle.prop_data.specs.Database.{IsFault}
use Rattle.prop_data.specs.Forbidden.{AreAllowed}
use Rattle.prop_data.specs.Tables.{Tables}
use Rattle.prop_data.specs.TableText.{table_fault, tables_in}
use Rattle.uset_tool.proofs.RunLemmas.{script_writes, load_error_writes}
use Rattle.uset_tool.proofs.program.eval.Goals as goal

pub returns-in-Ok-clause-written : goal.returns-in-Ok-clause-written
returns-in-Ok-clause-written g c =
    let front = c.split_behind.ensures.front in
    script_writes c.args.input.now _ _ _ _ _ (ap table_fault (sym front) ∙ c.in-Ok.ensures.whole) (c.in-Ok.ensures.tables ∙ ap tables_in front) c.split_behind.ensures.rest c.answer.ensures.written

pub returns-in-Err-clause-written : goal.returns-in-Err-clause-written
returns-in-Err-clause-written g c =
    let error = c.in-Err.error in
    let fault = subst (λ (ls : List (List ℕ)). IsFault ls error) c.split_behind.ensures.front c.in-Err.ensures.fault in
    load_error_writes c.args.input.now error _ _ _ fault c.say_load_error.ensures.says

pub answer-requires : goal.answer-requires
answer-requires g c =
    let P : Tables → Type 0 = λ tables. AreAllowed tables in
    subst P (sym c.in-Ok.ensures.tables) (c.allowed_sets.ensures (lines c.split_behind.result.0.now) c.in-Ok.ensures.whole)
