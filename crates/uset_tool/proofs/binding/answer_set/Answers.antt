use Rattle.std.proofs.Common.{subst}
use Rattle.std.specs.String.{string_bytes}
use Rattle.std.proofs.lemmas.Result.{IfOk-weaker}
use Rattle.prop_data.specs.Database.{tables_of}
use Rattle.uset_grammar.specs.Language.{set}
use Rattle.uset_gather.specs.Gathered.{in_set}
use Rattle.uset_variables.specs.Variables.{variables_of}
use Rattle.uset_tool.specs.declared.answer.Answer.{Answer}
use Rattle.uset_tool.specs.Script.{set as set_definition}
use Rattle.uset_tool.specs.Answer.{DefinitionAnswer, IsFaultAnswer, IsBound}
use Rattle.uset_tool.proofs.BindingLemmas.{no_set_answer, text_after_result, set_answer}
use Rattle.uset_tool.proofs.binding.answer_set.Goals as goal

pub returns-in-Err-clause-answer : goal.returns-in-Err-clause-answer
returns-in-Err-clause-answer c =
    let old = variables_of c.args.variables.now in
    let tables = tables_of c.args.resolver.now in
    IfOk-weaker c.answer_fault.result (IsFaultAnswer c.in-Err.error c.args.source.now) (λ (a : Answer). DefinitionAnswer tables old c.args.name.now (set_definition c.args.source.now) (string_bytes a.text) a.is_err old)
    (λ a h. no_set_answer tables old c.args.name.now c.args.source.now c.in-Err.error a c.in-Err.ensures.refused h)
    c.answer_fault.ensures

pub returns-in_ok-index_if_long-in-Ok-Pattern-clause-answer : goal.returns-in_ok-index_if_long-in-Ok-Pattern-clause-answer
returns-in_ok-index_if_long-in-Ok-Pattern-clause-answer c =
    let old = variables_of c.args.variables.now in
    let new = variables_of c.answer_value.new.variables in
    let tables = tables_of c.args.resolver.now in
    IfOk-weaker c.answer_value.result (IsBound c.args.name.now (set (in_set c.index_if_long.new.self)) old new) (λ (a : Answer). DefinitionAnswer tables old c.args.name.now (set_definition c.args.source.now) (string_bytes a.text) a.is_err new)
    (λ a h. set_answer tables old new c.args.name.now c.args.source.now _ a (rw c.in-Ok-Pattern.field-0-is at c.in-Ok-Pattern.ensures.read)
    (subst (λ s. IsBound c.args.name.now (set (in_set s)) old new a) c.in_ok-index_if_long-in-Ok-Pattern.ensures h))
    c.answer_value.ensures

pub returns-in-Ok-TextBehind-clause-answer : goal.returns-in-Ok-TextBehind-clause-answer
returns-in-Ok-TextBehind-clause-answer c =
    text_after_result (tables_of c.args.resolver.now) (variables_of c.args.variables.now) c.args.name.now c.args.source.now c.in-Ok-TextBehind.length c.answer_text_after.result (rw c.in-Ok-TextBehind.field-0-is at c.in-Ok-TextBehind.ensures.read) c.answer_text_after.ensures.text c.answer_text_after.ensures.err
