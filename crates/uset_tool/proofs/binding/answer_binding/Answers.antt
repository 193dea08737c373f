use Rattle.std.proofs.Common.{sym, ◌∙◌}
use Rattle.std.specs.String.{string_bytes}
use Rattle.std.proofs.lemmas.Result.{IfOk-weaker}
use Rattle.prop_data.specs.Database.{tables_of}
use Rattle.uset_variables.specs.Variables.{variables_of}
use Rattle.uset_tool.specs.declared.answer.Answer.{Answer}
use Rattle.uset_tool.specs.Lines.{definition_seen}
use Rattle.uset_tool.specs.Answer.{DefinitionAnswer, BindingAnswer, free}
use Rattle.uset_tool.proofs.BindingLemmas.{bound_result, name_is_bound, name_is_free}
use Rattle.uset_tool.proofs.binding.answer_binding.Goals as goal

pub returns-then-is_some-clause-answer : goal.returns-then-is_some-clause-answer
returns-then-is_some-clause-answer c =
    bound_result (tables_of c.args.resolver.now) (variables_of c.args.variables.now) c.args.name.now (definition_seen c.args.definition) c.answer_bound_before.result
    (name_is_bound c.args.variables.now c.args.name.now c.utf8.name c.get.result c.get.ensures.value (sym c.is_some.ensures ∙ c.if-is_some.true)) c.answer_bound_before.ensures.text c.answer_bound_before.ensures.err

pub returns-clause-answer : goal.returns-clause-answer
returns-clause-answer c =
    let old = variables_of c.args.variables.now in
    let new = variables_of c.answer_definition.new.variables in
    let tables = tables_of c.args.resolver.now in
    let d = definition_seen c.args.definition in
    IfOk-weaker c.answer_definition.result (λ (a : Answer). DefinitionAnswer tables old c.args.name.now d (string_bytes a.text) a.is_err new) (λ (a : Answer). BindingAnswer tables old c.args.name.now d (string_bytes a.text) a.is_err new)
    (λ a h. free (name_is_free c.args.variables.now c.args.name.now c.utf8.name c.get.result c.get.ensures.value (sym c.is_some.ensures ∙ c.if-is_some.false)) h)
    c.answer_definition.ensures.answer
