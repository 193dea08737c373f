use Rattle.std.specs.String.{string_bytes}
use Rattle.std.proofs.lemmas.Result.{IfOk-weaker}
use Rattle.prop_data.specs.Database.{tables_of}
use Rattle.uset_grammar.specs.Language.{character}
use Rattle.uset_variables.specs.declared.value.VariableValue.TheVariants.{String as Spelled}
use Rattle.uset_variables.specs.Values.{value_seen, kept}
use Rattle.uset_variables.specs.Variables.{variables_of}
use Rattle.uset_tool.specs.declared.answer.Answer.{Answer}
use Rattle.uset_tool.specs.Answer.{DefinitionAnswer, IsBound}
use Rattle.uset_tool.proofs.BindingLemmas.{character_answer, string_answer}
use Rattle.uset_tool.proofs.binding.answer_definition.Goals as goal

pub returns-in-Char-clause-answer : goal.returns-in-Char-clause-answer
returns-in-Char-clause-answer c =
    let old = variables_of c.args.variables.now in
    let new = variables_of c.answer_value.new.variables in
    let tables = tables_of c.args.resolver.now in
    rw c.in-Char.is
    (IfOk-weaker c.answer_value.result (IsBound c.args.name.now (character c.in-Char.c) old new) (λ (a : Answer). DefinitionAnswer tables old c.args.name.now _ (string_bytes a.text) a.is_err new)
    (λ a h. character_answer tables old new c.args.name.now c.in-Char.c a h)
    c.answer_value.ensures)

pub returns-in-String-clause-answer : goal.returns-in-String-clause-answer
returns-in-String-clause-answer c =
    let old = variables_of c.args.variables.now in
    let new = variables_of c.answer_value-in-String.new.variables in
    let tables = tables_of c.args.resolver.now in
    let bytes = string_bytes c.in-String.text in
    rw c.in-String.is
    (IfOk-weaker c.answer_value-in-String.result (IsBound c.args.name.now (value_seen (kept (Spelled bytes))) old new) (λ (a : Answer). DefinitionAnswer tables old c.args.name.now _ (string_bytes a.text) a.is_err new)
    (λ a h. string_answer tables old new c.args.name.now bytes a h)
    (rw c.new.ensures at c.answer_value-in-String.ensures))
