use Rattle.std.specs.String.{string_bytes}
use Rattle.std.proofs.lemmas.Result.{IfOk-weaker}
use Rattle.prop_data.specs.Database.{tables_of}
use Rattle.uset_variables.specs.Variables.{variables_of}
use Rattle.uset_reader.specs.Syntaxes.{language_of}
use Rattle.uset_tool.specs.declared.answer.Answer.{Answer}
use Rattle.uset_tool.specs.Answer.{PatternAnswer, IsReadAnswer, IsFaultAnswer}
use Rattle.uset_tool.proofs.AnswerLemmas.{read_answer, fault_answer}
use Rattle.uset_tool.proofs.answer.answer_pattern.Goals as goal

pub returns-in-Ok-clause-answer : goal.returns-in-Ok-clause-answer
returns-in-Ok-clause-answer c =
    let l = language_of (variables_of c.args.variables.now) (tables_of c.args.resolver.now) in
    IfOk-weaker c.answer_read.result (IsReadAnswer c.in-Ok.length c.in-Ok.set) (λ (a : Answer). PatternAnswer l c.args.source.now (string_bytes a.text) a.is_err)
    (λ a h. read_answer l c.args.source.now c.in-Ok.length c.in-Ok.set a c.in-Ok.ensures.read h)
    c.answer_read.ensures

pub returns-in-Err-clause-answer : goal.returns-in-Err-clause-answer
returns-in-Err-clause-answer c =
    let l = language_of (variables_of c.args.variables.now) (tables_of c.args.resolver.now) in
    IfOk-weaker c.answer_fault.result (IsFaultAnswer c.in-Err.error c.args.source.now) (λ (a : Answer). PatternAnswer l c.args.source.now (string_bytes a.text) a.is_err)
    (λ a h. fault_answer l c.args.source.now c.in-Err.error a c.in-Err.ensures.refused h)
    c.answer_fault.ensures
