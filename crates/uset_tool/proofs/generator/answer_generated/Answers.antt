use Rattle.std.proofs.Common.{List, ℕ, sym, ◌∙◌, subst}
use Rattle.std.specs.String.{string_bytes}
use Rattle.std.proofs.lemmas.Result.{IfOk-weaker}
use Rattle.prop_data.specs.Database.{tables_of}
use Rattle.uset_variables.specs.Variables.{no_variables}
use Rattle.uset_reader.specs.Syntaxes.{language_of}
use Rattle.uset_tool.specs.declared.answer.Answer.{Answer}
use Rattle.uset_tool.specs.Answer.{IsFaultAnswer}
use Rattle.uset_tool.specs.Generated.{pattern_of, SizesAnswer, IsSizesAnswer}
use Rattle.uset_tool.proofs.AnswerLemmas.{measured_answer, unmeasured_answer}
use Rattle.uset_tool.proofs.generator.answer_generated.Goals as goal

pub returns-in-Ok : goal.returns-in-Ok
returns-in-Ok c =
    let l = language_of no_variables (tables_of c.args.database.now) in
    let source = c.deref.result.now in
    let same = c.deref.ensures ∙ c.in_ok-source.ensures in
    IfOk-weaker c.answer_sizes.result (IsSizesAnswer c.in-Ok.length c.code_points.result.now)
    (λ (a : Answer). SizesAnswer l (pattern_of c.args.number.value) (string_bytes a.text) a.is_err)
    (λ a h. subst (λ (s : List ℕ). SizesAnswer l s (string_bytes a.text) a.is_err) same
    (measured_answer l source c.in-Ok.length c.in-Ok.set a c.in-Ok.ensures.read
    (subst (λ (s : List ℕ). IsSizesAnswer c.in-Ok.length s a) c.code_points.ensures h)))
    c.answer_sizes.ensures

pub returns : goal.returns
returns c =
    let l = language_of no_variables (tables_of c.args.database.now) in
    let same = c.deref.ensures ∙ c.in_ok-source.ensures in
    let again = c.deref-in-Err.ensures ∙ sym c.deref.ensures in
    IfOk-weaker c.answer_fault.result (IsFaultAnswer c.in-Err.error c.deref-in-Err.result.now)
    (λ (a : Answer). SizesAnswer l (pattern_of c.args.number.value) (string_bytes a.text) a.is_err)
    (λ a h. subst (λ (s : List ℕ). SizesAnswer l s (string_bytes a.text) a.is_err) same
    (unmeasured_answer l c.deref.result.now c.in-Err.error a c.in-Err.ensures.refused
    (subst (λ (s : List ℕ). IsFaultAnswer c.in-Err.error s a) again h)))
    c.answer_fault.ensures
