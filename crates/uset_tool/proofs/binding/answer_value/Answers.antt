use Rattle.std.proofs.Common.{◌∙◌}
use Rattle.uset_tool.proofs.BindingLemmas.{same_variables}
use Rattle.uset_tool.proofs.binding.answer_value.Goals as goal

pub returns : goal.returns
returns c = record {
  text = c.in_ok-answer.ensures.text;
  err = c.in_ok-answer.ensures.err;
  bound = same_variables c.bind.new.variables c.number_strings.new.self c.number_strings.ensures.same ∙ c.in_ok-bind.ensures;
}
