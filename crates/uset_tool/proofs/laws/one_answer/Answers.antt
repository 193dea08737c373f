use Rattle.uset_tool.proofs.Complete.{one_answer_law}
use Rattle.uset_tool.proofs.laws.one_answer.Goals as goal

pub returns : goal.returns
returns c = one_answer_law (record {
  one_answer = c.one_answer.ensures;
  allowed_sets = c.allowed_sets.ensures;
  brackets_are_ascii = c.brackets.ensures.ascii;
  bounded_sets = c.bounded_sets.ensures;
  bounded_sources = c.bounded_sources.ensures;
  finite_sets = c.finite_sets.ensures.members;
  rests_are_last = c.finite_sets.ensures.front;
  one_list_of_ranges = c.one_list_of_ranges.ensures;
  one_list = c.one_list.ensures;
})
