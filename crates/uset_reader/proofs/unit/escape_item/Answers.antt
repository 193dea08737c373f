use Rattle.uset_reader.proofs.UnitLemmas.{single_item, one_item, none_left, several_item}
use Rattle.uset_reader.proofs.unit.escape_item.Goals as goal

pub returns-then-is_empty-clause-item : goal.returns-then-is_empty-clause-item
returns-then-is_empty-clause-item c = λ l g. rw c.in-Numbers.is (one_item l g c.from_number.result c.in-Numbers.first c.in-Numbers.more.items c.from_number.ensures (none_left c.in-Numbers.more.items c.as_slice.result.now c.is_empty.result c.as_slice.ensures.value c.is_empty.ensures c.if-is_empty.true))

pub returns-in-Itself-clause-item : goal.returns-in-Itself-clause-item
returns-in-Itself-clause-item c = λ l g. rw c.in-Itself.is (single_item l g c.from_char.result c.in-Itself.c c.from_char.ensures)

pub returns-else-is_empty-clause-item : goal.returns-else-is_empty-clause-item
returns-else-is_empty-clause-item c = λ l g. rw c.in-Numbers.is (several_item l g _)

pub returns-else-is_empty-clause-proper : goal.returns-else-is_empty-clause-proper
returns-else-is_empty-clause-proper c = rw c.in-Numbers.is at c.requires
