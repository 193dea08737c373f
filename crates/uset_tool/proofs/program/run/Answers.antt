use Rattle.uset_tool.proofs.CountLemmas.{read_rose, write_rose}
use Rattle.uset_tool.proofs.Complete.{written_run, status_run, settled_run, complete_run}
use Rattle.uset_tool.proofs.GeneratedLemmas.{lacking_run}
use Rattle.uset_tool.proofs.program.run.Goals as goal

pub returns-clause-written : goal.returns-clause-written
returns-clause-written g c = written_run _ _ _ _ _ c.answer_words.ensures.written

pub returns-clause-status : goal.returns-clause-status
returns-clause-status g c = status_run _ _ _ _ _ c.answer_words.ensures.written

pub returns-clause-settled : goal.returns-clause-settled
returns-clause-settled g c =
    let told = c.answer_words.ensures in
    settled_run c.one_answer.ensures _ _ _ _ _ _ _ _ _ (read_rose _ _ _ told.reads_counted) (write_rose _ _ _ told.writes_counted) told.written

pub returns-clause-complete : goal.returns-clause-complete
returns-clause-complete g c =
    let told = c.answer_words.ensures in
    complete_run _ _ _ _ _ _ _ _ _ (read_rose _ _ _ told.reads_counted) (write_rose _ _ _ told.writes_counted) told.written

pub returns-clause-generated : goal.returns-clause-generated
returns-clause-generated g c =
    lacking_run c.generated.ensures c.allowed_sets.ensures c.one_answer-2.ensures _ _ _ _ _ c.answer_words.ensures.written

pub returns-clause-read_fault : goal.returns-clause-read_fault
returns-clause-read_fault g c = read_rose _ _ _ c.answer_words.ensures.reads_counted

pub returns-clause-write_fault : goal.returns-clause-write_fault
returns-clause-write_fault g c = write_rose _ _ _ c.answer_words.ensures.writes_counted
