use Rattle.uset_tool.proofs.RunLemmas.{counts_write, counts_status, count_error_writes}
use Rattle.uset_tool.proofs.program.count_tables.Goals as goal

pub returns-in-Ok-clause-written : goal.returns-in-Ok-clause-written
returns-in-Ok-clause-written g c = counts_write c.args.input.now _ _ _ _ c.in-Ok.ensures.whole c.in-Ok.ensures.tables c.say_counts.ensures.says

pub returns-in-Err-clause-written : goal.returns-in-Err-clause-written
returns-in-Err-clause-written g c = count_error_writes c.args.input.now c.in-Err.error _ _ _ c.in-Err.ensures.fault c.say_load_error.ensures.says

pub returns-in-Ok-clause-status : goal.returns-in-Ok-clause-status
returns-in-Ok-clause-status g c = counts_status _ _ _ _ c.say_counts.ensures.says
