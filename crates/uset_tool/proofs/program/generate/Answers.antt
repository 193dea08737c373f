use Rattle.prop_data.specs.Database.{tables_of}
use Rattle.uset_tool.proofs.GeneratedLemmas.{sizes_write, sizes_status, generate_error_writes}
use Rattle.uset_tool.proofs.program.generate.Goals as goal

pub returns-in-Ok-clause-written : goal.returns-in-Ok-clause-written
returns-in-Ok-clause-written g c =
    sizes_write c.allowed_sets.ensures c.one_answer.ensures c.one_list_of_ranges.ensures c.args.number.value c.args.input.now _ _ _ _ c.in-Ok.ensures.whole c.in-Ok.ensures.tables c.say_sizes.ensures.says

pub returns-in-Err-clause-written : goal.returns-in-Err-clause-written
returns-in-Err-clause-written g c = generate_error_writes c.args.number.value c.args.input.now c.in-Err.error _ _ _ c.in-Err.ensures.fault c.say_load_error.ensures.says

pub returns-in-Ok-clause-status : goal.returns-in-Ok-clause-status
returns-in-Ok-clause-status g c = sizes_status (tables_of c.in-Ok.database) c.args.number.value _ _ _ c.say_sizes.ensures.says
