use Rattle.uset_tool.specs.Run.{said, failed, refused}
use Rattle.uset_tool.proofs.program.say.Goals as goal

pub returns-in-Ok-clause-says : goal.returns-in-Ok-clause-says
returns-in-Ok-clause-says g c = said (rw c.as_bytes.ensures.value at c.in-Ok.ensures.written)

pub returns-in-Err-Failed-clause-says : goal.returns-in-Err-Failed-clause-says
returns-in-Err-Failed-clause-says g c = failed (rw c.as_bytes.ensures.value at c.in-Err-Failed.ensures.written)

pub returns-in-Err-NoMemory-clause-says : goal.returns-in-Err-NoMemory-clause-says
returns-in-Err-NoMemory-clause-says g c = refused (rw c.as_bytes.ensures.value at c.in-Err-NoMemory.ensures.written)
