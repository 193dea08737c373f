use Rattle.std.proofs.Common.{arith}
use Rattle.uset_tool.specs.Run.{refused}
use Rattle.uset_tool.proofs.RunLemmas.{nothing_yet}
use Rattle.uset_tool.proofs.program.say_fault.Goals as goal

pub returns-in-Err-clause-says : goal.returns-in-Err-clause-says
returns-in-Err-clause-says g c = refused (nothing_yet _ _ (omega arith))
