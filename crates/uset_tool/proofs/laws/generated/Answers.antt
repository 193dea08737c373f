use Rattle.uset_tool.proofs.GeneratedPatterns.{generated_law}
use Rattle.uset_tool.proofs.laws.generated.Goals as goal

pub returns : goal.returns
returns c = generated_law c.brackets.ensures.tables
