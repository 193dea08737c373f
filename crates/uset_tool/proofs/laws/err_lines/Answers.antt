use Rattle.uset_tool.proofs.ErrLines.{err_lines_law}
use Rattle.uset_tool.proofs.laws.err_lines.Goals as goal

pub returns : goal.returns
returns c = err_lines_law
