use Rattle.uset_parse.proofs.BracketsRead.{brackets_are_ascii, brackets_are_read, brackets_are_read_under}
use Rattle.uset_parse.proofs.laws.brackets.Goals as goal

pub returns-clause-ascii : goal.returns-clause-ascii
returns-clause-ascii c = brackets_are_ascii

pub returns-clause-escapes : goal.returns-clause-escapes
returns-clause-escapes c = brackets_are_read

pub returns-clause-tables : goal.returns-clause-tables
returns-clause-tables c = brackets_are_read_under
