use Rattle.uset_parse.proofs.DatabasePatterns.{inverse_law}
use Rattle.uset_parse.proofs.PatternRead.{escapes_are_read}
use Rattle.uset_parse.proofs.laws.inverse.Goals as goal

pub returns-clause-escapes : goal.returns-clause-escapes
returns-clause-escapes c = escapes_are_read

pub returns-clause-sets : goal.returns-clause-sets
returns-clause-sets c = inverse_law c.members_are_code_points.ensures c.ranges_hold_members.ensures
