use Rattle.uset_grammar.proofs.EscapeByParts.{escapes_by_parts}
use Rattle.uset_grammar.proofs.StringByParts.{strings_by_parts}
use Rattle.uset_grammar.proofs.PropertyByParts.{properties_by_parts}
use Rattle.uset_grammar.proofs.laws.units_by_parts.Goals as goal

pub returns-clause-escapes : goal.returns-clause-escapes
returns-clause-escapes c = escapes_by_parts

pub returns-clause-strings : goal.returns-clause-strings
returns-clause-strings c = strings_by_parts

pub returns-clause-properties : goal.returns-clause-properties
returns-clause-properties c = properties_by_parts
