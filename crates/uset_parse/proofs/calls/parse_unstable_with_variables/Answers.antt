use Rattle.uset_parse.proofs.calls.parse_unstable_with_variables.Goals as goal

pub returns-clause-read : goal.returns-clause-read
returns-clause-read c = rw c.new.ensures at c.parse_with_resolver.ensures.read

pub returns-clause-refused : goal.returns-clause-refused
returns-clause-refused c = rw c.new.ensures at c.parse_with_resolver.ensures.refused
