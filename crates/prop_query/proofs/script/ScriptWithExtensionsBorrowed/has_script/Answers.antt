use Rattle.prop_query.proofs.script.ScriptWithExtensionsBorrowed.has_script.Goals as goal

pub returns-clause-value : goal.returns-clause-value
returns-clause-value c = rw c.from.ensures at c.has_script32.ensures.value

pub returns-clause-member : goal.returns-clause-member
returns-clause-member c = rw c.from.ensures at c.has_script32.ensures.member
