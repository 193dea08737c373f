use Rattle.uset_grammar.proofs.PropertyOutcome.{one_property_law}
use Rattle.uset_grammar.proofs.laws.one_property.Goals as goal

pub returns : goal.returns
returns c = one_property_law
