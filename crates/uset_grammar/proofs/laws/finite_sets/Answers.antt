use Rattle.uset_grammar.proofs.Finiteness.{finite_sets_law, rests_are_last}
use Rattle.uset_grammar.proofs.laws.finite_sets.Goals as goal

pub returns-clause-members : goal.returns-clause-members
returns-clause-members c = finite_sets_law

pub returns-clause-front : goal.returns-clause-front
returns-clause-front c = rests_are_last
