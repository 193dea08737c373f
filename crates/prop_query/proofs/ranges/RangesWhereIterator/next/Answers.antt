use Rattle.prop_query.proofs.PassingLemmas.{yields-goes, yields-same}
use Rattle.prop_query.proofs.ranges.RangesWhereIterator.next.Goals as goal

pub returns-clause-steps : goal.returns-clause-steps
returns-clause-steps g c = yields-same _ _ _ _ _ _ c.self.view_is c.next_range.ensures.same c.next_range.ensures.yields

pub returns-clause-goes : goal.returns-clause-goes
returns-clause-goes g c = yields-goes _ _ _ (returns-clause-steps g c)
