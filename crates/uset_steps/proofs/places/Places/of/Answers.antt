use Rattle.uset_steps.proofs.places.Places.of.Goals as goal

pub returns-in-Property-clause-absent : goal.returns-in-Property-clause-absent
returns-in-Property-clause-absent c = rw c.in-Property.is c.of_property.ensures.absent
