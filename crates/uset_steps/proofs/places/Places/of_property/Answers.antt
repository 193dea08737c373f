use Rattle.std.proofs.Common.{◌∙◌}
use Rattle.uset_steps.proofs.PlacesLemmas.{found_place, found_none}
use Rattle.uset_steps.proofs.places.Places.of_property.Goals as goal

pub returns-clause-found : goal.returns-clause-found
returns-clause-found c = found_place c.args.self.now c.args.query.now c.copied.result (c.copied.ensures ∙ c.get.ensures.value)

pub returns-clause-absent : goal.returns-clause-absent
returns-clause-absent c = found_none c.args.self.now c.args.query.now c.copied.result (c.copied.ensures ∙ c.get.ensures.value)
