use Rattle.std.proofs.Common.{refl}
use Rattle.std.specs.String.{string_bytes}
use Rattle.uset_steps.proofs.PlacesLemmas.{adds_variable, adds_property}
use Rattle.uset_steps.proofs.places.Places.add.Goals as goal

pub returns-in_ok-insert-in-Variable : goal.returns-in_ok-insert-in-Variable
returns-in_ok-insert-in-Variable c = rw c.in-Variable.is (adds_variable (string_bytes c.in-Variable.name) c.args.place c.args.self.now _ c.in_ok-insert-in-Variable.ensures.updates refl)

pub returns-in_ok-insert-in-Property : goal.returns-in_ok-insert-in-Property
returns-in_ok-insert-in-Property c = rw c.in-Property.is (adds_property c.in-Property.query c.args.place c.args.self.now _ c.in_ok-insert-in-Property.ensures.updates refl)
