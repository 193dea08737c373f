use Rattle.std.proofs.lemmas.Nat.{or_lt}
use Rattle.prop_values.proofs.BitLemmas.{bit_of_or}
use Rattle.prop_values.specs.Category.{number_of}
use Rattle.prop_values.proofs.group.GeneralCategoryGroup.union.Goals as goal

pub returns : goal.returns
returns c category = rw (← c.self.view_is, ← c.other.view_is) (bit_of_or c.self.inside.0 c.other.inside.0 (number_of category))

pub invariant_of-result : goal.invariant_of-result
invariant_of-result c = or_lt 30 c.self.inside.0 c.other.inside.0 c.self.invariant c.other.invariant
