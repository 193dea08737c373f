use Rattle.prop_values.proofs.BitLemmas.{bit_of_and}
use Rattle.prop_values.specs.Category.{number_of}
use Rattle.prop_values.proofs.group.GeneralCategoryGroup.intersection.Goals as goal

pub returns : goal.returns
returns c category = rw (← c.self.view_is, ← c.other.view_is) (bit_of_and c.self.inside.0 c.other.inside.0 (number_of category))
