use Rattle.std.proofs.Common.{◌∙◌}
use Rattle.prop_values.proofs.ReadLemmas.{option_copied-item}
use Rattle.prop_values.specs.Category.{categories}
use Rattle.prop_values.proofs.category.category_at.Goals as goal

pub returns : goal.returns
returns c = c.copied.ensures ∙ option_copied-item categories c.args.number c.get.result c.get.ensures.lookup
