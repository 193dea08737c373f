use Rattle.prop_data.proofs.ScriptLemmas.{same_lists}
use Rattle.prop_data.proofs.scripts.copy_lists.Goals as goal

pub returns : goal.returns
returns c = same_lists c.args.lists.now.entries c.in_ok-clone.field-0.entries c.in_ok-clone.ensures.cases
