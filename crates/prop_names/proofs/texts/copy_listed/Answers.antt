use Rattle.prop_names.proofs.CopyLemmas.{same_bytes}
use Rattle.prop_names.proofs.texts.copy_listed.Goals as goal

pub returns : goal.returns
returns c = same_bytes c.args.names.now c.in_ok-from_clones.field-0.items c.in_ok-from_clones.ensures.items
