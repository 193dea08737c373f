use Rattle.prop_data.proofs.AboveLemmas.{extensions_told}
use Rattle.prop_data.proofs.database.PropertyDatabase.insert_scripts.Goals as goal

pub returns : goal.returns
returns c = extensions_told _ _ c.take_lists-lists.ensures
