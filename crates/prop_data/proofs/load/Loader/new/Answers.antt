use Rattle.std.proofs.Common.{refl}
use Rattle.prop_data.proofs.AboveLemmas.{same_above}
use Rattle.prop_data.proofs.load.Loader.new.Goals as goal

pub returns : goal.returns
returns c = same_above _ _ refl refl refl c.new.ensures
