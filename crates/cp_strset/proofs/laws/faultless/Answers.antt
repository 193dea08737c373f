use Rattle.cp_strset.proofs.Canonical.{AreCanonical-faultless, faultless-AreCanonical}
use Rattle.cp_strset.proofs.laws.faultless.Goals as goal

pub returns : goal.returns
returns c = λ strings. (AreCanonical-faultless strings, faultless-AreCanonical strings)
