use Rattle.cp_strset.proofs.Canonical.{faultless-AreCanonical}
use Rattle.cp_strset.proofs.strings.Strings.into_set.Goals as goal

pub invariant_of-result : goal.invariant_of-result
invariant_of-result c = faultless-AreCanonical _ c.in_ok-strings.ensures.canonical
