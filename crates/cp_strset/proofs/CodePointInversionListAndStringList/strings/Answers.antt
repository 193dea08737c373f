use Rattle.std.proofs.Common.{subst}
use Rattle.cp_strset.specs.StringList.{AreCanonical}
use Rattle.cp_strset.specs.StringSet.{StringSet}
use Rattle.cp_strset.proofs.Canonical.{AreCanonical-faultless}
use Rattle.cp_strset.proofs.CodePointInversionListAndStringList.strings.Goals as goal

pub returns-clause-canonical : goal.returns-clause-canonical
returns-clause-canonical c =
    subst (λ (s : StringSet). AreCanonical s.strings) c.self.view_is (AreCanonical-faultless _ c.self.invariant)
