use Rattle.std.proofs.Common.{ap}
use Rattle.std.proofs.lemmas.Bool.Decides.{Decides-eqb}
use Rattle.std.proofs.lemmas.Slice.Eq.{slice_eq-Decides}
use Rattle.cp_invlist.specs.InversionList.{contains}
use Rattle.cp_invlist.proofs.RangesLemmas.{same_members-same_lists}
use Rattle.cp_invlist.proofs.set.CodePointInversionListPartialEq.eq.Goals as goal

pub returns-clause-members : goal.returns-clause-members
returns-clause-members c =
    let xs = c.self.inside.elements.items in
    let ys = c.other.inside.elements.items in
    let decides = slice_eq-Decides Decides-eqb xs ys c.eq.result c.eq.ensures in
    rw (← c.self.view_is, ← c.other.view_is) (
      λ t d. ap (λ l. contains l d) (decides.0 t),
      λ same. decides.1 (same_members-same_lists xs ys c.self.invariant.list c.other.invariant.list same),
    )
