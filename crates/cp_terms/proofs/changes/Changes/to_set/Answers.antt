use Rattle.std.proofs.Common.{◌≡◌, true, List, ℕ, Err, sym, ap, ◌∙◌, subst}
use Rattle.cp_invlist.specs.InversionList.{has_even_length}
use Rattle.cp_invlist.specs.Fault.{IsFaultAt}
use Rattle.cp_invlist.specs.ListLaws.{IsInversionList-from}
use Rattle.cp_terms.proofs.changes.Changes.to_set.Goals as goal

pub unreachable-requires : goal.unreachable-requires
unreachable-requires c =
    let xs = c.self.inside.elements.items in
    let even : has_even_length xs ≡ true = subst (λ (l : List ℕ). has_even_length l ≡ true) (sym c.self.view_is) c.requires in
    let none = (c.faultless.ensures xs).1 (IsInversionList-from xs c.self.invariant even) in
    let refused : IsFaultAt c.deref.result.now c.in-Err-Invalid.field-0-0 = (c.try_from_inversion_list.ensures.invalid c.in-Err-Invalid.field-0-0).0 (c.in-Err-Invalid.is ∙ ap Err c.in-Err-Invalid.field-0-is) in
    let some = subst (λ (l : List ℕ). IsFaultAt l c.in-Err-Invalid.field-0-0) c.deref.ensures.value refused in
    cc
