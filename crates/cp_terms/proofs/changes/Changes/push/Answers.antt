use Rattle.std.proofs.Common.{◌≡◌, true, List, ℕ, sym, subst}
use Rattle.cp_invlist.specs.InversionList.{ascends_from}
use Rattle.cp_terms.specs.Changes.{AreBefore}
use Rattle.cp_terms.proofs.ChangesLemmas.{ascends_push}
use Rattle.cp_terms.proofs.changes.Changes.push.Goals as goal

pub invariant_of-self-2 : goal.invariant_of-self-2
invariant_of-self-2 c =
    subst (λ (xs : List ℕ). ascends_from 0 xs ≡ true) (sym c.in_ok-push.ensures.items)
    (ascends_push c.args.place c.self.inside.elements.items c.requires.place (subst (AreBefore c.args.place) (sym c.self.view_is) c.requires.before) c.self.invariant)
