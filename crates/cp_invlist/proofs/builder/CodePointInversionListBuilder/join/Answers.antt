use Rattle.std.proofs.Common.{◌≡◌, ℕ, arith, subst, List, OnOk, ◌||◌, refl}
use Rattle.cp_invlist.specs.InversionList.{contains}
use Rattle.cp_invlist.specs.Ranges.{in_code_points}
use Rattle.cp_invlist.specs.CutLaws.{cuts_ordered}
use Rattle.cp_invlist.proofs.AddRange.{Added, Added-on_ok, Added-list, Added-members}
use Rattle.cp_invlist.proofs.builder.CodePointInversionListBuilder.join.Goals as goal

pub replace-requires-clause-ordered : goal.replace-requires-clause-ordered
replace-requires-clause-ordered c =
    let before = rw c.deref.ensures.value at c.cut_before-low.ensures.cut in
    let after = rw c.deref-2.ensures.value at c.cut_after-high.ensures.cut in
    cuts_ordered c.self.inside.elements.items c.args.range.start _ _ _ (rw c.deref.ensures.value at c.cut_before-low.ensures.bound)
    (omega arith) before after

-- what the list holds after the elements were put in place
added : (c : goal.After-replace) → OnOk c.replace.result (Added c.self.inside.elements.items c.replace.new.elements.items c.args.range)
added c =
    let before = rw c.deref.ensures.value at c.cut_before-low.ensures.cut in
    let after = rw c.deref-2.ensures.value at c.cut_after-high.ensures.cut in
    Added-on_ok c.self.inside.elements.items c.replace.new.elements.items _ c.args.range c.replace.result _ _ _ c.self.invariant
    (omega arith) (omega arith) (omega arith) before after (rw c.deref.ensures.value at c.cut_before-low.ensures.bound)
    (rw c.deref-2.ensures.value at c.cut_after-high.ensures.bound) refl c.replace.ensures.ok

pub invariant_of-self : goal.invariant_of-self
invariant_of-self c = Added-list c.self.inside.elements.items c.replace.new.elements.items c.args.range c.replace.result c.self.invariant (added c) c.replace.ensures.err

pub returns-clause-ok : goal.returns-clause-ok
returns-clause-ok c =
    subst (λ (ys : List ℕ). OnOk c.replace.result ((d : ℕ) → contains c.replace.new.elements.items d ≡ (contains ys d || in_code_points c.args.range d)))
    c.self.view_is (Added-members c.self.inside.elements.items c.replace.new.elements.items c.args.range c.replace.result (added c))
