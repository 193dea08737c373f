use Rattle.std.proofs.Common.{◌≡◌, ◌+◌, ◌<◌, min, arith, All, sym, ap, ◌∙◌}
use Rattle.cp_invlist.specs.ListLaws.{IsInversionList-parts}
use Rattle.cp_invlist.specs.CutLaws.{All-above_last}
use Rattle.cp_invlist.proofs.AddRange.{Added, Added-behind, Added-touching}
use Rattle.cp_invlist.proofs.builder.CodePointInversionListBuilder.add_range32.Goals as goal
use Rattle.cp_invlist.proofs.builder.CodePointInversionListBuilder.add_range32.Goals.{in_default-via-in-Some-2+else-range-last-2, in_default-via-in_default}

-- what the list holds after its last range was made longer
touching : (c : goal.After-put_last) → Added c.self.inside.elements.items c.put_last.new.elements.items c.args.range
touching c =
    let item = rw c.deref.ensures.value at c.in-Some.ensures.item in
    Added-touching c.self.inside.elements.items c.put_last.new.elements.items c.args.range (min c.args.range.end 0x10_FFFF + 1) c.self.invariant
    (omega arith) (omega arith) (omega arith) (omega arith) (λ d. sym (item.4 (omega arith) d) ∙ sym c.if-range-last-2.true)
    (rw (sym c.deref.ensures.len, c.deref.ensures.value, c.past_end-past.ensures) at c.put_last.ensures)

pub invariant_of-self : goal.invariant_of-self
invariant_of-self c = (touching c).list

pub returns-in-Some-2-clause-ok : goal.returns-in-Some-2-clause-ok
returns-in-Some-2-clause-ok c = rw c.self.view_is at (touching c).members

-- all elements are below the range where it is put behind them
below : (c : goal.In_ok-push_both-in_default) → All (λ x. x < c.args.range.start) c.self.inside.elements.items
below c = elim c.in_default.branch [
  | in_default-via-in-Some-2+else-range-last-2 w ↦
      let item = rw c.deref.ensures.value at w.in-Some.ensures.item in
      All-above_last 0 c.args.range.start c.self.inside.elements.items (IsInversionList-parts c.self.inside.elements.items c.self.invariant).0
      (λ some d. omega (arith, item.4 (omega arith) d, w.if-range-last.false, w.if-range-last-2.false))
  | in_default-via-in_default w ↦ let item = rw c.deref.ensures.value at w.in_default.ensures.item in λ k d lt. omega arith
]

same : (c : goal.In_ok-push_both-in_default) → c.in_default.self-inside.elements.items ≡ c.self.inside.elements.items
same c = elim c.in_default.branch [
  | in_default-via-in-Some-2+else-range-last-2 w ↦ ap (λ inside. inside.elements.items) w.self-inside-is
  | in_default-via-in_default w ↦ ap (λ inside. inside.elements.items) w.self-inside-is
]

-- what the list holds after both ends were put behind it
behind : (c : goal.In_ok-push_both-in_default) → Added c.self.inside.elements.items c.push_both.new.elements.items c.args.range
behind c = Added-behind c.self.inside.elements.items c.push_both.new.elements.items c.args.range (min c.args.range.end 0x10_FFFF + 1) c.self.invariant
    (omega arith) (omega arith) (omega arith) (below c)
    (rw (same c, c.past_end-past.ensures) at c.in_ok-push_both-in_default.ensures.ok)

pub invariant_of-self-in-Continue-branch-2 : goal.invariant_of-self-in-Continue-branch-2
invariant_of-self-in-Continue-branch-2 c = (behind c).list

pub returns-in_ok-push_both-in_default-clause-ok : goal.returns-in_ok-push_both-in_default-clause-ok
returns-in_ok-push_both-in_default-clause-ok c = rw c.self.view_is at (behind c).members
