use Rattle.std.proofs.Common.{◌≡◌, ℕ, ◌≤◌, List, sum_by, sym, ◌∙◌, ap, arith, subst}
use Rattle.std.proofs.lemmas.List.Sums.{sum_by-cons}
use Rattle.std.proofs.lemmas.List.Elements.{All-tail}
use Rattle.cp_invlist.specs.InversionList.{contains}
use Rattle.cp_invlist.specs.Ranges.{AreMaximalRanges, ranges_of}
use Rattle.cp_invlist.specs.Size.{count_members, range_size}
use Rattle.cp_invlist.specs.declared.ranges.CodePointRange.{CodePointRange}
use Rattle.cp_invlist.specs.ListLaws.{IsInversionList-parts}
use Rattle.cp_invlist.proofs.RangesLemmas.{AreMaximalRanges-ranges_of, AreRangesFrom-unique}
use Rattle.cp_invlist.proofs.SizeLemmas.{sum_by-ranges_of, sum_by-ranges_of-bound, ranges_of-ordered}
use Rattle.cp_invlist.proofs.set.CodePointInversionList.size.Goals as goal

pub loop-range-init : goal.loop-range-init
loop-range-init c =
    let xs = c.self.inside.elements.items in
    let e : c.into_iter-range-iterator.result ≡ ranges_of xs =
    c.into_iter-range-iterator.ensures.into_iter_gives ∙ c.new-range-items.ensures ∙ ap ranges_of c.deref.ensures.value in
    record {
      can_next = tt;
      is_finite = tt;
      ordered = rw e (ranges_of-ordered 0 xs (IsInversionList-parts xs c.self.invariant.list).0);
      counted = omega arith;
      bound = rw e (sum_by-ranges_of-bound xs c.self.invariant.list);
    }

pub loop-range-preserved : goal.loop-range-preserved
loop-range-preserved c =
    let step = c.in-Some.ensures.steps in
    record {
      can_next = tt;
      is_finite = tt;
      ordered = All-tail (λ (r : CodePointRange). r.start ≤ r.end) c.in-Some.range c.next.new.self (rw step at c.loop-range.invariant.ordered);
      counted = omega (arith, ap (sum_by range_size) step ∙ sum_by-cons range_size c.in-Some.range c.next.new.self);
      bound = c.loop-range.invariant.bound;
    }

-- at the end all sizes are counted
whole : (c : goal.In-None) → c.loop-range.size ≡ sum_by range_size (ranges_of c.self.inside.elements.items)
whole c =
    let e = c.into_iter-range-iterator.ensures.into_iter_gives ∙ c.new-range-items.ensures ∙ ap ranges_of c.deref.ensures.value in
    omega (arith, c.loop-range.invariant.counted, ap (sum_by range_size) c.in-None.ensures.steps.0, ap (sum_by range_size) e)

pub returns-clause-counted : goal.returns-clause-counted
returns-clause-counted c =
    let xs = c.self.inside.elements.items in
    whole c ∙ sum_by-ranges_of xs 0x11_0000 (omega arith) c.self.invariant.list ∙ ap (λ l. count_members (contains l) 0x11_0000) c.self.view_is

pub returns-clause-summed : goal.returns-clause-summed
returns-clause-summed c = λ rs h.
    let xs = c.self.inside.elements.items in
    let of_list : AreMaximalRanges (contains xs) rs = subst (λ (l : List ℕ). AreMaximalRanges (contains l) rs) (sym c.self.view_is) h in
    whole c ∙ ap (sum_by range_size) (AreRangesFrom-unique (contains xs) 0 _ rs (AreMaximalRanges-ranges_of xs c.self.invariant.list) of_list)
