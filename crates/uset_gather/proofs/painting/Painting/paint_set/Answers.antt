use Rattle.std.proofs.Common.{◌||◌, [], ◌∷◌, ◌++◌, refl, sym, ap, ◌∙◌, subst, append_assoc}
use Rattle.std.proofs.lemmas.List.{append-nil}
use Rattle.cp_invlist.specs.InversionList.{contains}
use Rattle.cp_invlist.specs.Ranges.{AreMaximalRanges}
use Rattle.uset_gather.specs.Painting.{in_painting}
use Rattle.uset_gather.proofs.PaintingLemmas.{painting_same}
use Rattle.uset_gather.proofs.RangesLemmas.{set_spelled, joined_more}
use Rattle.uset_gather.proofs.painting.Painting.paint_set.Goals as goal
use Rattle.std.proofs.Math.Bool.{or-false}

pub loop-range-init : goal.loop-range-init
loop-range-init c = (
  rw c.into_iter-range-iterator.ensures.into_iter_gives c.iter_ranges-range-items.ensures.maximal,
  λ d. painting_same c.args.self.now _ refl refl c.in_ok-reserve.ensures.items d ∙ sym (or-false (in_painting c.args.self.now d)),
)

pub loop-range-preserved : goal.loop-range-preserved
loop-range-preserved c =
    let given = c.loop-range.yielded in
    let parts = ap (λ rs. given ++ rs) c.in-Some.ensures.steps ∙ sym (append_assoc given (c.in-Some.range ∷ []) c.next.new.self) in (
      subst (AreMaximalRanges (contains c.args.set.now)) parts c.loop-range.invariant.0,
      λ d. joined_more _ _ _ given c.in-Some.range d (c.loop-range.invariant.1 d) (c.in_ok-add_range.ensures.ok d),
    )

pub returns : goal.returns
returns c =
    let given = c.loop-range.yielded in
    let all = subst (AreMaximalRanges (contains c.args.set.now)) (ap (λ rs. given ++ rs) c.in-None.ensures.steps.0 ∙ append-nil given) c.loop-range.invariant.0 in
    λ d. c.loop-range.invariant.1 d
    ∙ ap (λ b. in_painting c.args.self.now d || b)
    (set_spelled c.args.set.now given d (c.ranges_hold_members.ensures _ given all d) (c.iter_ranges-range-items.ensures.code_points d))
