use Rattle.std.proofs.Common.{◌≡◌, ℕ, Bool, ◌||◌, List, ◌+◌, ◌<◌, length, get_or, refl, sym, ap, ◌∙◌, take}
use Rattle.std.proofs.Math.Bool.{or-false, or_assoc}
use Rattle.std.proofs.lemmas.List.Folds.{list_any_more}
use Rattle.cp_invlist.specs.Ranges.{in_code_points}
use Rattle.uset_gather.specs.Painting.{covered, in_painting}
use Rattle.uset_gather.specs.declared.painting.PaintedRange.{PaintedRange}
use Rattle.uset_gather.proofs.PaintingLemmas.{painting_same}
use Rattle.uset_gather.proofs.painting.Painting.paint_ranges.Goals as goal

-- what one range more covers
covered_more : (ranges : List PaintedRange) (i c : ℕ) (d : PaintedRange) (old so_far new : Bool) → i < length ranges → new ≡ (so_far || in_code_points (get_or ranges i d).range c) →
    so_far ≡ (old || covered (take i ranges) c) → new ≡ (old || covered (take (i + 1) ranges) c)
covered_more ranges i c d old so_far new inside is was =
    let at = in_code_points (get_or ranges i d).range c in
    is ∙ (ap (λ b. b || at) was ∙ (or_assoc old (covered (take i ranges) c) at ∙ ap (λ b. old || b) (sym (list_any_more (λ p. in_code_points p.range c) ranges i d inside))))

pub loop-painted-init : goal.loop-painted-init
loop-painted-init c = λ d. painting_same c.args.self.now _ refl refl c.in_ok-reserve.ensures.items d ∙ sym (or-false (in_painting c.args.self.now d))

pub loop-painted-preserved : goal.loop-painted-preserved
loop-painted-preserved c = λ d.
    covered_more c.args.ranges.now c.loop-painted.painted-index d _ _ _ _ c.loop-painted-test.true (c.in_ok-add_range.ensures.ok d) (c.loop-painted.invariant d)
