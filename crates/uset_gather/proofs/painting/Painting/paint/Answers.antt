use Rattle.std.proofs.Common.{◌≡◌, ◌||◌, ℕ, false, ap, ◌∙◌}
use Rattle.std.proofs.lemmas.Result.{on_ok_weaker}
use Rattle.cp_invlist.specs.InversionList.{contains}
use Rattle.uset_gather.specs.Painting.{painted, behind_all, in_painting}
use Rattle.uset_gather.proofs.PaintingLemmas.{painting_outside, painting_inside}
use Rattle.uset_gather.proofs.painting.Painting.paint.Goals as goal

pub returns-then-complemented : goal.returns-then-complemented
returns-then-complemented c =
    let flat : (d : ℕ) → contains c.build-set.result d ≡ painted c.args.other.ranges.items d (behind_all c.args.other.layers.items d false) =
    λ d. ap (λ xs. contains xs d) c.build-set.ensures.list ∙ c.in_ok-flattened.ensures d in
    on_ok_weaker c.add_outside.result (λ h d.
    h d ∙ ap (λ b. in_painting c.args.self.now d || b) (painting_outside c.args.other c.build-set.result d c.if-complemented.true (flat d))) c.add_outside.ensures

pub returns : goal.returns
returns c =
    let flat : (d : ℕ) → contains c.build-set.result d ≡ painted c.args.other.ranges.items d (behind_all c.args.other.layers.items d false) =
    λ d. ap (λ xs. contains xs d) c.build-set.ensures.list ∙ c.in_ok-flattened.ensures d in
    on_ok_weaker c.add_set.result (λ h d.
    h d ∙ ap (λ b. in_painting c.args.self.now d || b)
    (painting_inside c.args.other c.build-set.result d c.if-complemented.false (flat d) (c.members_are_code_points.ensures c.build-set.result d c.build-set.ensures.canonical)))
    c.add_set.ensures
