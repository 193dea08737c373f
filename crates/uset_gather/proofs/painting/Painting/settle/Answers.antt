use Rattle.std.proofs.Common.{◌≡◌, ℕ, Bool, [], refl, ap, ◌∙◌}
use Rattle.std.specs.Global.{Global}
use Rattle.std.specs.declared.vec.Vec.{Vec}
use Rattle.std.proofs.lemmas.Result.{on_ok_weaker}
use Rattle.uset_gather.specs.declared.painting.PaintedRange.{PaintedRange}
use Rattle.uset_gather.specs.Painting.{painted, behind}
use Rattle.uset_gather.proofs.PaintingLemmas.{painting_settled}
use Rattle.uset_gather.proofs.painting.Painting.settle.Goals as goal

pub returns : goal.returns
returns c =
    let none : c.replace-ranges.new.dest.items ≡ [] = ap (λ (v : Vec PaintedRange Global). v.items) c.replace-ranges.ensures.after ∙ c.new.ensures.items in
    let is : (d : ℕ) (b : Bool) → behind c.in_ok-layer.layer d b ≡ painted c.args.self.now.ranges.items d b =
    λ d b. c.in_ok-layer.ensures d b ∙ ap (λ (v : Vec PaintedRange Global). painted v.items d b) c.replace-ranges.ensures.value in
    record {
      same = on_ok_weaker c.push.result (λ put. painting_settled c.args.self.now _ c.in_ok-layer.layer refl none put is) c.push.ensures;
      settled = on_ok_weaker c.push.result (λ put. none) c.push.ensures;
    }
