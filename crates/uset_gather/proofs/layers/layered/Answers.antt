use Rattle.std.proofs.Common.{reverse, ap, sym, ◌∙◌}
use Rattle.std.proofs.lemmas.Result.{IfOk-weaker}
use Rattle.uset_gather.specs.Painting.{painted, painted_alike, behind_all}
use Rattle.uset_gather.proofs.layers.layered.Goals as goal

pub returns : goal.returns
returns c =
    IfOk-weaker c.merged.result _ _ (λ layer h d b.
    h d b
    ∙ (c.in_ok-layer_of-2.ensures d _
    ∙ (ap (λ ps. painted (reverse ps) d (painted_alike c.to_come.run c.to_come.member d (behind_all c.to_come.layers.items d b))) (sym c.in_default.ensures.ended)
    ∙ c.to_come.invariant d b)))
    c.merged.ensures
