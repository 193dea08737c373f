use Rattle.std.proofs.Common.{◌≡◌, sym, ap, ◌∙◌}
use Rattle.std.proofs.lemmas.List.{append-nil}
use Rattle.std.specs.Global.{Global}
use Rattle.std.specs.declared.vec.Vec.{Vec}
use Rattle.uset_gather.specs.declared.layers.Layer.{Layer}
use Rattle.uset_gather.specs.Painting.{behind, behind_all}
use Rattle.uset_gather.proofs.LayersLemmas.{on_top, taken_over}
use Rattle.uset_gather.proofs.layers.push.Goals.{in-Some+then-lower-top+in_ok-push, in_default}
use Rattle.uset_gather.proofs.layers.push.Goals as goal

pub loop-lower-preserved : goal.loop-lower-preserved
loop-lower-preserved c = λ d b. taken_over _ _ _ c.loop-lower.top c.in_ok-top.top c.in-Some.ensures.items c.in_ok-top.ensures d b ∙ c.loop-lower.invariant d b

pub returns : goal.returns
returns c =
    let same : c.match-pop.layers.items ≡ c.loop-lower.layers.items = elim c.match-pop.branch [
      | in-Some+then-lower-top+in_ok-push w ↦ ap (λ (v : Vec Layer Global). v.items) w.layers-is ∙ (w.in_ok-push.ensures.items ∙ sym w.in-Some.ensures.items)
      | in_default w ↦ ap (λ (v : Vec Layer Global). v.items) w.layers-is ∙ sym (w.in_default.ensures.items ∙ append-nil c.pop.new.self.items)
    ] in
    λ d b. on_top _ _ c.loop-lower.top c.in_ok-push-2.ensures.items d b
    ∙ (ap (λ ls. behind c.loop-lower.top d (behind_all ls d b)) same ∙ c.loop-lower.invariant d b)
