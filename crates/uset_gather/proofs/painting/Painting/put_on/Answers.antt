use Rattle.std.proofs.Common.{◌||◌, ◌∙◌, rules, refl, ap}
use Rattle.std.proofs.lemmas.Result.{on_ok_weaker}
use Rattle.cp_invlist.specs.InversionList.{contains, IsInversionList}
use Rattle.uset_gather.proofs.PaintingLemmas.{layer_painted}
use Rattle.uset_gather.proofs.painting.Painting.put_on.Goals as goal

pub returns : goal.returns
returns c =
    let none = c.in_ok-settle.ensures.settled in
    let listed : IsInversionList c.args.set = search (rules, c.set.view_is, c.set.invariant) in
    on_ok_weaker c.push.result (λ put d.
    layer_painted c.settle.new.self _ c.new-layer.result c.args.set refl none none put c.new-layer.ensures d (c.members_are_code_points.ensures c.args.set d listed)
    ∙ ap (λ b. b || contains c.args.set d) (c.in_ok-settle.ensures.same d))
    c.push.ensures
