use Rattle.std.proofs.Common.{ap, ◌∙◌, map}
use Rattle.std.proofs.lemmas.List.{take_all}
use Rattle.cp_strset_terms.specs.Leaves.{code_points_of}
use Rattle.cp_strset_terms.proofs.PushedLemmas.{seen_pushed}
use Rattle.cp_strset_terms.proofs.leaf.code_point_lists.Goals as goal

pub loop-leaf-init : goal.loop-leaf-init
loop-leaf-init c = ap (map (λ list. list.now)) c.in_ok-lists.ensures.items

pub loop-leaf-preserved : goal.loop-leaf-preserved
loop-leaf-preserved c =
    seen_pushed (λ list. list.now) code_points_of c.loop-leaf.lists.items c.push.new.self.items c.code_points.result c.args.leaves.now c.loop-leaf.leaf-index c.leaf-item.result
    c.loop-leaf-test.true c.in_ok-push.ensures.items (c.code_points.ensures ∙ ap code_points_of c.leaf-item.is) c.loop-leaf.invariant

pub returns : goal.returns
returns c = c.loop-leaf.invariant ∙ ap (map code_points_of) (take_all c.loop-leaf.leaf-index c.args.leaves.now c.loop-leaf-test.false)
