use Rattle.std.proofs.Common.{rules, ◌≡◌, None, [], ap₂, sym, ◌∙◌, arith, ◌⊎◌, inl, inr, length}
use Rattle.std.specs.List.{slice_get}
use Rattle.cp_invlist.specs.Merge.{extended}
use Rattle.cp_invlist.proofs.MergeLemmas.{Walks, Walks-first, Walks-second, Walks-both, Walks-rest, Walks-list, Walks-members, AreBelowFirst-from, fewer-below, fewer-both}
use Rattle.cp_invlist.proofs.merge.merge.Goals.{in_default, in_default-2}
use Rattle.cp_invlist.proofs.merge.merge.Given.{Over}
use Rattle.cp_invlist.proofs.merge.merge.Goals as goal

pub elements-preserved-in_ok-extend : goal.elements-preserved-in_ok-extend
elements-preserved-in_ok-extend g c = record {
  walk =
      Walks-first c.args.operation c.args.first.now c.args.second.now c.elements.left.rest.now c.elements.right.rest.now c.elements.merged.items
      c.take-stretch.new.self.rest.now c.extend.new.merged.items c.elements.left.inside c.elements.right.inside c.take-stretch.new.self.inside
      c.count_below.result c.elements.invariant.walk
      (AreBelowFirst-from _ c.elements.right.rest.now c.in-Some-Some.y (sym c.in-Some-Some.ensures') c.count_below.ensures.below)
      c.take-stretch.ensures.rest c.take-stretch.ensures.inside
      (c.in_ok-extend.ensures.ok ∙ ap₂ (extended c.elements.merged.items) c.take-stretch.ensures.front c.turns_at_first.ensures);
  cost = omega (arith, c.take-stretch.ensures.cost, c.elements.invariant.cost);
}

pub elements-preserved-in_ok-extend-2 : goal.elements-preserved-in_ok-extend-2
elements-preserved-in_ok-extend-2 g c = record {
  walk =
      Walks-second c.args.operation c.args.first.now c.args.second.now c.elements.left.rest.now c.elements.right.rest.now c.elements.merged.items
      c.take-stretch-then-y-x.new.self.rest.now c.extend-then-y-x.new.merged.items c.elements.left.inside c.elements.right.inside
      c.take-stretch-then-y-x.new.self.inside c.count_below-then-y-x.result c.elements.invariant.walk
      (AreBelowFirst-from _ c.elements.left.rest.now c.in-Some-Some.x (sym c.in-Some-Some.ensures) c.count_below-then-y-x.ensures.below)
      c.take-stretch-then-y-x.ensures.rest c.take-stretch-then-y-x.ensures.inside
      (c.in_ok-extend-2.ensures.ok ∙ ap₂ (extended c.elements.merged.items) c.take-stretch-then-y-x.ensures.front c.turns_at_second.ensures);
  cost = omega (arith, c.take-stretch-then-y-x.ensures.cost, c.elements.invariant.cost);
}

pub elements-preserved : goal.elements-preserved
elements-preserved g c = record {
  walk =
      Walks-both c.args.operation c.args.first.now c.args.second.now c.elements.left.rest.now c.elements.right.rest.now c.elements.merged.items
      c.take-stretch-else-y-x.new.self.rest.now c.take.new.self.rest.now c.extend-else-y-x.new.merged.items c.elements.left.inside c.elements.right.inside
      c.take-stretch-else-y-x.new.self.inside c.take.new.self.inside c.count_equal-count.result c.elements.invariant.walk
      c.count_equal-count.ensures.equal c.take-stretch-else-y-x.ensures.rest c.take.ensures.rest c.take-stretch-else-y-x.ensures.inside c.take.ensures.inside
      (c.in_ok-extend-3.ensures.ok ∙ ap₂ (extended c.elements.merged.items) c.take-stretch-else-y-x.ensures.front c.turns_at_both-turns.ensures);
  cost = omega (arith, c.take-stretch-else-y-x.ensures.cost, c.take.ensures.cost, c.elements.invariant.cost);
}

-- both lists are taken to their ends
walked : (g : Over) (c : goal.In_ok-extend-5 g) →
    Walks c.args.operation c.args.first.now c.args.second.now [] [] c.extend-3.new.merged.items c.take-rest.new.self.inside c.take-rest-2.new.self.inside
walked g c =
    let ended : (slice_get c.elements.left.rest.now 0 ≡ None) ⊎ (slice_get c.elements.right.rest.now 0 ≡ None) =
    elim c.match-first.branch [ in_default w ↦ inr (sym w.in_default.ensures') | in_default-2 w ↦ inl (search rules) ] in
    Walks-rest c.args.operation c.args.first.now c.args.second.now c.elements.left.rest.now c.elements.right.rest.now c.elements.merged.items
    c.extend-2.new.merged.items c.extend-3.new.merged.items c.elements.left.inside c.elements.right.inside c.take-rest.new.self.inside
    c.take-rest-2.new.self.inside c.len.result c.len-2.result c.elements.invariant.walk ended c.len.ensures c.len-2.ensures
    c.take-rest.ensures.inside
    (c.in_ok-extend-4.ensures.ok ∙ ap₂ (extended c.elements.merged.items) c.take-rest.ensures.front c.turns_at_first-2.ensures)
    c.take-rest-2.ensures.inside
    (c.in_ok-extend-5.ensures.ok ∙ ap₂ (extended c.extend-2.new.merged.items) c.take-rest-2.ensures.front c.turns_at_second-2.ensures)

pub returns-clause-list : goal.returns-clause-list
returns-clause-list g c = Walks-list c.args.operation c.args.first.now c.args.second.now c.extend-3.new.merged.items _ _ (walked g c)

pub returns-clause-members : goal.returns-clause-members
returns-clause-members g c = Walks-members c.args.operation c.args.first.now c.args.second.now c.extend-3.new.merged.items _ _ (walked g c)

pub elements-smaller-in_ok-extend : goal.elements-smaller-in_ok-extend
elements-smaller-in_ok-extend g c =
    (fewer-below c.elements.left.rest.now c.take-stretch.new.self.rest.now c.count_below.result (length c.elements.right.rest.now) c.in-Some-Some.x c.in-Some-Some.y c.in-Some-Some.ensures c.if-x-y.true c.count_below.ensures.behind c.take-stretch.ensures.rest).0

pub elements-smaller-in_ok-extend-2 : goal.elements-smaller-in_ok-extend-2
elements-smaller-in_ok-extend-2 g c =
    (fewer-below c.elements.right.rest.now c.take-stretch-then-y-x.new.self.rest.now c.count_below-then-y-x.result (length c.elements.left.rest.now) c.in-Some-Some.y c.in-Some-Some.x c.in-Some-Some.ensures' c.if-y-x.true c.count_below-then-y-x.ensures.behind c.take-stretch-then-y-x.ensures.rest).1

pub elements-smaller : goal.elements-smaller
elements-smaller g c =
    fewer-both c.elements.left.rest.now c.elements.right.rest.now c.take-stretch-else-y-x.new.self.rest.now c.take.new.self.rest.now c.count_equal-count.result
    c.count_equal-count.ensures.some c.count_equal-count.ensures.within_own c.take-stretch-else-y-x.ensures.rest c.take.ensures.rest
