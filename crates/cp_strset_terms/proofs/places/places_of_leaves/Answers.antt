use Rattle.std.proofs.Common.{take, length, ◌≡◌, sym, ap, ◌∙◌, arith}
use Rattle.std.proofs.lemmas.Grind.{common_steps}
use Rattle.std.proofs.lemmas.List.{take_more, length-take-le}
use Rattle.cp_strset.specs.StringList.{holds}
use Rattle.cp_terms.specs.Terms.{holds_at}
use Rattle.cp_strset_terms.specs.Leaves.{strings_of, leaf_holds}
use Rattle.cp_strset_terms.proofs.LeavesLemmas.{one_leaf_more}
use Rattle.cp_strset_terms.proofs.places.places_of_leaves.Goals as goal

pub loop-leaf-preserved : goal.loop-leaf-preserved
loop-leaf-preserved c = (
  grind (arith, common_steps),
  λ place text here index.
      let done = take c.loop-leaf.leaf-index c.args.leaves.now in
      let counted : length c.loop-leaf.sets.items ≡ length done = c.loop-leaf.invariant.0 ∙ sym (length-take-le c.loop-leaf.leaf-index c.args.leaves.now (omega arith)) in
      ap (λ sets. holds_at sets place index) c.in_ok-push.ensures.items
      ∙ (one_leaf_more c.loop-leaf.sets.items done place text c.in_ok-places_of.field-0 _ counted (c.loop-leaf.invariant.1 place text here)
      (c.in_ok-places_of.ensures place text here ∙ (ap (λ strings. holds strings text) c.strings.ensures.bytes ∙ ap (λ leaf. holds (strings_of leaf) text) c.leaf-item.is)) index
      ∙ sym (ap (λ leaves. leaf_holds leaves text index) (take_more c.args.leaves.now c.loop-leaf.leaf-index c.leaf-item.result c.loop-leaf-test.true))),
)
