use Rattle.std.proofs.Common.{◌≡◌, ◌/◌, ◌%◌, take, length, sym, ap, subst, ◌∙◌, arith}
use Rattle.std.proofs.lemmas.Grind.{common_steps}
use Rattle.std.proofs.lemmas.List.{take_more, length-take-le, length-map, map-append}
use Rattle.cp_strset.specs.StringList.{holds}
use Rattle.cp_terms.specs.Terms.{holds_at}
use Rattle.cp_strset_terms.specs.LeafNumbers.{numbers_seen, pieces_seen, has_number_at}
use Rattle.cp_strset_terms.specs.Leaves.{strings_of, leaf_holds, FitsNumbers}
use Rattle.cp_strset_terms.specs.NumberSets.{piece_at}
use Rattle.cp_strset_terms.proofs.LeavesLemmas.{one_leaf_more}
use Rattle.cp_strset_terms.proofs.leaf_numbers.numbers_of_leaves.Goals as goal

pub numbers_of_leaf-requires : goal.numbers_of_leaf-requires
numbers_of_leaf-requires c = subst (FitsNumbers c.args.all.now) (sym c.leaf-item.is) (c.requires c.loop-leaf.leaf-index c.leaf-item.result c.loop-leaf-test.true)

pub loop-leaf-preserved : goal.loop-leaf-preserved
loop-leaf-preserved c = (
  grind (arith, common_steps),
  λ number text here index.
      let done = take c.loop-leaf.leaf-index c.args.leaves.now in
      let piece = number / 0x11_0000 in
      let place = number % 0x11_0000 in
      let seen = pieces_seen piece c.loop-leaf.numbers.items in
      let more = c.in_ok-numbers_of_leaf.field-0 in
      let counted : length seen ≡ length done =
      length-map c.loop-leaf.numbers.items (λ leaf. piece_at (numbers_seen leaf) piece) ∙ (c.loop-leaf.invariant.0 ∙ sym (length-take-le c.loop-leaf.leaf-index c.args.leaves.now (omega arith))) in
      ap (λ numbers. has_number_at numbers number index) c.in_ok-push.ensures.items
      ∙ (ap (λ pieces. holds_at pieces place index) (map-append (λ leaf. piece_at (numbers_seen leaf) piece) c.loop-leaf.numbers.items _)
      ∙ (one_leaf_more seen done place text (piece_at (numbers_seen more) piece) _ counted (c.loop-leaf.invariant.1 number text here)
      (c.in_ok-numbers_of_leaf.ensures number text here ∙ ap (λ leaf. holds (strings_of leaf) text) c.leaf-item.is) index
      ∙ sym (ap (λ leaves. leaf_holds leaves text index) (take_more c.args.leaves.now c.loop-leaf.leaf-index c.leaf-item.result c.loop-leaf-test.true)))),
)
