use Rattle.std.proofs.Common.{◌≢◌, ◌++◌, All, ap, ap₂, sym, ◌∙◌, length, take, subst, arith}
use Rattle.std.specs.List.{flat_map}
use Rattle.std.specs.Str.{chars}
use Rattle.std.proofs.lemmas.List.{take_all}
use Rattle.std.proofs.lemmas.List.Elements.{All-append}
use Rattle.cp_strset_terms.specs.Leaves.{strings_of}
use Rattle.cp_strset_terms.specs.Places.{texts}
use Rattle.cp_strset_terms.proofs.PushedLemmas.{flat_map_more}
use Rattle.cp_strset_terms.proofs.table.gathered_strings.Goals as goal

pub loop-leaf-init : goal.loop-leaf-init
loop-leaf-init c = (ap texts c.new-table.ensures.items, λ k none lt. absurd (omega (arith, lt)))

pub loop-leaf-preserved : goal.loop-leaf-preserved
loop-leaf-preserved c =
    let more = flat_map_more strings_of c.args.leaves.now c.loop-leaf.leaf-index c.leaf-item.result c.loop-leaf-test.true in
    let before = flat_map strings_of (take c.loop-leaf.leaf-index c.args.leaves.now) in (
      c.in_ok-push_strings.ensures ∙ (ap₂ (λ xs ys. xs ++ ys) c.loop-leaf.invariant.0 (c.strings.ensures.bytes ∙ ap strings_of c.leaf-item.is) ∙ sym more),
      subst (All (λ s. length (chars s) ≢ 1)) (ap (λ leaf. before ++ strings_of leaf) c.leaf-item.is ∙ sym more)
          (All-append (λ s. length (chars s) ≢ 1) before (strings_of c.leaf-item.result) c.loop-leaf.invariant.1 c.strings.ensures.canonical.none_of_one),
    )

pub returns-clause-strings : goal.returns-clause-strings
returns-clause-strings c = c.loop-leaf.invariant.0 ∙ ap (flat_map strings_of) (take_all c.loop-leaf.leaf-index c.args.leaves.now c.loop-leaf-test.false)

pub returns-clause-none_of_one : goal.returns-clause-none_of_one
returns-clause-none_of_one c =
    subst (λ leaves. All (λ s. length (chars s) ≢ 1) (flat_map strings_of leaves)) (take_all c.loop-leaf.leaf-index c.args.leaves.now c.loop-leaf-test.false) c.loop-leaf.invariant.1
