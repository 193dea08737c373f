use Rattle.std.proofs.Common.{[], ◌∷◌, ◌++◌, sym, ap, ◌∙◌}
use Rattle.std.proofs.lemmas.List.{take_all}
use Rattle.std.specs.List.{flat_map}
use Rattle.cp_strset.specs.StringList.{holds}
use Rattle.cp_strset_terms.specs.declared.leaf.Leaf.{Leaf}
use Rattle.cp_strset_terms.specs.Leaves.{strings_of, is_numbered}
use Rattle.cp_strset_terms.proofs.NarrowedLemmas.{rest_taken, rest_passed}
use Rattle.cp_strset_terms.proofs.narrowed.unnumbered.Goals as goal
use Rattle.cp_strset_terms.proofs.narrowed.unnumbered.Goals.{then-not-is_numbered+in_ok-push, else-not-is_numbered}

pub loop-leaf-preserved : goal.loop-leaf-preserved
loop-leaf-preserved c = λ all bytes fits absent held.
    let leaves = c.args.leaves.now in
    let i = c.loop-leaf.leaf-index in
    let leaf = c.leaf-item.result in
    let rest = c.loop-leaf.rest.items in
    let before = c.loop-leaf.invariant all bytes fits absent in
    elim c.if-not-is_numbered.branch [
      | then-not-is_numbered+in_ok-push w ↦
          ap (λ v. holds (flat_map strings_of v.items) bytes) w.rest-is
          ∙ (ap (λ l. holds (flat_map strings_of l) bytes) w.in_ok-push.ensures.items
          ∙ (ap (λ (l : Leaf). holds (flat_map strings_of (rest ++ l ∷ [])) bytes) c.leaf-item.is
          ∙ rest_taken leaves rest i leaf bytes c.loop-leaf-test.true before held))
      | else-not-is_numbered w ↦
          ap (λ v. holds (flat_map strings_of v.items) bytes) w.rest-is
          ∙ rest_passed all leaves rest i leaf bytes c.loop-leaf-test.true (sym (ap is_numbered c.leaf-item.is) ∙ (sym c.is_numbered.ensures ∙ w.if-not-is_numbered.false)) fits absent before held
    ]

pub returns : goal.returns
returns c = λ all bytes fits absent held.
    c.loop-leaf.invariant all bytes fits absent (ap (λ l. holds (flat_map strings_of l) bytes) (take_all c.loop-leaf.leaf-index c.args.leaves.now c.loop-leaf-test.false) ∙ held)
