use Rattle.std.proofs.Common.{◌≡◌, ℕ, List, length, map, take}
use Rattle.cp_terms.specs.Terms.{holds_at}
use Rattle.cp_strset_terms.specs.Leaves.{leaf_holds}
use Rattle.cp_strset_terms.specs.Places.{IsAt}
use Rattle.cp_strset_terms.proofs.places.places_of_leaves.Given as goal

abbrev pub invariant-loop-leaf : goal.invariant-loop-leaf
invariant-loop-leaf l =
    (length l.sets.items ≡ l.leaf-index)
    × ((place : ℕ) (text : List ℕ) → IsAt (map (λ text. text.now) l.list) place text →
    (index : ℕ) → holds_at l.sets.items place index ≡ leaf_holds (take l.leaf-index l.leaves) text index)
