use Rattle.std.proofs.Common.{ℕ, All, List}
use Rattle.cp_strset_terms.specs.Leaves.{FitsNumbers}
use Rattle.set_rows.proofs.string_terms.leaves.Given as goal

abbrev pub invariant-loop-set : goal.invariant-loop-set
invariant-loop-set l = (all : List (List ℕ)) → All (FitsNumbers all) l.leaves.items
