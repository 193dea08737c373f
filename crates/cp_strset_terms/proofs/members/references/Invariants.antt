use Rattle.std.proofs.Common.{◌≡◌, map, take}
use Rattle.cp_strset_terms.proofs.members.references.Given as goal

abbrev pub invariant-loop-set : goal.invariant-loop-set
invariant-loop-set l = map (λ set. set.now) l.references.items ≡ take l.set-index l.sets
