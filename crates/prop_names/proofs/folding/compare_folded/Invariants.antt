use Rattle.std.proofs.Common.{◌≡◌, drop}
use Rattle.std.specs.Cmp.Lexicographic.{slice_cmp}
use Rattle.std.specs.Ordering.{nat_cmp}
use Rattle.prop_names.specs.Folding.{query_folding}
use Rattle.prop_names.proofs.folding.compare_folded.Given as goal

abbrev pub invariant-loop-byte : goal.invariant-loop-byte
invariant-loop-byte l = slice_cmp nat_cmp l.rest (query_folding (drop l.byte-index l.query)) ≡ slice_cmp nat_cmp l.stored (query_folding l.query)
