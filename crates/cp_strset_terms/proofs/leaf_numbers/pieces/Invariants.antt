use Rattle.std.proofs.Common.{◌≡◌, map, take}
use Rattle.cp_strset_terms.specs.LeafNumbers.{pieces_seen}
use Rattle.cp_strset_terms.proofs.leaf_numbers.pieces.Given as goal

abbrev pub invariant-loop-each : goal.invariant-loop-each
invariant-loop-each l = map (λ piece. piece.now) l.pieces.items ≡ pieces_seen l.index (take l.each-index l.numbers)
