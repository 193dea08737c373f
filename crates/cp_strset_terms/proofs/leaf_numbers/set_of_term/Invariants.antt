use Rattle.std.proofs.Common.{◌≡◌, length}
use Rattle.cp_terms.specs.Terms.{value_of}
use Rattle.cp_strset_terms.specs.LeafNumbers.{has_number_at}
use Rattle.cp_strset_terms.proofs.NumberSetLemmas.{TellsBelow}
use Rattle.cp_strset_terms.proofs.leaf_numbers.set_of_term.Given as goal

abbrev pub invariant-loop-index : goal.invariant-loop-index
invariant-loop-index l = (length l.pieces.items ≡ l.index) × TellsBelow (λ number. value_of (has_number_at l.numbers number) l.steps) l.pieces.items l.index
