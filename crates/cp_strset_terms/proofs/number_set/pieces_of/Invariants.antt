use Rattle.std.proofs.Common.{◌≡◌, ◌==◌, length}
use Rattle.std.specs.List.{list_any}
use Rattle.cp_strset_terms.proofs.NumberSetLemmas.{TellsBelow}
use Rattle.cp_strset_terms.proofs.number_set.pieces_of.Given as goal

abbrev pub invariant-loop-index : goal.invariant-loop-index
invariant-loop-index l = (length l.pieces.items ≡ l.index) × TellsBelow (λ number. list_any (λ n. n == number) l.numbers) l.pieces.items l.index
