use Rattle.std.proofs.Common.{◌≡◌, ℕ, ◌<◌, ◌≤◌, length}
use Rattle.std.specs.List.{slice_index}
use Rattle.cp_terms.specs.Terms.{combined}
use Rattle.cp_invlist.specs.Words.{has_bit}
use Rattle.cp_terms.specs.Blocks.{word_has, block_has}
use Rattle.cp_terms.proofs.block.Block.combine.Given as goal

abbrev pub invariant-loop-index : goal.invariant-loop-index
invariant-loop-index l = record {
  sized : length l.self.words ≡ 256;
  words : (i : ℕ) → i < l.index → (j : ℕ) → j < 64 → has_bit (slice_index l.self.words i) j ≡ combined l.operation (block_has l.fn.self i j) (word_has l.upper i j);
  others : (i : ℕ) → l.index ≤ i → slice_index l.self.words i ≡ slice_index l.fn.self.words i;
}
