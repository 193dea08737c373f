use Rattle.std.proofs.Common.{◌≡◌, ℕ, ◌+◌, ◌<◌, ◌≤◌, Bool, length}
use Rattle.std.specs.List.{slice_index}
use Rattle.cp_invlist.specs.InversionList.{differ}
use Rattle.cp_invlist.specs.Words.{has_bit}
use Rattle.cp_terms.specs.Blocks.{block_has}
use Rattle.cp_terms.proofs.block.Block.carry.Given as goal

abbrev pub invariant-loop-index : goal.invariant-loop-index
invariant-loop-index l = record {
  sized : length l.self.words ≡ 256;
  others : (i : ℕ) → l.index ≤ i → slice_index l.self.words i ≡ slice_index l.fn.self.words i;
  carried : (starts : ℕ → Bool) (m : ℕ → ℕ → Bool) → starts 0 ≡ l.inside →
      ((i j : ℕ) → i < 256 → j < 64 → m i j ≡ differ (starts i) (block_has l.fn.self i j)) → ((i : ℕ) → i < 256 → starts (i + 1) ≡ m i 63) →
      (j : ℕ) → j < 64 → has_bit l.turning j ≡ starts l.index;
  words : (starts : ℕ → Bool) (m : ℕ → ℕ → Bool) → starts 0 ≡ l.inside →
      ((i j : ℕ) → i < 256 → j < 64 → m i j ≡ differ (starts i) (block_has l.fn.self i j)) → ((i : ℕ) → i < 256 → starts (i + 1) ≡ m i 63) →
      (i : ℕ) → i < l.index → (j : ℕ) → j < 64 → block_has l.self i j ≡ m i j;
}
