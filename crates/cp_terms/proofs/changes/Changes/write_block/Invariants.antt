use Rattle.std.proofs.Common.{◌≡◌, ℕ, ◌+◌, ◌*◌, ◌<◌, Bool}
use Rattle.cp_terms.specs.Blocks.{block_has}
use Rattle.cp_terms.specs.Changes.{AreBefore, TellBelow}
use Rattle.cp_terms.proofs.changes.Changes.write_block.Given as goal

abbrev pub invariant-loop-index : goal.invariant-loop-index
invariant-loop-index l = record {
  before : AreBefore (l.place + 64 * l.index) l.self;
  members : (m : ℕ → Bool) → TellBelow m l.place l.fn.self → ((i j : ℕ) → i < 256 → j < 64 → m (l.place + 64 * i + j) ≡ block_has l.block i j) → TellBelow m (l.place + 64 * l.index) l.self;
}
