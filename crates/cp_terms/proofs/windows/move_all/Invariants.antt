use Rattle.std.proofs.Common.{◌≡◌, length}
use Rattle.cp_terms.specs.Windows.{AreWindows}
use Rattle.cp_terms.proofs.windows.move_all.Given as goal

abbrev pub invariant-loop-index : goal.invariant-loop-index
invariant-loop-index l = record {
  one_each : length l.windows ≡ length l.sets;
  windows : AreWindows l.sets l.place l.windows;
}
