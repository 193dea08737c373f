use Rattle.std.proofs.Common.{◌≡◌, ◌*◌, length}
use Rattle.cp_terms.specs.Windows.{AreWindows}
use Rattle.cp_terms.specs.Changes.{AreBefore, TellBelow, members_of}
use Rattle.cp_terms.proofs.evaluation.write_all.Given as goal

abbrev pub invariant-loop-stretch : goal.invariant-loop-stretch
invariant-loop-stretch l = record {
  windows_each : length l.windows ≡ length l.sets;
  windows : AreWindows l.sets (l.stretch * 0x4000) l.windows;
  before : AreBefore (l.stretch * 0x4000) l.changes;
  members : TellBelow (members_of l.sets l.steps) 0 l.fn.changes → TellBelow (members_of l.sets l.steps) (l.stretch * 0x4000) l.changes;
}
