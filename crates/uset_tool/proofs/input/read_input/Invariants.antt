use Rattle.std.proofs.Common.{◌≡◌, ◌≤◌, ◌-◌, ◌+◌, vec_len}
use Rattle.uset_tool.specs.Device.{limit}
use Rattle.uset_tool.proofs.DeviceLemmas.{Taken}
use Rattle.uset_tool.proofs.input.read_input.Given as goal

abbrev pub invariant-loop-buffer : goal.invariant-loop-buffer
invariant-loop-buffer g l = record {
  taken : Taken (g.S.Source.left l.initial.source) (g.S.Source.left l.source) l.input.items;
  counted : g.S.Source.faults l.source ≡ g.S.Source.faults l.initial.source;
  within : vec_len l.input ≤ limit + 1;
}

abbrev pub decreases-loop-buffer : goal.decreases-loop-buffer
decreases-loop-buffer g l = limit + 1 - vec_len l.input
