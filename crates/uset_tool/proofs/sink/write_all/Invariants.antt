use Rattle.std.proofs.Common.{◌≡◌, length}
use Rattle.uset_tool.proofs.DeviceLemmas.{Written}
use Rattle.uset_tool.proofs.sink.write_all.Given as goal

abbrev pub invariant-loop-rest : goal.invariant-loop-rest
invariant-loop-rest g l = record {
  written : Written (g.K.Sink.written l.initial.sink) (g.K.Sink.written l.sink) l.text l.rest;
  counted : g.K.Sink.faults l.sink ≡ g.K.Sink.faults l.initial.sink;
}

abbrev pub decreases-loop-rest : goal.decreases-loop-rest
decreases-loop-rest g l = length l.rest
