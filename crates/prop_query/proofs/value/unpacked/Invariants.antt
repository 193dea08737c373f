use Rattle.std.proofs.Common.{◌≡◌, ◌++◌}
use Rattle.prop_query.specs.Unpacked.{unpacked_runs, AreRunsAccepted}
use Rattle.prop_query.proofs.value.unpacked.Given as goal

-- the runs that are done and those that are left are all
abbrev pub invariant-loop-run : goal.invariant-loop-run
invariant-loop-run g l = record {
  can_next : (goal.iterator-loop-run g).can_next l.run-iterator;
  is_finite : (goal.iterator-loop-run g).is_finite l.run-iterator;
  accepted : AreRunsAccepted g.T.EnumeratedProperty.TABLE l.run-iterator;
  done : l.runs.items ++ unpacked_runs g.T.TrieValue.unpacked l.run-iterator ≡ unpacked_runs g.T.TrieValue.unpacked l.initial.run-iterator;
}
