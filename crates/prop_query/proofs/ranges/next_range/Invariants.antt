use Rattle.std.proofs.Common.{◌≡◌}
use Rattle.prop_query.specs.Passing.{passing_from, passing}
use Rattle.prop_query.proofs.ranges.next_range.Given as goal

-- The test is the one at the beginning, and the range that is begun and the runs that are left give the same ranges as all runs.
abbrev pub invariant-loop-run : goal.invariant-loop-run
invariant-loop-run g l = record {
  can_next : (goal.iterator-loop-run g).can_next l.runs;
  is_finite : (goal.iterator-loop-run g).is_finite l.runs;
  test : g.P.ValueTest.passes l.test ≡ g.P.ValueTest.passes l.initial.test;
  same : passing_from (g.P.ValueTest.passes l.initial.test) l.begun l.runs ≡ passing (g.P.ValueTest.passes l.initial.test) l.initial.runs;
}
