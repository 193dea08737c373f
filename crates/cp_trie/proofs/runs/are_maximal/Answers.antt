use Rattle.std.proofs.lemmas.List.{drop_all}
use Rattle.cp_trie.specs.declared.ranges.CodePointMapRange.{CodePointMapRange}
use Rattle.cp_trie.proofs.CoverLemmas.{no_fault-from_IsCover}
use Rattle.cp_trie.proofs.RunsLemmas.{IsCover-from_test, joined-from_test, all_four, IsCover-before, in_order-next, joined_from-before}
use Rattle.cp_trie.proofs.runs.are_maximal.Goals as goal

pub returns-clause-no_fault : goal.returns-clause-no_fault
returns-clause-no_fault g c =
    λ both. no_fault-from_IsCover 0 0 c.args.runs.now
    (IsCover-from_test c.loop-run.maximal (record { range = c.loop-run.range; value = c.loop-run.value }) _ c.args.runs.now (drop_all c.loop-run.run-index c.in-Some.rest.now c.loop-run-test.false) (λ h. (c.loop-run.invariant h).in_order) (λ h. (c.loop-run.invariant h).covers) both)

pub returns-clause-joined : goal.returns-clause-joined
returns-clause-joined g c =
    joined-from_test g.T.PartialEq.eq c.loop-run.maximal (record { range = c.loop-run.range; value = c.loop-run.value }) _ c.args.runs.now (drop_all c.loop-run.run-index c.in-Some.rest.now c.loop-run-test.false) (λ h. (c.loop-run.invariant h).joined)

pub loop-run-preserved : goal.loop-run-preserved
loop-run-preserved g c = λ both.
    let tests = all_four _ _ _ _ both in
    let before = c.loop-run.invariant tests.0 in
    let r : CodePointMapRange g.row.T.Denot = record { range = c.loop-run.range; value = c.loop-run.value } in
    let s = c.run-item.result in
    let rest = c.in-Some.rest.now in
    record {
      in_order = in_order-next r s tests.1 tests.2;
      covers = λ h. before.covers (IsCover-before r s rest c.loop-run.run-index c.loop-run-test.true c.run-item.is tests.1 tests.2 before.in_order h);
      joined = λ h. before.joined (joined_from-before g.T.PartialEq.eq r s rest c.loop-run.run-index _ c.loop-run-test.true c.run-item.is c.ne-maximal.ensures tests.3 h);
    }
