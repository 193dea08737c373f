use Rattle.std.proofs.Common.{refl}
use Rattle.std.proofs.lemmas.List.{nil_from_length}
use Rattle.cp_trie.proofs.RunsLemmas.{joined_from-equal, joined_from-other, joined_from-last}
use Rattle.cp_trie.proofs.runs.joined_list.Goals as goal
use Rattle.cp_trie.proofs.runs.joined_list.Goals.{then-eq, else-eq+in_ok-push}

pub loop-run-preserved : goal.loop-run-preserved
loop-run-preserved g c =
    let l = c.loop-run in
    elim c.if-eq.branch [
      | then-eq w ↦
          rw (w.joined-is, w.range-is, w.value-is) (joined_from-equal g.T.PartialEq.eq l.joined.items _ c.in-Some.rest.now l.run-index (record { range = l.range; value = l.value }) c.run-item.result c.loop-run-test.true c.run-item.is w.if-eq.ensures l.invariant)
      | else-eq+in_ok-push w ↦
          rw (w.joined-is, w.range-is, w.value-is, w.in_ok-push.ensures.items) (joined_from-other g.T.PartialEq.eq l.joined.items _ c.in-Some.rest.now l.run-index (record { range = l.range; value = l.value }) c.run-item.result c.loop-run-test.true c.run-item.is w.if-eq.ensures l.invariant)
    ]

pub returns : goal.returns
returns g c =
    let l = c.loop-run in
    rw c.in_ok-push-2.ensures.items (joined_from-last g.T.PartialEq.eq l.joined.items _ c.in-Some.rest.now l.run-index (record { range = l.range; value = l.value }) c.loop-run-test.false l.invariant)

pub loop-run-init : goal.loop-run-init
loop-run-init g c = rw (c.in_ok-joined.ensures.items, c.in-Some.ensures.cases.0) refl

pub returns-in_default : goal.returns-in_default
returns-in_default g c =
    rw (c.in_ok-joined.ensures.items, nil_from_length c.args.runs.now c.in_default.ensures.cases) refl
