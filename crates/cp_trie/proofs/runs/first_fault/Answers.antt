use Rattle.std.proofs.Common.{sym, ◌∙◌, arith}
use Rattle.std.proofs.lemmas.List.{drop_all}
use Rattle.cp_trie.proofs.RunsLemmas.{fault_from-passed, fault_from-order, out_of_order}
use Rattle.cp_trie.proofs.runs.first_fault.Goals as goal

pub loop-index-preserved : goal.loop-index-preserved
loop-index-preserved g c =
    let l = c.loop-index in
    (omega arith, fault_from-passed l.index l.next c.args.runs.now c.index-runs-index.result c.loop-index-test.true c.index-runs-index.is c.if-range-next.false c.if-range.false c.if-range-gt-LAST_CODE_POINT.false ∙ l.invariant.1)

pub returns-then-range : goal.returns-then-range
returns-then-range g c =
    let l = c.loop-index in
    let r = c.index-runs-index.result in
    sym (fault_from-order l.index l.next c.args.runs.now r c.loop-index-test.true c.index-runs-index.is c.if-range-next.false (out_of_order r c.then-range.either)) ∙ l.invariant.1

pub returns-then-next : goal.returns-then-next
returns-then-next g c = rw (drop_all c.loop-index.index c.args.runs.now c.loop-index-test.false, c.if-next.true) at c.loop-index.invariant.1
