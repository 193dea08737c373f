use Rattle.std.proofs.Common.{ap, arith}
use Rattle.std.proofs.lemmas.List.{drop_all}
use Rattle.cp_trie.specs.Pages.{values_of}
use Rattle.cp_trie.specs.Rows.{taken}
use Rattle.cp_trie.proofs.CoverLemmas.{IsCover-from_no_fault}
use Rattle.cp_trie.proofs.PagesLemmas.{room_for, length-values_of, values_of-next}
use Rattle.cp_trie.proofs.RowsLemmas.{laid-whole}
use Rattle.cp_trie.proofs.pages.pages_of.Goals as goal
use Rattle.cp_trie.proofs.pages.pages_of.Goals.{then-begun-count-lt-ROW, else-begun-count-lt-ROW+in_ok-begun}

pub overflow_sub-count : goal.overflow_sub-count
overflow_sub-count g c =
    (room_for (taken c.loop-run.pages c.loop-run.begun.len) c.args.runs.now c.loop-run.run-index c.run-item.result (IsCover-from_no_fault 0 0 _ c.requires) c.loop-run-test.true c.run-item.is c.loop-run.invariant.all).0

pub take_across-requires-clause-room : goal.take_across-requires-clause-room
take_across-requires-clause-room g c =
    (room_for (taken c.loop-run.pages c.loop-run.begun.len) c.args.runs.now c.loop-run.run-index c.run-item.result (IsCover-from_no_fault 0 0 _ c.requires) c.loop-run-test.true c.run-item.is c.loop-run.invariant.all).1

pub returns-clause-laid : goal.returns-clause-laid
returns-clause-laid g c =
    let runs = c.args.runs.now in
    let inv = c.loop-run.invariant in
    laid-whole c.loop-run.pages (values_of runs) _ c.loop-run.begun.len inv.cut inv.begun inv.all (ap values_of (drop_all c.loop-run.run-index runs c.loop-run-test.false)) (omega (arith, length-values_of 0 runs (IsCover-from_no_fault 0 0 _ c.requires)))

pub loop-run-preserved : goal.loop-run-preserved
loop-run-preserved g c =
    let next = values_of-next (taken c.loop-run.pages c.loop-run.begun.len) (taken c.if-begun-count-lt-ROW.pages c.if-begun-count-lt-ROW.begun.len) c.args.runs.now c.loop-run.run-index c.run-item.result c.loop-run-test.true c.run-item.is c.loop-run.invariant.all in
    elim c.if-begun-count-lt-ROW.branch [
      | then-begun-count-lt-ROW w ↦
          let e = w.take_within-begun.ensures in
          record { cut = rw w.pages-is e.cut; begun = rw w.begun-is e.begun; all = next (rw (w.pages-is, w.begun-is) e.taken) }
      | else-begun-count-lt-ROW+in_ok-begun w ↦
          let e = w.in_ok-begun.ensures in
          record { cut = rw w.pages-is e.cut; begun = rw w.begun-is e.begun; all = next (rw (w.pages-is, w.begun-is) e.taken) }
    ]
