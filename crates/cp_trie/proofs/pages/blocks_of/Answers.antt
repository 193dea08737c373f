use Rattle.std.proofs.Common.{refl, ap, arith}
use Rattle.std.proofs.lemmas.List.{drop_all}
use Rattle.cp_trie.specs.Rows.{spelled, taken}
use Rattle.cp_trie.proofs.PagesLemmas.{room_for_repeated, spelled-next}
use Rattle.cp_trie.proofs.RowsLemmas.{laid-whole}
use Rattle.cp_trie.proofs.pages.blocks_of.Goals as goal
use Rattle.cp_trie.proofs.pages.blocks_of.Goals.{then-begun-page-lt-ROW, else-begun-page-lt-ROW+in_ok-begun}

pub take_across-requires-clause-room : goal.take_across-requires-clause-room
take_across-requires-clause-room c =
    omega (arith, c.requires.few, room_for_repeated (taken c.loop-page.blocks c.loop-page.begun.len) c.args.pages.now c.loop-page.page-index (record { number = 0; count = 0 }) c.loop-page-test.true c.loop-page.invariant.all)

pub returns-clause-laid : goal.returns-clause-laid
returns-clause-laid c =
    let pages = c.args.pages.now in
    let inv = c.loop-page.invariant in
    laid-whole c.loop-page.blocks (spelled pages) _ c.loop-page.begun.len inv.cut inv.begun inv.all (ap spelled (drop_all c.loop-page.page-index pages c.loop-page-test.false)) c.requires.whole

pub loop-page-preserved : goal.loop-page-preserved
loop-page-preserved c =
    let next = spelled-next (taken c.loop-page.blocks c.loop-page.begun.len) (taken c.if-begun-page-lt-ROW.blocks c.if-begun-page-lt-ROW.begun.len) c.args.pages.now c.loop-page.page-index (record { number = 0; count = 0 }) c.loop-page-test.true c.loop-page.invariant.all in
    elim c.if-begun-page-lt-ROW.branch [
      | then-begun-page-lt-ROW w ↦
          let e = w.take_within-begun.ensures in
          record { cut = rw w.blocks-is e.cut; begun = rw w.begun-is e.begun; all = next (rw (w.blocks-is, w.begun-is) e.taken) }
      | else-begun-page-lt-ROW+in_ok-begun w ↦
          let e = w.in_ok-begun.ensures in
          record { cut = rw w.blocks-is e.cut; begun = rw w.begun-is e.begun; all = next (rw (w.blocks-is, w.begun-is) e.taken) }
    ]

pub overflow_add-begun : goal.overflow_add-begun
overflow_add-begun c =
    omega (arith, c.requires.few, room_for_repeated (taken c.loop-page.blocks c.loop-page.begun.len) c.args.pages.now c.loop-page.page-index (record { number = 0; count = 0 }) c.loop-page-test.true c.loop-page.invariant.all)

pub loop-page-init : goal.loop-page-init
loop-page-init c =
    record { cut = c.in_ok-blocks.ensures.cut; begun = omega arith; all = rw c.in_ok-blocks.ensures.none refl }
