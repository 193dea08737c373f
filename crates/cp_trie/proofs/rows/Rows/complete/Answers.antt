use Rattle.std.proofs.Common.{◌-◌, arith}
use Rattle.cp_trie.specs.Rows.{laid}
use Rattle.cp_trie.proofs.RowsLemmas.{length-taken, laid-completed}
use Rattle.cp_trie.proofs.rows.Rows.complete.Goals as goal

pub close-requires-clause-room : goal.close-requires-clause-room
close-requires-clause-room g c =
    omega (arith, length-taken c.args.self.now c.args.begun.len c.requires.cut (omega arith))

pub returns-clause-laid : goal.returns-clause-laid
returns-clause-laid g c =
    let s = c.args.self.now in
    laid-completed (laid s) (laid c.close.new.self) s.row c.push-whole.new.self c.args.begun.len (64 - c.args.begun.len) c.push-whole.result.len _ c.args.value c.in_ok-close.ensures.laid c.push-whole.ensures.values (omega arith) (omega arith)
