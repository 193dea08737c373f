use Rattle.std.proofs.Common.{arith}
use Rattle.std.proofs.lemmas.Result.{on_ok_weaker}
use Rattle.cp_trie.specs.Rows.{laid}
use Rattle.cp_trie.proofs.RowsLemmas.{length-laid, laid-rows}
use Rattle.cp_trie.proofs.rows.Rows.take_rows.Goals as goal

pub close-requires-clause-room : goal.close-requires-clause-room
close-requires-clause-room g c = omega (arith, length-laid c.args.self.now c.requires.cut)

pub returns-clause-laid : goal.returns-clause-laid
returns-clause-laid g c =
    on_ok_weaker c.close.result (
    λ closed. laid-rows (laid c.args.self.now) (laid c.close.new.self) c.push-whole.new.self c.args.times c.push-whole.result.len c.args.value closed c.push-whole.ensures.values c.push-whole.ensures.len
    ) c.close.ensures.laid
