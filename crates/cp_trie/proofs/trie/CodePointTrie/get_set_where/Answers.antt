use Rattle.std.proofs.Common.{◌∙◌, arith}
use Rattle.cp_trie.proofs.CoverLemmas.{IsCover-from_runs}
use Rattle.cp_trie.proofs.SetLemmas.{holds_passing-all_done, holds_passing-value_in}
use Rattle.cp_trie.proofs.trie.CodePointTrie.get_set_where.Goals as goal

pub returns-clause-set : goal.returns-clause-set
returns-clause-set g c n =
    let test = g.P.ValueTest.passes c.args.test.now in
    let runs = c.runs-run-items.result.now in
    let cover = IsCover-from_runs g.T.PartialEq.eq _ 0 runs c.runs-run-items.ensures.maximal in
    let gathered = holds_passing-all_done test runs c.loop-run.run-index n _ c.loop-run-test.false (c.loop-run.invariant.1 n) in
    rw c.build.ensures.list (gathered ∙ rw c.runs-run-items.ensures.runs (holds_passing-value_in test 0 _ c.args.self.now.error_value n (rw c.runs-run-items.ensures.runs at cover) (omega arith)))
