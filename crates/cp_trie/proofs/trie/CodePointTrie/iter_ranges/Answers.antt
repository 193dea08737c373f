use Rattle.cp_trie.specs.Map.{value_at}
use Rattle.cp_trie.proofs.RunsLemmas.{runs_unique}
use Rattle.cp_trie.proofs.trie.CodePointTrie.iter_ranges.Goals as goal

pub returns-clause-maximal : goal.returns-clause-maximal
returns-clause-maximal g c = rw c.new.ensures c.runs.ensures.maximal

pub returns-clause-only : goal.returns-clause-only
returns-clause-only g c rs h =
    runs_unique g.T.PartialEq.eq (value_at c.args.self.now) 0 rs c.new.result h (returns-clause-maximal g c)
