use Rattle.cp_trie.proofs.CoverLemmas.{IsCover-from_runs, value_in-past_end}
use Rattle.cp_trie.proofs.trie.CodePointTrie.error_value.Goals as goal

pub returns-clause-past_end : goal.returns-clause-past_end
returns-clause-past_end g c n past =
    rw (← c.self.view_is) (value_in-past_end 0 _ _ n (IsCover-from_runs g.T.PartialEq.eq _ 0 _ c.self.invariant.0) past)
