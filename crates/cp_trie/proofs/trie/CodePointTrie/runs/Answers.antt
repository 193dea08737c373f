use Rattle.cp_trie.proofs.trie.CodePointTrie.runs.Goals as goal

pub returns-clause-maximal : goal.returns-clause-maximal
returns-clause-maximal g c = rw (c.as_slice.ensures, ← c.self.view_is) c.self.invariant.0
