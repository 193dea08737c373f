use Rattle.cp_trie.proofs.trie.CodePointTrie.from_joined.Goals as goal

pub new-requires : goal.new-requires
new-requires g c = rw (c.as_slice.ensures, ← c.runs.view_is) c.runs.invariant

pub invariant_of-result : goal.invariant_of-result
invariant_of-result g c = (c.requires, rw c.as_slice.ensures at c.in_ok-pages.ensures)
