use Rattle.cp_trie.proofs.trie.CodePointTrie.get32.Given as goal

-- the steps count in the blank ledger that is made here
abbrev pub ghosts-get32_over : goal.ghosts-get32_over
ghosts-get32_over g a = record { name = a.blank.name; parts = a.blank.parts }
