use Rattle.std.proofs.Common.{◌≡◌, ℕ, ◌||◌, drop}
use Rattle.cp_invlist.specs.InversionList.{contains}
use Rattle.cp_trie.proofs.SetLemmas.{holds_passing}
use Rattle.cp_trie.proofs.trie.CodePointTrie.get_set_where.Given as goal

-- The test is the one at the beginning, and the set so far and the runs that are left have the members of all runs.
abbrev pub invariant-loop-run : goal.invariant-loop-run
invariant-loop-run g l =
    (g.P.ValueTest.passes l.test ≡ g.P.ValueTest.passes l.initial.test)
    × ((n : ℕ) →
    (contains l.builder n || holds_passing (g.P.ValueTest.passes l.initial.test) (drop l.run-index l.run-items) n) ≡ holds_passing (g.P.ValueTest.passes l.initial.test) l.run-items n)
