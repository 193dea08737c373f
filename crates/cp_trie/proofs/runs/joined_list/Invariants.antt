use Rattle.std.proofs.Common.{◌≡◌, ◌++◌, drop}
use Rattle.cp_trie.specs.Joined.{joined_from, joined}
use Rattle.cp_trie.proofs.runs.joined_list.Given as goal

-- those that are done, and those that the pending run and the rest make, are those of all runs
abbrev pub invariant-loop-run : goal.invariant-loop-run
invariant-loop-run g l =
    l.joined.items ++ joined_from g.T.PartialEq.eq (record { range = l.range; value = l.value }) (drop l.run-index l.rest) ≡ joined g.T.PartialEq.eq l.fn.runs
