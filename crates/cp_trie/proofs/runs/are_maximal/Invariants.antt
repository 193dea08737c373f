use Rattle.std.proofs.Common.{◌≡◌, ◌≤◌, ◌∷◌, drop}
use Rattle.std.specs.Prelude.{IsTrue}
use Rattle.cp_trie.specs.Joined.{joined_from, joined}
use Rattle.cp_trie.specs.declared.ranges.CodePointMapRange.{CodePointMapRange}
use Rattle.cp_trie.proofs.CoverLemmas.{IsCover}
use Rattle.cp_trie.proofs.runs.are_maximal.Given as goal

-- where the runs so far passed, all runs cover if the pending one and the rest do, and are joined already if those are
abbrev pub invariant-loop-run : goal.invariant-loop-run
invariant-loop-run g l =
    let run : CodePointMapRange g.row.T.Denot = record { range = l.range; value = l.value } in
    let left = drop l.run-index l.rest in
    let eq = g.T.PartialEq.eq in
    IsTrue l.maximal → record {
      in_order : l.range.start ≤ l.range.end;
      covers : IsCover l.range.start (run ∷ left) → IsCover 0 l.fn.runs;
      joined : joined_from eq run left ≡ run ∷ left → joined eq l.fn.runs ≡ l.fn.runs;
    }
