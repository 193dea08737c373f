use Rattle.std.proofs.Common.{◌≡◌, ◌++◌, drop}
use Rattle.cp_trie.specs.Conversion.{conversion, refused_from}
use Rattle.cp_trie.specs.ConvertedRuns.{runs_by}
use Rattle.cp_trie.proofs.convert.converted_runs.Given as goal

-- those that are done and those that are left to convert are all, and the first refusal is still to come
abbrev pub invariant-loop-index : goal.invariant-loop-index
invariant-loop-index g l =
    let convert = conversion g.T.TrieValue.packed g.P.TrieValue.unpacked in
    record {
      done : l.made.items ++ runs_by convert (drop l.index l.runs) ≡ runs_by convert l.runs;
      refused : (e : g.row.T.Denot) → refused_from convert e l.index (drop l.index l.runs) ≡ refused_from convert e 0 l.runs;
    }
