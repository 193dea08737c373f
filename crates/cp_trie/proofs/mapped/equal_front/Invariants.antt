use Rattle.std.proofs.Common.{ℕ, ◌<◌, true, get_or}
use Rattle.cp_trie.specs.Mapped.{AnswersWith}
use Rattle.cp_trie.specs.declared.ranges.CodePointMapRange.{CodePointMapRange}
use Rattle.cp_trie.proofs.mapped.equal_front.Given as goal

-- the runs before this one have answers equal to the value
abbrev pub invariant-loop-index : goal.invariant-loop-index
invariant-loop-index g l =
    (k : ℕ) (d : CodePointMapRange g.row.T.Denot) → k < l.index → AnswersWith (goal.F-post g l.map) (g.U.PartialEq.eq l.value) true (get_or l.runs k d).value
