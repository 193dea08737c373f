use Rattle.std.proofs.Common.{◌≡◌, take}
use Rattle.std.specs.Prelude.{IsTrue}
use Rattle.cp_trie.proofs.rows.are_equal.Given as goal

-- where none differed so far, the parts that were looked at are the same
abbrev pub invariant-loop-index : goal.invariant-loop-index
invariant-loop-index g l = IsTrue l.equal → take l.index l.row ≡ take l.index l.other
