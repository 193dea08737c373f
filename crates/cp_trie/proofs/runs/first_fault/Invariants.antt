use Rattle.std.proofs.Common.{◌≡◌, ◌≤◌, drop}
use Rattle.cp_trie.specs.Faults.{fault_from}
use Rattle.cp_trie.proofs.runs.first_fault.Given as goal

-- the first fault of the rest is that of all runs
abbrev pub invariant-loop-index : goal.invariant-loop-index
invariant-loop-index g l =
    (l.next ≤ 0x11_0000) × (fault_from l.index l.next (drop l.index l.runs) ≡ fault_from 0 0 l.fn.runs)
