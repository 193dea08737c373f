use Rattle.std.proofs.Common.{arith}
use Rattle.cp_invlist.proofs.HeldLemmas.{held_from}
use Rattle.cp_invlist.proofs.laws.ranges_hold_members.Goals as goal

pub returns : goal.returns
returns c = λ m rs maximal n. held_from m 0 rs maximal n (omega arith)
