use Rattle.std.proofs.Common.{◌≡◌, drop}
use Rattle.cp_invlist.specs.Fault.{first_out_of_order}
use Rattle.cp_invlist.proofs.set.find_fault.Given as goal

abbrev pub invariant-loop-index : goal.invariant-loop-index
invariant-loop-index l = first_out_of_order 0 0 l.list ≡ first_out_of_order l.low l.index (drop l.index l.list)
