use Rattle.cp_invlist.proofs.FirstFault.{IsFirstFault-fault_of, fault_of-IsFirstFault}
use Rattle.cp_invlist.proofs.laws.first_fault.Goals as goal

pub returns : goal.returns
returns c = λ xs index. (IsFirstFault-fault_of xs index, fault_of-IsFirstFault xs index)
