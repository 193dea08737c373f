use Rattle.cp_invlist.proofs.FirstFault.{fault_of-none, IsInversionList-faultless}
use Rattle.cp_invlist.proofs.laws.faultless.Goals as goal

pub returns : goal.returns
returns c = λ xs. (IsInversionList-faultless xs, fault_of-none xs)
