use Rattle.cp_strset.proofs.OneList.{one_list_law}
use Rattle.cp_strset.proofs.laws.one_list.Goals as goal

pub returns : goal.returns
returns c = one_list_law
