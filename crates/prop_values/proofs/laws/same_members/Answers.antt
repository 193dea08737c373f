use Rattle.prop_values.proofs.GroupLemmas.{same_members-same_bits}
use Rattle.prop_values.proofs.laws.same_members.Goals as goal

pub returns : goal.returns
returns c = same_members-same_bits
