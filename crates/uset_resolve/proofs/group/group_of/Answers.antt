use Rattle.std.proofs.Common.{arith}
use Rattle.uset_resolve.proofs.GroupLemmas.{unpacked-bits}
use Rattle.uset_resolve.proofs.group.group_of.Goals as goal

pub returns : goal.returns
returns c = unpacked-bits c.args.number c.in-Ok.group (omega arith) (rw c.from.ensures at c.in-Ok.ensures)
