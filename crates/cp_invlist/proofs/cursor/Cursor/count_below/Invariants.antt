use Rattle.std.proofs.Common.{◌<◌, take, All}
use Rattle.cp_invlist.proofs.cursor.Cursor.count_below.Given as goal

abbrev pub invariant-loop-index : goal.invariant-loop-index
invariant-loop-index l = All (λ x. x < l.number) (take l.index l.self.rest.now)
