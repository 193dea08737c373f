use Rattle.std.proofs.Common.{arith, rules}
use Rattle.uset_tool.proofs.DeviceLemmas.{too_long, refused_front, stops_refused}
use Rattle.uset_tool.proofs.input.read_input.Goals as goal

pub returns-clause-stopped : goal.returns-clause-stopped
returns-clause-stopped g c = too_long _ _ _ c.loop-buffer.invariant.taken (omega arith) (omega (arith, c.loop-buffer.invariant.within))

pub returns-in_err-extend_from_slice-clause-stopped : goal.returns-in_err-extend_from_slice-clause-stopped
returns-in_err-extend_from_slice-clause-stopped g c =
    stops_refused _ _ _ c.from_residual-in_err-extend_from_slice.ensures.1
    (refused_front _ _ _ _ _ _ c.loop-buffer.invariant.taken c.in_ok-count.ensures.bytes (search rules))
