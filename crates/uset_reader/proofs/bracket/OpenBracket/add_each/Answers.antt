use Rattle.std.proofs.Common.{suc, arith}
use Rattle.uset_reader.proofs.BracketLemmas.{becomes_next, keeps_then}
use Rattle.uset_reader.proofs.bracket.OpenBracket.add_each.Goals as goal

pub add-requires-in-loop-number : goal.add-requires-in-loop-number
add-requires-in-loop-number c = c.requires (suc c.loop-number.number-index) 0 (omega (arith, c.loop-number-test.true))

pub loop-number-preserved : goal.loop-number-preserved
loop-number-preserved c = (
  becomes_next _ _ _ c.args.first c.args.more.now c.loop-number.number-index 0 c.loop-number-test.true c.loop-number.invariant.0 c.in_ok-add-2.ensures.becomes,
  keeps_then _ _ _ c.loop-number.invariant.1 c.add-in-loop-number.ensures.same,
)
