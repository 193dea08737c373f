use Rattle.std.proofs.Common.{arith}
use Rattle.uset_tool.proofs.GeneratedPatterns.{one_written}
use Rattle.uset_tool.proofs.generator.pattern_of.Goals as goal

pub loop-place-preserved : goal.loop-place-preserved
loop-place-preserved c =
    one_written _ _ _ c.args.number.value c.loop-place.place c.loop-place.x c.next-x.result (omega arith) c.loop-place.invariant c.next-x.ensures c.in_ok-push_element.ensures
