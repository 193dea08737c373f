use Rattle.std.proofs.Common.{◌∙◌}
use Rattle.uset_tool.proofs.DeviceLemmas.{Written-more}
use Rattle.uset_tool.proofs.sink.write_all.Goals as goal

pub loop-rest-preserved : goal.loop-rest-preserved
loop-rest-preserved g c = record {
  written = Written-more _ _ _ _ _ _ c.in_ok-count.count c.loop-rest.invariant.written c.in_ok-count.ensures.bytes c.split_at.ensures.back;
  counted = c.in_ok-count.ensures.counted ∙ c.loop-rest.invariant.counted;
}
