use Rattle.std.proofs.Common.{append_assoc}
use Rattle.prop_query.proofs.value.unpacked.Goals as goal

pub loop-run-preserved : goal.loop-run-preserved
loop-run-preserved g c =
    let inv = c.loop-run.invariant in
    record {
      can_next = c.in-Some.ensures.goes.keeps;
      is_finite = (c.in-Some.ensures.goes.on inv.is_finite).1;
      accepted = (rw c.in-Some.ensures.steps at inv.accepted).1;
      done = rw (c.in_ok-push.ensures.items, append_assoc) (rw (c.in-Some.ensures.steps, c.value_of.ensures) at inv.done);
    }
