use Rattle.std.proofs.Common.{◌+◌, ◌*◌, arith}
use Rattle.cp_terms.specs.Changes.{members_of}
use Rattle.cp_terms.proofs.WindowLemmas.{windows_later}
use Rattle.cp_terms.proofs.ChangesLemmas.{before_later, tell_at}
use Rattle.cp_terms.proofs.evaluation.write_all.Goals as goal

pub loop-stretch-preserved : goal.loop-stretch-preserved
loop-stretch-preserved c =
    let place = c.loop-stretch.stretch * 0x4000 in
    let next = (c.loop-stretch.stretch + 1) * 0x4000 in
    record {
      windows_each = c.in_ok-write_stretch.ensures.windows_each;
      windows = windows_later c.args.sets.now (place + 0x4000) next c.write_stretch.new.windows (omega arith) c.in_ok-write_stretch.ensures.windows;
      before = before_later (place + 0x4000) next c.write_stretch.new.changes (omega arith) c.in_ok-write_stretch.ensures.before;
      members = λ tell. tell_at (members_of c.args.sets.now c.args.steps.now) c.write_stretch.new.changes (place + 0x4000) next (omega arith) (c.in_ok-write_stretch.ensures.members (c.loop-stretch.invariant.members tell));
    }
