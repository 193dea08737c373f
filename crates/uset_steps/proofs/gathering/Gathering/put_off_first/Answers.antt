use Rattle.std.proofs.Common.{sym, ap, ◌∙◌, subst}
use Rattle.uset_gather.specs.Gathered.{gathered_in}
use Rattle.uset_steps.specs.Gathering.{behind}
use Rattle.uset_steps.specs.Later.{later_done, LaterFits}
use Rattle.uset_steps.specs.Operations.{operated}
use Rattle.uset_steps.specs.Terms.{closed_in}
use Rattle.uset_steps.proofs.gathering.Gathering.put_off_first.Goals as goal

pub returns : goal.returns
returns c =
    let old = c.args.self.now in
    let made = c.in_ok-later.ensures.ok in
    λ sets fits. record {
      has = λ m.
          (rw c.deref_mut.ensures.value at c.in_ok-put_off_set.ensures.members) sets m (gathered_in old.gathered m)
          ∙ ap (operated c.args.operation (closed_in sets c.args.set m))
          ((ap (λ later. later_done sets later m (gathered_in old.gathered m)) made ∙ c.new.ensures.members sets m (gathered_in old.gathered m))
          ∙ sym (ap (λ later. behind sets later m (gathered_in old.gathered m)) c.requires));
      fits =
          (rw c.deref_mut.ensures.value at c.in_ok-put_off_set.ensures.names) sets (subst (LaterFits sets) (sym made) (c.new.ensures.names sets));
    }
