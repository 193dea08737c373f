use Rattle.std.proofs.Common.{sym, ap, ◌∙◌, subst}
use Rattle.std.proofs.lemmas.Result.{on_ok_weaker}
use Rattle.uset_gather.specs.Gathered.{gathered_in}
use Rattle.uset_steps.specs.Later.{later_done, LaterFits}
use Rattle.uset_steps.proofs.GatheringLemmas.{settled_as_term}
use Rattle.uset_steps.proofs.gathering.Gathering.settle.Goals as goal

pub returns-in_default-2 : goal.returns-in_default-2
returns-in_default-2 c =
    let old = c.args.self.now in
    on_ok_weaker c.put_off_first.result (settled_as_term old _ c.put_off_first.new.self c.in-Some.later c.in_ok-set.set (sym c.take.ensures.value ∙ c.in-Some.is) c.take.ensures.after
    (λ m. ap (λ g. gathered_in g m) c.replace-gathered.ensures.after ∙ c.new.ensures m)
    (λ sets fits m.
    c.in_ok-set.ensures sets (subst (LaterFits sets) (sym c.into_inner.ensures) fits) m
    ∙ (λ i. later_done sets (c.into_inner.ensures i) m (gathered_in (c.replace-gathered.ensures.value i) m)))) c.put_off_first.ensures
