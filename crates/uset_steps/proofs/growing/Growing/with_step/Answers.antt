use Rattle.std.proofs.Common.{◌≡◌, Some, sym, ap, subst, ◌∙◌}
use Rattle.std.specs.Prelude.{slice_get}
use Rattle.std.proofs.lemmas.List.Elements.{All-get_or}
use Rattle.std.proofs.lemmas.Option.{slice_get-get_or}
use Rattle.std.proofs.lemmas.Result.{IfOk-weaker}
use Rattle.uset_steps.specs.Names.{IsSetOf}
use Rattle.uset_steps.specs.Steps.{with_kept}
use Rattle.uset_steps.specs.Terms.{growing_in}
use Rattle.uset_steps.proofs.growing.Growing.with_step.Goals as goal

pub returns-in-Range : goal.returns-in-Range
returns-in-Range c = rw c.in-Range.is (IfOk-weaker c.with_range.result _ _ (λ new made meant are. made meant) c.with_range.ensures)

pub returns-in-Set : goal.returns-in-Set
returns-in-Set c = rw (c.in-Set.is, ← c.into_inner-in-Set.ensures) (IfOk-weaker c.with_closed.result _ _ (λ new made meant are. made meant) c.with_closed.ensures)

pub returns-in-Some : goal.returns-in-Some
returns-in-Some c =
    let lookup = c.in-Some.ensures.lookup in
    let sets = c.args.sets.now in
    let at : slice_get sets c.in-Named.place ≡ Some c.in-Some.set.now = slice_get-get_or sets c.in-Named.place c.in-Some.set.now lookup.3.0 ∙ ap Some (sym lookup.1) in
    rw c.in-Named.is (IfOk-weaker c.with_kept.result _ _ (λ new made meant are m.
    made meant (subst (IsSetOf meant) (sym lookup.1) (All-get_or (IsSetOf meant) sets c.in-Named.place c.in-Some.set.now lookup.3.0 are)) m
    ∙ sym (ap (λ set. with_kept c.in-Named.operation set m (growing_in meant c.args.self m)) at)) c.with_kept.ensures)
