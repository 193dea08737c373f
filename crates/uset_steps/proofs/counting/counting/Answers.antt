use Rattle.std.proofs.Common.{◌++◌, ap, sym, ◌∙◌, reverse}
use Rattle.std.proofs.lemmas.Bool.{OnTrue_at}
use Rattle.uset_steps.specs.Steps.{steps_done}
use Rattle.uset_steps.specs.Seen.{IsSeen, IsRepeated}
use Rattle.uset_steps.proofs.StepsLemmas.{passed_over, about_again}
use Rattle.uset_steps.proofs.counting.counting.Goals as goal

pub loop-step-preserved : goal.loop-step-preserved
loop-step-preserved c =
    let kept = c.loop-step.kept.items in
    let before : IsRepeated c.loop-step.seen c.in-Some.step = OnTrue_at c.if-not-note.false c.note.ensures.before in (
      λ meant sets m b.
          passed_over meant sets c.pop.new.self.items kept c.in-Some.step before.0 before.1 m b before.2 (c.loop-step.invariant.1 before.0 before.1 before.3)
          ∙ (ap (λ ss. steps_done meant sets (ss ++ reverse kept) m b) (sym c.in-Some.ensures.items) ∙ c.loop-step.invariant.0 meant sets m b),
      λ outside place seen.
          c.loop-step.invariant.1 outside place
          (about_again c.in-Some.step outside before.0 place before.1 (IsSeen c.loop-step.seen) before.2 before.3 (c.note.ensures.marked outside place seen)),
    )
