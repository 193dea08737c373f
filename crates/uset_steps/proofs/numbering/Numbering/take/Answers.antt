use Rattle.std.proofs.Common.{◌∷◌, sym, ap, ◌∙◌, subst}
use Rattle.uset_gather.specs.Gathered.{gathered_in}
use Rattle.uset_steps.specs.Names.{name_seen, in_meant}
use Rattle.uset_steps.specs.Numbering.{Numbers, Grown}
use Rattle.uset_steps.specs.NumberedTerms.{step_over}
use Rattle.uset_steps.specs.TermSteps.{term_step}
use Rattle.uset_steps.proofs.NumberingLemmas.{same_grown, takes}
use Rattle.uset_steps.proofs.numbering.Numbering.take.Goals.{in-Plain+in_ok-of_gathered-in-Plain, in-Named+in_ok-of_name-in-Named, in-Both, in-Negate}
use Rattle.uset_steps.proofs.numbering.Numbering.take.Goals as goal

pub returns : goal.returns
returns c =
    let old = c.args.self.now in
    let between = c.match-step.self in
    let steps = c.push.new.self in
    let more = c.in_ok-push.ensures.items in
    elim c.match-step.branch [
      | in-Plain+in_ok-of_gathered-in-Plain w ↦ (
          let n : Numbers (λ sets. gathered_in w.into_inner.result) old between w.in_ok-of_gathered-in-Plain.field-0 = subst (λ n. Numbers (λ sets. gathered_in w.into_inner.result) old n w.in_ok-of_gathered-in-Plain.field-0) (sym w.self-is) w.in_ok-of_gathered-in-Plain.ensures in
          takes c.args.step old between steps c.match-step.step n.grown n.steps more (λ a sets m v h stack.
          ap (λ s. step_over m v s stack) w.step-is
          ∙ (ap (λ b. b ∷ stack) (n.is a sets m v h ∙ ap (λ g. gathered_in g m) w.into_inner.ensures) ∙ ap (λ s. term_step sets m s stack) (sym w.in-Plain.is))))
      | in-Named+in_ok-of_name-in-Named w ↦ (
          let n : Numbers (λ sets. in_meant sets (name_seen w.into_inner-in-Named.result)) old between w.in_ok-of_name-in-Named.field-0 = subst (λ n. Numbers (λ sets. in_meant sets (name_seen w.into_inner-in-Named.result)) old n w.in_ok-of_name-in-Named.field-0) (sym w.self-is) w.in_ok-of_name-in-Named.ensures in
          takes c.args.step old between steps c.match-step.step n.grown n.steps more (λ a sets m v h stack.
          ap (λ s. step_over m v s stack) w.step-is
          ∙ (ap (λ b. b ∷ stack) (n.is a sets m v h ∙ ap (λ name. in_meant sets (name_seen name) m) w.into_inner-in-Named.ensures) ∙ ap (λ s. term_step sets m s stack) (sym w.in-Named.is))))
      | in-Both w ↦
          takes c.args.step old between steps c.match-step.step (subst (Grown old) (sym w.self-is) (same_grown old)) (ap (λ n. n.term.steps) w.self-is) more (λ a sets m v h stack.
          ap (λ s. step_over m v s stack) w.step-is ∙ ap (λ s. term_step sets m s stack) (sym w.in-Both.is))
      | in-Negate w ↦
          takes c.args.step old between steps c.match-step.step (subst (Grown old) (sym w.self-is) (same_grown old)) (ap (λ n. n.term.steps) w.self-is) more (λ a sets m v h stack.
          ap (λ s. step_over m v s stack) w.step-is ∙ ap (λ s. term_step sets m s stack) (sym w.in-Negate.is))
    ]
