use Rattle.std.proofs.Common.{[], ◌∷◌, ◌++◌, sym, ap, ◌∙◌, append_assoc}
use Rattle.std.proofs.lemmas.List.{append-nil, nil_from_length}
use Rattle.cp_terms.specs.Terms.{top}
use Rattle.uset_steps.specs.NumberedTerms.{some_put_in, has_at, numbered_in}
use Rattle.uset_steps.specs.TermSteps.{term_step, term_steps}
use Rattle.uset_steps.proofs.TermLemmas.{steps_append}
use Rattle.uset_steps.proofs.term.Term.into_numbered.Goals as goal

pub loop-step-preserved : goal.loop-step-preserved
loop-step-preserved c =
    let taken = c.in_ok-take.ensures in (
      append_assoc c.loop-step.yielded (c.in-Some.step ∷ []) c.next.new.self.rest.items ∙ (sym (ap (λ ss. c.loop-step.yielded ++ ss) c.in-Some.ensures.steps.0) ∙ c.loop-step.invariant.0),
      taken.grown.numbered c.loop-step.invariant.1,
      λ sets m v h.
          taken.does c.loop-step.invariant.1 sets m v [] h
          ∙ (ap (term_step sets m c.in-Some.step) (c.loop-step.invariant.2 sets m v (taken.grown.told sets m v h)) ∙ sym (steps_append sets m c.loop-step.yielded (c.in-Some.step ∷ []) [])),
    )

pub returns : goal.returns
returns c = λ sets m.
    let term = c.loop-step.numbering.term in
    let rest = c.loop-step.step-iterator.rest in
    let none = nil_from_length rest.items (sym rest.ok.0 ∙ c.in-None.ensures.steps.0) in
    let whole = sym (append-nil c.loop-step.yielded) ∙ (ap (λ ss. c.loop-step.yielded ++ ss) (sym none) ∙ c.loop-step.invariant.0) in
    ap (λ t. numbered_in sets t m) c.into_term.ensures
    ∙ ap top (c.loop-step.invariant.2 sets m (has_at sets term.sets.items m) (λ number set is. ap (λ o. some_put_in sets o m) is) ∙ ap (λ ss. term_steps sets m ss []) whole)
