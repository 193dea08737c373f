-- Sets and steps of a term that are numbered, one behind another.
use Rattle.std.proofs.Common.{◌≡◌, ◌⊎◌, inl, inr, ℕ, Bool, List, [], ◌∷◌, ◌++◌, length, Vec, sym, ap, ◌∙◌}
use Rattle.std.specs.Prelude.{slice_get}
use Rattle.std.specs.Global.{Global}
use Rattle.std.proofs.lemmas.Option.{slice_get_within}
use Rattle.cp_terms.specs.declared.step.Step.{Step}
use Rattle.uset_grammar.specs.Tree.{Member}
use Rattle.uset_steps.specs.declared.name.Name.{Name as CodeName}
use Rattle.uset_steps.specs.declared.numbering.Numbering.{Numbering}
use Rattle.uset_steps.specs.declared.numbering.TermSet.{TermSet}
use Rattle.uset_steps.specs.declared.numbering.TermSet.TheVariants.{Named}
use Rattle.uset_steps.specs.declared.term.TermStep.{TermStep}
use Rattle.uset_steps.specs.Names.{Name, Sets, name_seen}
use Rattle.uset_steps.specs.NumberedTerms.{put_in, step_over, steps_over}
use Rattle.uset_steps.specs.Numbering.{IsNamed, AreNumbered, Tells, Grown, TakesStep}
use Rattle.uset_steps.specs.Places.{IsPlaceIn, Adds}
use Rattle.uset_steps.specs.TermSteps.{term_step}
use Rattle.uset_steps.specs.TermLaws.{steps_over-push}
use Rattle.uset_steps.proofs.ListLemmas.{get_grown, get_last}

pub same_grown : (n : Numbering) → Grown n n
same_grown n = record { numbered = λ a. a; told = λ sets m v h. h }

module _ (old new : List TermSet) (set : TermSet) (grown : new ≡ old ++ set ∷ []) where
  pub still_named : (number : ℕ) (name : Name) → IsNamed old number name → IsNamed new number name
  still_named number name (code, is, same) = (code, ap (λ all. slice_get all number) grown ∙ (get_grown old (set ∷ []) number (slice_get_within old number (Named code) is) ∙ is), same)

  pub told_before : (sets : Sets) (m : Member) (v : ℕ → Bool) → Tells sets m v new → Tells sets m v old
  told_before sets m v h number other is = h number other (ap (λ all. slice_get all number) grown ∙ (get_grown old (set ∷ []) number (slice_get_within old number other is) ∙ is))

  pub told_last : (sets : Sets) (m : Member) (v : ℕ → Bool) (number : ℕ) → number ≡ length old → Tells sets m v new → v number ≡ put_in sets set m
  told_last sets m v number at h = h number set ((λ i. slice_get (grown i) (at i)) ∙ get_last old set)

-- a name was given a number
pub name_numbered : (old new : Numbering) (code : CodeName) (number : ℕ) → number ≡ length old.term.sets.items → new.term.sets.items ≡ old.term.sets.items ++ Named code ∷ [] →
    Adds (name_seen code) number old.places new.places → AreNumbered old → AreNumbered new
name_numbered old new code number at grown adds are name i there = by (adds.others name i there)
  where
    by : IsPlaceIn old.places name i ⊎ ((name ≡ name_seen code) × (i ≡ number)) → IsNamed new.term.sets.items i name
    by (inl was) = still_named old.term.sets.items new.term.sets.items (Named code) grown i name (are name i was)
    by (inr now) = (code, (λ k. slice_get (grown k) ((now.1 ∙ at) k)) ∙ get_last old.term.sets.items (Named code), sym now.0)

-- a step was numbered behind the sets that it puts down
pub takes : (step : TermStep) (old between : Numbering) (steps : Vec Step Global) (s : Step) → Grown old between → between.term.steps ≡ old.term.steps → steps.items ≡ between.term.steps.items ++ s ∷ [] →
    (AreNumbered old → (sets : Sets) (m : Member) (v : ℕ → Bool) → Tells sets m v between.term.sets.items → (stack : List Bool) → step_over m v s stack ≡ term_step sets m step stack) →
    TakesStep step old (record { places = between.places; term = record { sets = between.term.sets; steps = steps } })
takes step old between steps s grown same more does = record {
  grown = record { numbered = λ a. grown.numbered a; told = λ sets m v h. grown.told sets m v h };
  does = λ a sets m v stack h.
      ap (λ ss. steps_over m v ss stack) (more ∙ ap (λ (ss : Vec Step Global). ss.items ++ s ∷ []) same)
      ∙ (steps_over-push m v old.term.steps.items s stack ∙ does a sets m v h (steps_over m v old.term.steps.items stack));
}
