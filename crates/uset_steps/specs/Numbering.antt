-- The numbers of the sets of a term.
use Rattle.std.specs.Prelude.{◌≡◌, ℕ, Bool, List, Some, slice_get}
use Rattle.uset_grammar.specs.Tree.{Member}
use Rattle.uset_steps.specs.declared.name.Name.{Name as CodeName}
use Rattle.uset_steps.specs.declared.numbering.Numbering.{Numbering}
use Rattle.uset_steps.specs.declared.numbering.TermSet.{TermSet}
use Rattle.uset_steps.specs.declared.numbering.TermSet.TheVariants.{Named}
use Rattle.uset_steps.specs.declared.term.TermStep.{TermStep}
use Rattle.uset_steps.specs.Names.{Name, Sets, name_seen}
use Rattle.uset_steps.specs.Places.{IsPlaceIn}
use Rattle.uset_steps.specs.NumberedTerms.{put_in, steps_over}
use Rattle.uset_steps.specs.TermSteps.{term_step}

-- the set with the number is the one with this name
abbrev pub IsNamed : List TermSet → ℕ → Name → Type 0
IsNamed all number name = (code : CodeName) × (slice_get all number ≡ Some (Named code)) × (name_seen code ≡ name)

-- Each name that has a number is that of the set with it.
abbrev pub AreNumbered : Numbering → Type 0
AreNumbered n = (name : Name) (number : ℕ) → IsPlaceIn n.places name number → IsNamed n.term.sets.items number name

-- the truth values say of each set that has a number whether it has the member
abbrev pub Tells : Sets → Member → (ℕ → Bool) → List TermSet → Type 0
Tells sets m v all = (number : ℕ) (set : TermSet) → slice_get all number ≡ Some set → v number ≡ put_in sets set m

-- no number was lost or given to another set
pub record Grown (old new : Numbering) : Type 0 where
  pub numbered : AreNumbered old → AreNumbered new
  pub told : (sets : Sets) (m : Member) (v : ℕ → Bool) → Tells sets m v new.term.sets.items → Tells sets m v old.term.sets.items

-- the number is that of a set which has these members
pub record Numbers (members : Sets → Member → Bool) (old new : Numbering) (number : ℕ) : Type 0 where
  pub grown : Grown old new
  pub steps : new.term.steps ≡ old.term.steps
  pub is : AreNumbered old → (sets : Sets) (m : Member) (v : ℕ → Bool) → Tells sets m v new.term.sets.items →
      v number ≡ members sets m

-- the step was numbered behind the others
pub record TakesStep (step : TermStep) (old new : Numbering) : Type 0 where
  pub grown : Grown old new
  pub does : AreNumbered old → (sets : Sets) (m : Member) (v : ℕ → Bool) (stack : List Bool) →
      Tells sets m v new.term.sets.items →
      steps_over m v new.term.steps.items stack ≡ term_step sets m step (steps_over m v old.term.steps.items stack)
