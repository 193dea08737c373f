-- What the steps that are put off make of a set, and the sets that they name.
use Rattle.std.specs.Prelude.{◌≡◌, ℕ, Bool, All, List, ◌++◌, Some, length, slice_get}
use Rattle.uset_grammar.specs.Tree.{Member}
use Rattle.uset_steps.specs.declared.later.Later.{Later}
use Rattle.uset_steps.specs.declared.step.Operation.{Operation}
use Rattle.uset_steps.specs.declared.named_set.Named.{Named}
use Rattle.uset_steps.specs.Names.{Name, Sets, name_seen, named_in, StandsFor, IsSetOf}
use Rattle.uset_steps.specs.Places.{IsPlaceIn}
use Rattle.uset_steps.specs.Operations.{operated}
use Rattle.uset_steps.specs.Steps.{steps_done, AreWithin}

-- whether something is a member once the steps are done that were put off, by whether it was one
abbrev pub later_done : Sets → Later → Member → Bool → Bool
later_done sets later m b = steps_done sets later.sets.items later.steps.items m b

-- the set that is kept at the place is the one that the name stands for
abbrev pub IsKeptAt : Sets → List Named → Name → ℕ → Type 0
IsKeptAt sets kept name place =
    (named : Named) × (slice_get kept place ≡ Some named) × StandsFor sets name (named_in named.set)

-- Each set that is kept is the one that its name stands for.
abbrev pub KeptFit : Sets → Later → Type 0
KeptFit sets later =
    (name : Name) (place : ℕ) → IsPlaceIn later.places name place → IsKeptAt sets later.sets.items name place

-- the same, by their places and by their own names, and the steps name no set but those that are kept
pub record LaterFits (sets : Sets) (later : Later) : Type 0 where
  pub kept : KeptFit sets later
  pub own : All (IsSetOf sets) later.sets.items
  pub within : AreWithin (length later.sets.items) later.steps.items

-- The steps make what they made, and each set that is kept is still the one that its name stands for.
pub record Stays (old new : Later) : Type 0 where
  pub members : (sets : Sets) (m : Member) (b : Bool) → later_done sets new m b ≡ later_done sets old m b
  pub fits : (sets : Sets) → LaterFits sets old → LaterFits sets new

-- The set that the name stands for is kept at this place, and all sets that were kept stand where they did.
pub record IsKept (sets : Sets) (name : Name) (old new : Later) (place : ℕ) : Type 0 where
  pub more : List Named
  pub grown : new.sets.items ≡ old.sets.items ++ more
  pub fits : KeptFit sets old → KeptFit sets new
  pub own : All (IsSetOf sets) more
  pub set : KeptFit sets old → IsKeptAt sets new.sets.items name place

-- the named set is kept, whatever its name stands for where that is this set
abbrev pub Keeps : Named → Later → Later → ℕ → Type 0
Keeps named old new place = (sets : Sets) → IsSetOf sets named → IsKept sets (name_seen named.name) old new place

-- the set was gathered last
pub record Gathers (sets : Sets) (operation : Operation) (set : Member → Bool) (old new : Later) : Type 0 where
  pub members : (m : Member) (b : Bool) → later_done sets new m b ≡ operated operation (set m) (later_done sets old m b)
  pub fits : LaterFits sets new

-- the named set was gathered last, where its name and those of the sets that were kept stand for them
abbrev pub GathersNamed : Operation → Named → Later → Later → Type 0
GathersNamed operation named old new =
    (sets : Sets) → LaterFits sets old → IsSetOf sets named → Gathers sets operation (named_in named.set) old new

-- the same of the set that is kept at a place
abbrev pub GathersAgain : Operation → ℕ → Later → Later → Type 0
GathersAgain operation place old new =
    (sets : Sets) (name : Name) (set : Member → Bool) → LaterFits sets old → IsPlaceIn old.places name place →
    StandsFor sets name set → Gathers sets operation set old new
