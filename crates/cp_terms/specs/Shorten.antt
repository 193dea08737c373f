-- What a shortened term keeps of a term.
use Rattle.std.specs.Prelude.{◌≡◌, ℕ, ◌<◌, ◌≤◌, Bool, true, false, if◌then◌else◌, Option, None, Some, List, [], ◌∷◌, take, length, reverse, slice_get, ⊤}
use Rattle.cp_terms.specs.declared.step.Step.{Step}
use Rattle.cp_terms.specs.declared.shorten.Part.{Part}
use Rattle.cp_terms.specs.declared.shorten.Part.TheVariants.{Empty, Full, Mixed}
use Rattle.cp_terms.specs.declared.shorten.Shortened.{Shortened}
use Rattle.cp_invlist.specs.declared.window.Window.{Window}
use Rattle.cp_terms.specs.Terms.{steps_done}
use Rattle.cp_invlist.specs.Windows.{is_inside}

-- a set that doesn't change before the end has the member as its window says, one that does as the second valuation says
abbrev pub AgreesAt : Option Window → ℕ → Bool → Bool → Type 0
AgreesAt None end a b = a ≡ false
AgreesAt (Some window) end a b = (end ≤ window.next → a ≡ is_inside window) × (window.next < end → a ≡ b)

-- two valuations, of all sets and of those that change before the end
pub record Agree (windows : List Window) (end : ℕ) (v w : ℕ → Bool) : Type 0 where
  pub at : (i : ℕ) → AgreesAt (slice_get windows i) end (v i) (w i)

-- The sets on the stack are known, the one on top first: constant ones by themselves, and each other is made by the last steps.
abbrev pub Fits : (ℕ → Bool) → List Step → List Part → List Bool → Type 0
Fits w ss [] [] = ⊤
Fits w ss [] (b ∷ stack) = ⊥
Fits w ss (part ∷ parts) [] = ⊥
Fits w ss (Empty ∷ parts) (b ∷ stack) = (b ≡ false) × Fits w ss parts stack
Fits w ss (Full ∷ parts) (b ∷ stack) = (b ≡ true) × Fits w ss parts stack
Fits w ss (Mixed start ∷ parts) (b ∷ stack) =
    (start ≤ length ss) × (steps_done w ss [] ≡ b ∷ steps_done w (take start ss) []) × Fits w (take start ss) parts stack

abbrev pub FitsTerm : (ℕ → Bool) → Shortened → List Bool → Type 0
FitsTerm w term stack = Fits w term.steps.items (reverse term.stack.items) stack

-- the same with a set that was taken from the stack
abbrev pub FitsUnder : (ℕ → Bool) → Part → Shortened → List Bool → Type 0
FitsUnder w part term stack = Fits w term.steps.items (part ∷ reverse term.stack.items) stack

-- the same with two, the upper first
abbrev pub FitsUnderBoth : (ℕ → Bool) → Part → Part → Shortened → List Bool → Type 0
FitsUnderBoth w upper lower term stack = Fits w term.steps.items (upper ∷ lower ∷ reverse term.stack.items) stack

-- what becomes of a set by what becomes of its members and of others
abbrev pub changed : Bool → Bool → Bool → Bool
changed at_member at_other b = if b then at_member else at_other

abbrev pub changed_top : Bool → Bool → List Bool → List Bool
changed_top at_member at_other [] = []
changed_top at_member at_other (b ∷ stack) = changed at_member at_other b ∷ stack
