-- Which of the sets that are kept are named in the steps behind a place.
use Rattle.std.specs.Prelude.{◌≡◌, ◌⊎◌, ℕ, Bool, true, false, Some, slice_get}
use Rattle.uset_steps.specs.declared.counting.Seen.{Seen}
use Rattle.uset_steps.specs.declared.step.Step.{Step}
use Rattle.uset_steps.specs.Steps.{is_about}

-- the set is marked, for what it has or for what it lacks
abbrev pub IsSeen : Seen → Bool → ℕ → Type 0
IsSeen seen false place = slice_get seen.inside.items place ≡ Some true
IsSeen seen true place = slice_get seen.outside.items place ≡ Some true

-- a step behind is about the same set, on the same side
abbrev pub IsRepeated : Seen → Step → Type 0
IsRepeated seen step = (outside : Bool) × (place : ℕ) × (is_about outside place step ≡ true) × IsSeen seen outside place

-- no more is marked than before, but for what the step is about
abbrev pub MarksOnly : Seen → Step → Seen → Type 0
MarksOnly old step new =
    (outside : Bool) (place : ℕ) → IsSeen new outside place →
    IsSeen old outside place ⊎ (is_about outside place step ≡ true)
