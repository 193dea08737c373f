-- What the steps of a term make of a stack of sets. Each set is seen as a truth value: whether it has one code point.
use Rattle.std.specs.Prelude.{ℕ, zero, suc, Bool, false, not, ◌&&◌, ◌||◌, List, [], ◌∷◌}
use Rattle.cp_invlist.specs.InversionList.{contains}
use Rattle.cp_terms.specs.declared.step.SetOperation.{SetOperation}
use Rattle.cp_terms.specs.declared.step.SetOperation.TheVariants.{Union, Difference, Intersection, ReverseDifference}
use Rattle.cp_terms.specs.declared.step.Step.{Step}
use Rattle.cp_terms.specs.declared.step.Step.TheVariants.{Push, Both, Complement, Clear}

-- whether the set that is made of two has the member, by whether the lower and the upper have it
abbrev pub combined : SetOperation → Bool → Bool → Bool
combined Union lower upper = lower || upper
combined Difference lower upper = lower && not upper
combined Intersection lower upper = lower && upper
combined ReverseDifference lower upper = upper && not lower

-- one set is made of the two on top, where there are so many
abbrev pub both_done : SetOperation → List Bool → List Bool
both_done operation [] = []
both_done operation (upper ∷ []) = upper ∷ []
both_done operation (upper ∷ lower ∷ stack) = combined operation lower upper ∷ stack

-- the set on top is complemented, where there is one
abbrev pub complement_done : List Bool → List Bool
complement_done [] = []
complement_done (b ∷ stack) = not b ∷ stack

-- the set on top is emptied, where there is one
abbrev pub clear_done : List Bool → List Bool
clear_done [] = []
clear_done (b ∷ stack) = false ∷ stack

-- the stack behind a step, by which of the sets that are given have the member
abbrev pub step_done : (ℕ → Bool) → Step → List Bool → List Bool
step_done v (Push index) stack = v index ∷ stack
step_done v (Both operation) stack = both_done operation stack
step_done v Complement stack = complement_done stack
step_done v Clear stack = clear_done stack

-- the stack behind all steps, from left to right
abbrev pub steps_done : (ℕ → Bool) → List Step → List Bool → List Bool
steps_done v [] stack = stack
steps_done v (s ∷ ss) stack = steps_done v ss (step_done v s stack)

-- whether the set on top has the member, which no set has where there is none
abbrev pub top : List Bool → Bool
top [] = false
top (b ∷ stack) = b

-- whether the set that the steps make has the member
abbrev pub value_of : (ℕ → Bool) → List Step → Bool
value_of v ss = top (steps_done v ss [])

-- whether the list with the index contains the code point, which no list does where there is none
abbrev pub holds_at : List (List ℕ) → ℕ → ℕ → Bool
holds_at [] c index = false
holds_at (xs ∷ lists) c zero = contains xs c
holds_at (xs ∷ lists) c (suc index) = holds_at lists c index
