-- What is known of the candidates of the sets on a stack.
use Rattle.std.specs.Prelude.{◌≡◌, ◌≤◌, ℕ, Bool, true, List, [], ◌∷◌, length, take, drop, reverse, ⊤}
use Rattle.std.specs.List.{list_any}
use Rattle.cp_terms.specs.declared.step.Step.{Step}
use Rattle.cp_terms.specs.Terms.{step_done, steps_done}
use Rattle.cp_strset_terms.specs.declared.candidates.Sources.{Sources}
use Rattle.cp_strset_terms.specs.declared.candidates.Source.{Source}
use Rattle.cp_strset_terms.specs.declared.leaf.Leaf.{Leaf}
use Rattle.cp_strset_terms.specs.Leaves.{leaf_holds}
use Rattle.cp_strset_terms.specs.Steps.{without_complement, without_complements}

-- the candidates of the set on top end the indices, and those of each other set stand right before
abbrev pub AreStacked : List ℕ → List Source → Type 0
AreStacked indices [] = ⊤
AreStacked indices (set ∷ sets) = (set.start ≤ length indices) × AreStacked (take set.start indices) sets

abbrev pub IsStacked : Sources → Type 0
IsStacked sources = AreStacked sources.indices.items (reverse sources.stack.items)

-- the same with two sets that were taken from the stack, the upper first
abbrev pub IsStackedUnderBoth : Source → Source → Sources → Type 0
IsStackedUnderBoth upper lower sources =
    AreStacked sources.indices.items (upper ∷ lower ∷ reverse sources.stack.items)

-- Where a set has a string, so has one of its candidates. The truth values say which leaves and which sets have it, the
-- set on top first.
abbrev pub AreCovered : (ℕ → Bool) → List ℕ → List Source → List Bool → Type 0
AreCovered v indices [] [] = ⊤
AreCovered v indices [] (b ∷ stack) = ⊥
AreCovered v indices (set ∷ sets) [] = ⊥
AreCovered v indices (set ∷ sets) (b ∷ stack) =
    (set.start ≤ length indices) × (b ≡ true → list_any v (drop set.start indices) ≡ true)
    × AreCovered v (take set.start indices) sets stack

abbrev pub Covers : (ℕ → Bool) → Sources → List Bool → Type 0
Covers v sources stack = AreCovered v sources.indices.items (reverse sources.stack.items) stack

abbrev pub CoversUnderBoth : (ℕ → Bool) → Source → Source → Sources → List Bool → Type 0
CoversUnderBoth v upper lower sources stack =
    AreCovered v sources.indices.items (upper ∷ lower ∷ reverse sources.stack.items) stack

-- where the old candidates cover the sets of a stack, the new ones cover those behind the step
abbrev pub FollowsStep : List Leaf → Step → Sources → Sources → Type 0
FollowsStep leaves step old new = (bytes : List ℕ) (stack : List Bool) → Covers (leaf_holds leaves bytes) old stack →
    Covers (leaf_holds leaves bytes) new (step_done (leaf_holds leaves bytes) (without_complement step) stack)

-- the candidates cover the sets that the steps leave
abbrev pub CoversTerm : List Leaf → List Step → Sources → Type 0
CoversTerm leaves steps sources = (bytes : List ℕ) →
    Covers (leaf_holds leaves bytes) sources (steps_done (leaf_holds leaves bytes) (without_complements steps) [])
