-- What keeps the candidates of the sets on a stack in step with the term.
use Rattle.std.proofs.Common.{◌≡◌, ◌≤◌, ◌<◌, ◌+◌, ◌||◌, not, ℕ, All, Bool, true, false, Some, List, [], ◌∷◌, ◌++◌, length, take, drop, get_or, reverse, refl, sym, subst, ap, ◌∙◌, arith, inl, inr}
use Rattle.std.proofs.Math.Bool.{or-true}
use Rattle.std.proofs.Math.ListN.{set, length-set}
use Rattle.std.proofs.lemmas.Bool.{and_parts}
use Rattle.std.proofs.lemmas.Bool.Decides.{eqb_tells}
use Rattle.std.proofs.lemmas.List.{take-append-drop, take-take, take_more, drop-append-le, length-take-le, map-append, reverse-append, get_or-set_same, get_or-set_other}
use Rattle.std.proofs.lemmas.List.Elements.{All-more, All-weaker}
use Rattle.std.proofs.lemmas.List.Folds.{list_any-append, Any-from_list_any}
use Rattle.std.proofs.lemmas.Option.{slice_get_within, slice_get-get_or, get_or_from_slice_get}
use Rattle.std.specs.List.{list_any, slice_get}
use Rattle.cp_terms.specs.declared.step.SetOperation.{SetOperation}
use Rattle.cp_terms.specs.declared.step.SetOperation.TheVariants.{Union, Difference, ReverseDifference}
use Rattle.cp_terms.specs.declared.step.Step.{Step}
use Rattle.cp_terms.specs.declared.step.Step.TheVariants.{Push}
use Rattle.cp_terms.specs.TermLaws.{steps_done-append}
use Rattle.cp_terms.specs.Terms.{combined, step_done, steps_done}
use Rattle.cp_strset_terms.specs.declared.candidates.Source.{Source}
use Rattle.cp_strset_terms.specs.declared.leaf.Leaf.{Leaf}
use Rattle.cp_strset_terms.specs.Candidates.{AreStacked, AreCovered}
use Rattle.cp_strset_terms.specs.Leaves.{leaf_holds}
use Rattle.cp_strset_terms.proofs.LeavesLemmas.{leaf_holds-within}
use Rattle.cp_strset_terms.specs.Steps.{without_complement, without_complements}

-- candidates that cover the sets of a stack are stacked
pub stacked_where_covered : (v : ℕ → Bool) (indices : List ℕ) (sets : List Source) (stack : List Bool) → AreCovered v indices sets stack → AreStacked indices sets
stacked_where_covered v indices [] stack h = tt
stacked_where_covered v indices (set ∷ sets) [] h = absurd h
stacked_where_covered v indices (set ∷ sets) (b ∷ stack) h = (h.0, stacked_where_covered v (take set.start indices) sets stack h.2)

-- what is pushed comes first from the last on
pub reverse-push : {X : Type 0} → (xs ys : List X) (x : X) → xs ≡ ys ++ x ∷ [] → reverse xs ≡ x ∷ reverse ys
reverse-push xs ys x is = ap reverse is ∙ reverse-append ys (x ∷ [])

either_of : (a b x y : Bool) → (a ≡ true → x ≡ true) → (b ≡ true → y ≡ true) → (a || b) ≡ true → (x || y) ≡ true
either_of true b x y h k e = ap (λ z. z || y) (h refl)
either_of false true x y h k e = ap (λ z. x || z) (k refl) ∙ or-true x
either_of false false x y h k e = cc

-- what comes from a place on is what does so up to a later one, and what comes from there on
list_any-parts : (v : ℕ → Bool) (indices : List ℕ) (low high : ℕ) → low ≤ length (take high indices) →
    (list_any v (drop low (take high indices)) || list_any v (drop high indices)) ≡ list_any v (drop low indices)
list_any-parts v indices low high within =
    sym (list_any-append v (drop low (take high indices)) (drop high indices))
    ∙ (ap (list_any v) (sym (drop-append-le low (take high indices) (drop high indices) within))
    ∙ ap (λ l. list_any v (drop low l)) (take-append-drop high indices))

-- the candidates of two sets cover what either has
pub covered_joined : (v : ℕ → Bool) (indices : List ℕ) (upper lower joined : Source) (sets : List Source) (a b c : Bool) (stack : List Bool) → joined.start ≡ lower.start →
    AreCovered v indices (upper ∷ lower ∷ sets) (b ∷ a ∷ stack) → (c ≡ true → (a || b) ≡ true) → AreCovered v indices (joined ∷ sets) (c ∷ stack)
covered_joined v indices upper lower joined sets a b c stack same h either =
    let within : lower.start ≤ upper.start = omega (arith, h.2.0, length-take-le upper.start indices h.0) in
    let front : take lower.start (take upper.start indices) ≡ take joined.start indices =
    take-take lower.start upper.start indices within ∙ ap (λ n. take n indices) (sym same) in (
      omega (arith, within, h.0),
      λ e. ap (λ n. list_any v (drop n indices)) same
          ∙ (sym (list_any-parts v indices lower.start upper.start h.2.0)
          ∙ either_of a b (list_any v (drop lower.start (take upper.start indices))) (list_any v (drop upper.start indices)) h.2.1 h.1 (either e)),
      subst (λ l. AreCovered v l sets stack) front h.2.2,
    )

-- what is made of two sets has no more than these
pub combined_union : (operation : SetOperation) (a b : Bool) → operation ≡ Union → combined operation a b ≡ true → (a || b) ≡ true
combined_union operation a b is h = ap (λ w. combined w a b) (sym is) ∙ h

pub combined_difference : (operation : SetOperation) (a b : Bool) → operation ≡ Difference → combined operation a b ≡ true → a ≡ true
combined_difference operation a b is h = (and_parts a (not b) (ap (λ w. combined w a b) (sym is) ∙ h)).0

pub combined_reverse_difference : (operation : SetOperation) (a b : Bool) → operation ≡ ReverseDifference → combined operation a b ≡ true → b ≡ true
combined_reverse_difference operation a b is h = (and_parts b (not a) (ap (λ w. combined w a b) (sym is) ∙ h)).0

-- one step more
pub steps_done-more : (v : ℕ → Bool) (ss : List Step) (i : ℕ) → i < length ss →
    step_done v (without_complement (get_or ss i (Push 0))) (steps_done v (without_complements (take i ss)) []) ≡ steps_done v (without_complements (take (i + 1) ss)) []
steps_done-more v ss i within =
    let step = get_or ss i (Push 0) in
    sym (steps_done-append v (without_complements (take i ss)) (without_complement step ∷ []) [])
    ∙ ap (λ l. steps_done v l []) (sym (ap without_complements (take_more ss i (Push 0) within) ∙ map-append without_complement (take i ss) (step ∷ [])))

-- one of the leaves that indices name has the string, and is marked
pub one_marked : (leaves : List Leaf) (bytes : List ℕ) (indices : List ℕ) (marks : List Bool) → All (λ index. index < length leaves → slice_get marks index ≡ Some true) indices →
    list_any (leaf_holds leaves bytes) indices ≡ true → (index : ℕ) × (slice_get marks index ≡ Some true) × (leaf_holds leaves bytes index ≡ true)
one_marked leaves bytes indices marks marked h =
    let one = Any-from_list_any (leaf_holds leaves bytes) indices h in
    let held = one.4 in
    (one.1, subst (λ i. i < length leaves → slice_get marks i ≡ Some true) one.3 (marked one.0 one.1 one.2) (leaf_holds-within leaves bytes one.1 held), held)

marked_here : (marks : List Bool) (index : ℕ) → index < length marks → slice_get (set marks index true) index ≡ Some true
marked_here marks index within = slice_get-get_or (set marks index true) index false (omega (arith, length-set marks index true)) ∙ ap Some (get_or-set_same marks index true false within)

marked_still : (marks : List Bool) (at index : ℕ) → at < length marks → slice_get marks index ≡ Some true → slice_get (set marks at true) index ≡ Some true
marked_still marks at index within marked =
    let below = slice_get_within marks index true marked in
    elim (eqb_tells index at) [
      | inl equal ↦ subst (λ k. slice_get (set marks at true) k ≡ Some true) (sym equal.1) (marked_here marks at within)
      | inr apart ↦
          slice_get-get_or (set marks at true) index false (omega (arith, below, length-set marks at true))
          ∙ ap Some (get_or-set_other marks at index true false apart.1 ∙ get_or_from_slice_get marks index true false marked)
    ]

-- one index more is marked
pub marks_more : (marks : List Bool) (indices : List ℕ) (place count : ℕ) → place < length indices → length marks ≡ count → get_or indices place 0 < count →
    All (λ index. index < count → slice_get marks index ≡ Some true) (take place indices) →
    All (λ index. index < count → slice_get (set marks (get_or indices place 0) true) index ≡ Some true) (take (place + 1) indices)
marks_more marks indices place count within each new before =
    let at = get_or indices place 0 in
    All-more (λ index. index < count → slice_get (set marks at true) index ≡ Some true) indices place 0 within
    (All-weaker (λ index. index < count → slice_get marks index ≡ Some true) (λ index. index < count → slice_get (set marks at true) index ≡ Some true)
    (λ index marked below. marked_still marks at index (omega arith) (marked below)) (take place indices) before)
    (λ below. marked_here marks at (omega arith))
