-- What the definitions of terms compute to.
use Rattle.std.proofs.Common.{◌≡◌, ℕ, zero, suc, ◌≤◌, Bool, false, Option, Some, None, List, [], ◌∷◌, refl, sym, ap, ◌∙◌, map, Bor, ◌+◌, ◌<◌, take, get_or}
use Rattle.std.proofs.lemmas.List.{take_more}
use Rattle.cp_terms.specs.declared.step.Step.TheVariants.{Push}
use Rattle.std.specs.List.{slice_get}
use Rattle.cp_invlist.specs.InversionList.{contains}
use Rattle.cp_invlist.specs.declared.set.CodePointInversionList.{CodePointInversionList}
use Rattle.cp_terms.specs.declared.step.Step.{Step}
use Rattle.std.proofs.lemmas.Option.{slice_get-map, slice_get_past}
use Rattle.std.specs.Option.{option_map}
use Rattle.std.specs.Prelude.{length}
use Rattle.cp_terms.specs.TermLaws.{steps_done-append}
use Rattle.cp_terms.specs.Terms.{step_done, steps_done, holds_at}

-- whether an element is in the set that there may be
abbrev pub held_in : Option (List ℕ) → ℕ → Bool
held_in None c = false
held_in (Some xs) c = contains xs c

pub holds_at-get : (lists : List (List ℕ)) (c index : ℕ) → holds_at lists c index ≡ held_in (slice_get lists index) c
holds_at-get [] c index = refl
holds_at-get (xs ∷ lists) c zero = refl
holds_at-get (xs ∷ lists) c (suc index) = holds_at-get lists c index

-- one step more
pub steps_done-more : (v : ℕ → Bool) (ss : List Step) (i : ℕ) → i < length ss → step_done v (get_or ss i (Push 0)) (steps_done v (take i ss) []) ≡ steps_done v (take (i + 1) ss) []
steps_done-more v ss i lt = sym (steps_done-append v (take i ss) (get_or ss i (Push 0) ∷ []) []) ∙ ap (λ l. steps_done v l []) (sym (take_more ss i (Push 0) lt))

-- the set that a reference with an index leads to
pub holds_at-reference : (sets : List (Bor CodePointInversionList)) (c index : ℕ) (set : Bor CodePointInversionList) → slice_get sets index ≡ Some set → holds_at (map (λ s. s.now) sets) c index ≡ contains set.now c
holds_at-reference sets c index set h = holds_at-get (map (λ s. s.now) sets) c index ∙ ap (λ o. held_in o c) (slice_get-map (λ s. s.now) sets index ∙ ap (option_map (λ s. s.now)) h)

pub holds_at-past : (sets : List (Bor CodePointInversionList)) (c index : ℕ) → length sets ≤ index → holds_at (map (λ s. s.now) sets) c index ≡ false
holds_at-past sets c index h = holds_at-get (map (λ s. s.now) sets) c index ∙ ap (λ o. held_in o c) (slice_get-map (λ s. s.now) sets index ∙ ap (option_map (λ s. s.now)) (slice_get_past sets index h))
