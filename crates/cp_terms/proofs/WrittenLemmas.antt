-- What windows are at first, and what a write of one changes.
use Rattle.std.proofs.Common.{◌≡◌, ℕ, zero, suc, ◌<◌, ◌≤◌, ◌≢◌, List, [], ◌∷◌, Some, set, length, replicate, get_or, Bor, refl, sym, ap, ◌∙◌, arith, subst, inl, inr}
use Rattle.std.specs.List.{slice_get}
use Rattle.std.proofs.lemmas.Option.{same_Some, slice_get_within, get_or_from_slice_get}
use Rattle.std.proofs.lemmas.List.{get_or-replicate, length-replicate}
use Rattle.std.proofs.lemmas.List.Elements.{All-nil}
use Rattle.std.proofs.lemmas.Bool.{cases_eq}
use Rattle.cp_invlist.specs.declared.set.CodePointInversionList.{CodePointInversionList}
use Rattle.cp_invlist.specs.declared.window.Window.{Window}
use Rattle.cp_invlist.specs.Windows.{IsWindow}
use Rattle.cp_terms.specs.Windows.{HasWindow, AreWindows}

-- what is written at an index stands there
pub written_there : {X : Type 0} → (xs : List X) (k : ℕ) (x y : X) → slice_get (set xs k x) k ≡ Some y → x ≡ y
written_there [] k x y at = absurd (let e = at in cc)
written_there (z ∷ xs) zero x y at = same_Some x y at
written_there (z ∷ xs) (suc k) x y at = written_there xs k x y at

-- and what stands at other indices stays
pub others_stay : {X : Type 0} → (xs : List X) (k i : ℕ) (x : X) → i ≢ k → slice_get (set xs k x) i ≡ slice_get xs i
others_stay [] k i x other = refl
others_stay (z ∷ xs) zero zero x other = absurd (other refl)
others_stay (z ∷ xs) zero (suc i) x other = refl
others_stay (z ∷ xs) (suc k) zero x other = refl
others_stay (z ∷ xs) (suc k) (suc i) x other = others_stay xs k i x (λ e. other (ap suc e))

-- the right window is written at an index
pub window_written : (sets : List (Bor CodePointInversionList)) (place : ℕ) (windows : List Window) (index : ℕ) (found : Bor CodePointInversionList) (new : Window) →
    slice_get sets index ≡ Some found → IsWindow found.now place new → HasWindow sets place (set windows index new) index
window_written sets place windows index found new there is of_set window at of_it =
    subst (λ (w : Window). IsWindow of_set.now place w) (written_there windows index new window of_it) (subst (λ (s : Bor CodePointInversionList). IsWindow s.now place new) (same_Some found of_set (sym there ∙ at)) is)

-- and no other window is lost by it
pub windows_kept : (sets : List (Bor CodePointInversionList)) (place : ℕ) (windows : List Window) (index : ℕ) (found : Bor CodePointInversionList) (new : Window) →
    slice_get sets index ≡ Some found → IsWindow found.now place new → AreWindows sets place windows → AreWindows sets place (set windows index new)
windows_kept sets place windows index found new there is are i of_set window at of_it = elim (cases_eq i index) [
  | inl same ↦ subst (HasWindow sets place (set windows index new)) (sym same) (window_written sets place windows index found new there is) of_set window at of_it
  | inr other ↦ are i of_set window at (sym (others_stay windows index i new other) ∙ of_it)
]

-- the window of which nothing is known
abbrev pub unknown : Window
unknown = record { taken = 0; next = 0 }

-- at first nothing is known of any set
pub windows_unknown : (sets : List (Bor CodePointInversionList)) (n : ℕ) (windows : List Window) → windows ≡ replicate n unknown → AreWindows sets 0 windows
windows_unknown sets n windows are i of_set window at of_it =
    let within : i < n = omega (arith, slice_get_within windows i window of_it, ap length are, length-replicate n unknown) in
    let same : unknown ≡ window = sym (get_or-replicate n i unknown unknown within) ∙ (ap (λ (l : List Window). get_or l i unknown) (sym are) ∙ get_or_from_slice_get windows i window unknown of_it) in
    subst (IsWindow of_set.now 0) same (record {
      within = omega arith;
      before = All-nil (λ x. x ≤ 0);
      behind = λ k none lt. omega arith;
    })
