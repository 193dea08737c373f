-- What is known of terms on a stretch.
use Rattle.std.proofs.Common.{◌≡◌, ℕ, ◌+◌, ◌<◌, ◌≤◌, Bool, List, [], Option, None, Some, map, ◌⊎◌, ◌&&◌, length, get_or, Bor, refl, ap, ◌∙◌, arith, inl, inr}
use Rattle.std.specs.List.{slice_get}
use Rattle.std.proofs.lemmas.Option.{slice_get_within, slice_get_cases}
use Rattle.std.proofs.lemmas.Bool.{le-leb}
use Rattle.cp_invlist.specs.InversionList.{differ}
use Rattle.cp_invlist.specs.declared.set.CodePointInversionList.{CodePointInversionList}
use Rattle.cp_invlist.specs.declared.window.Window.{Window}
use Rattle.cp_terms.specs.declared.step.Step.{Step}
use Rattle.cp_terms.specs.declared.shorten.Shortened.{Shortened}
use Rattle.cp_terms.specs.Terms.{steps_done, top, value_of, holds_at}
use Rattle.cp_terms.specs.Windows.{AreWindows}
use Rattle.cp_terms.specs.Shorten.{Agree, AgreesAt, FitsTerm}
use Rattle.cp_terms.specs.Changes.{IsConstant, AreMade, AreOfSet, members_of}
use Rattle.cp_terms.proofs.WindowLemmas.{window_tells}
use Rattle.cp_terms.proofs.TermsLemmas.{holds_at-reference, holds_at-past}

-- the set with an index
pub record SetThere (sets : List (Bor CodePointInversionList)) (i : ℕ) : Type 0 where
  pub set : Bor CodePointInversionList
  pub at : slice_get sets i ≡ Some set

-- there is a set for each window
pub set_there : (sets : List (Bor CodePointInversionList)) (windows : List Window) (i : ℕ) (window : Window) → length windows ≡ length sets → slice_get windows i ≡ Some window → SetThere sets i
set_there sets windows i window same at =
    let short : i < length sets = omega (arith, slice_get_within windows i window at, same) in
    found (slice_get sets i) refl (slice_get_cases sets i).1
  where
    found : (o : Option (Bor CodePointInversionList)) → slice_get sets i ≡ o → ((x : Bor CodePointInversionList) × (i < length sets) × (slice_get sets i ≡ Some x) × (get_or sets i x ≡ x)) ⊎ ((length sets ≤ i) × (slice_get sets i ≡ None)) → SetThere sets i
    found o is (inl h) = record { set = h.0; at = h.2 }
    found o is (inr h) = absurd (omega (arith, slice_get_within windows i window at, same, h.0))

-- on a stretch the windows tell the members of the sets that don't change
pub agree_from : (sets : List (Bor CodePointInversionList)) (windows : List Window) (start end c : ℕ) → length windows ≡ length sets → AreWindows sets start windows → start ≤ c → c < end →
    Agree windows end (holds_at (map (λ s. s.now) sets) c) (holds_at (map (λ s. s.now) sets) c)
agree_from sets windows start end c same are le lt = record { at = λ i. told i (slice_get windows i) refl }
  where
    v : ℕ → Bool
    v = holds_at (map (λ s. s.now) sets) c

    told : (i : ℕ) (o : Option Window) → slice_get windows i ≡ o → AgreesAt o end (v i) (v i)
    told i None is = holds_at-past sets c i (past (slice_get_cases windows i).1)
      where
        past : ((x : Window) × (i < length windows) × (slice_get windows i ≡ Some x) × (get_or windows i x ≡ x)) ⊎ ((length windows ≤ i) × (slice_get windows i ≡ None)) → length sets ≤ i
        past (inl h) = absurd (let e = is in let f = h.2 in cc)
        past (inr h) = omega (arith, h.0, same)
    told i (Some window) is =
        let there = set_there sets windows i window same is in (
          λ far. holds_at-reference sets c i there.set there.at ∙ window_tells there.set.now start c window (are i there.set window there.at is) le (omega (arith, far)),
          λ near. refl,
        )

-- the set that the steps make has a code point as the shortened term says
pub members_told : (sets : List (Bor CodePointInversionList)) (ss : List Step) (c : ℕ) (b : Bool) → c < 0x110000 → value_of (holds_at (map (λ s. s.now) sets) c) ss ≡ b → members_of sets ss c ≡ b
members_told sets ss c b lt is = ap (λ x. x && value_of (holds_at (map (λ s. s.now) sets) c) ss) (le-leb c 0x10FFFF (omega arith)) ∙ is

-- On a stretch the term and the shortened one make the same.
pub record Shortens (windows : List Window) (end : ℕ) (ss : List Step) (term : Shortened) : Type 0 where
  pub fits : (v w : ℕ → Bool) → Agree windows end v w → FitsTerm w term (steps_done v ss [])

pub stretch_constant : (sets : List (Bor CodePointInversionList)) (windows : List Window) (start : ℕ) (ss : List Step) (term : Shortened) (inside : Bool) → start + 0x4000 ≤ 0x110000 → length windows ≡ length sets →
    AreWindows sets start windows → Shortens windows (start + 0x4000) ss term → ((w : ℕ → Bool) (stack : List Bool) → FitsTerm w term stack → top stack ≡ inside) → IsConstant (members_of sets ss) start (start + 0x4000) inside
stretch_constant sets windows start ss term inside within same are shortens told c le lt =
    let v = holds_at (map (λ s. s.now) sets) c in
    members_told sets ss c inside (omega arith)
    (told v (steps_done v ss []) (shortens.fits v v (agree_from sets windows start (start + 0x4000) c same are le lt)))

pub stretch_of_set : (sets : List (Bor CodePointInversionList)) (windows : List Window) (start : ℕ) (ss : List Step) (term : Shortened) (index : ℕ) (complemented : Bool) → start + 0x4000 ≤ 0x110000 → length windows ≡ length sets →
    AreWindows sets start windows → Shortens windows (start + 0x4000) ss term → ((w : ℕ → Bool) (stack : List Bool) → FitsTerm w term stack → top stack ≡ differ complemented (w index)) → AreOfSet sets start index complemented (members_of sets ss)
stretch_of_set sets windows start ss term index complemented within same are shortens told c le lt =
    let v = holds_at (map (λ s. s.now) sets) c in
    members_told sets ss c (differ complemented (v index)) (omega arith)
    (told v (steps_done v ss []) (shortens.fits v v (agree_from sets windows start (start + 0x4000) c same are le lt)))

pub stretch_made : (sets : List (Bor CodePointInversionList)) (windows : List Window) (start : ℕ) (ss : List Step) (term : Shortened) → start + 0x4000 ≤ 0x110000 → length windows ≡ length sets →
    AreWindows sets start windows → Shortens windows (start + 0x4000) ss term → ((w : ℕ → Bool) (stack : List Bool) → FitsTerm w term stack → top stack ≡ value_of w term.steps.items) → AreMade sets start term.steps.items (members_of sets ss)
stretch_made sets windows start ss term within same are shortens told c le lt =
    let v = holds_at (map (λ s. s.now) sets) c in
    members_told sets ss c (value_of v term.steps.items) (omega arith)
    (told v (steps_done v ss []) (shortens.fits v v (agree_from sets windows start (start + 0x4000) c same are le lt)))
