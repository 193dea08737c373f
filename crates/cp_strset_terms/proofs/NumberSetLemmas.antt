-- Sets of numbers in pieces.
use Rattle.std.proofs.Common.{◌&&◌, ap₂, ◌≡◌, ◌<◌, ◌≤◌, ◌+◌, ◌/◌, ◌%◌, ◌++◌, ◌==◌, ℕ, Bool, true, false, All, List, [], ◌∷◌, length, sym, ap, ◌∙◌, arith, inl, inr}
use Rattle.std.proofs.Math.ListN.{get_or-append}
use Rattle.std.proofs.Math.Seq.{get_or-append_seam}
use Rattle.std.proofs.lemmas.Bool.{cases_lt, le-leb, eq-eqb, ne_eqb}
use Rattle.std.proofs.lemmas.Bool.Decides.{eqb_tells}
use Rattle.std.proofs.lemmas.List.{get_or_past}
use Rattle.std.proofs.lemmas.List.Elements.{All-weaker}
use Rattle.std.proofs.lemmas.List.Folds.{list_any_none}
use Rattle.std.specs.List.{list_any}
use Rattle.cp_invlist.specs.InversionList.{contains, is_added, is_code_point}
use Rattle.cp_strset_terms.specs.NumberSets.{piece_at, has_number}

-- as far as so many pieces go, the numbers that pass the test are in the set
abbrev pub TellsBelow : (ℕ → Bool) → List (List ℕ) → ℕ → Type 0
TellsBelow test pieces count = (number : ℕ) → number / 0x11_0000 < count → has_number pieces number ≡ test number

-- one piece more
pub tells_more : (test : ℕ → Bool) (pieces : List (List ℕ)) (piece : List ℕ) (count : ℕ) → length pieces ≡ count → TellsBelow test pieces count →
    ((number : ℕ) → number / 0x11_0000 ≡ count → contains piece (number % 0x11_0000) ≡ test number) → TellsBelow test (pieces ++ piece ∷ []) (count + 1)
tells_more test pieces piece count counted before is number below = elim (cases_lt (number / 0x11_0000) count) [
  | inl earlier ↦ ap (λ p. contains p (number % 0x11_0000)) (get_or-append pieces (piece ∷ []) [] (number / 0x11_0000) (omega arith)) ∙ before number earlier
  | inr behind ↦ (
      let last : number / 0x11_0000 ≡ count = omega arith in
      ap (λ p. contains p (number % 0x11_0000)) (ap (piece_at (pieces ++ piece ∷ [])) (last ∙ sym counted) ∙ get_or-append_seam pieces piece [] []) ∙ is number last)
]

-- no number is in a piece that isn't there
pub no_piece : (pieces : List (List ℕ)) (number : ℕ) → length pieces ≤ number / 0x11_0000 → has_number pieces number ≡ false
no_piece pieces number past = ap (λ p. contains p (number % 0x11_0000)) (get_or_past pieces (number / 0x11_0000) [] past)

-- so the piece of a number that is in the set is there
pub piece_there : (pieces : List (List ℕ)) (number : ℕ) → has_number pieces number ≡ true → number / 0x11_0000 < length pieces
piece_there pieces number has = elim (cases_lt (number / 0x11_0000) (length pieces)) [
  | inl there ↦ there
  | inr past ↦ absurd (let none : has_number pieces number ≡ false = no_piece pieces number (omega (arith, past)) in cc)
]

other_number : (n number count : ℕ) → n / 0x11_0000 < count → count ≤ number / 0x11_0000 → (n == number) ≡ false
other_number n number count below past = elim (eqb_tells n number) [
  | inl equal ↦ (let same : n / 0x11_0000 ≡ number / 0x11_0000 = ap (λ k. k / 0x11_0000) equal.1 in absurd (omega arith))
  | inr apart ↦ apart.0
]

-- a number of a later piece is none of numbers of earlier ones
pub lacks_all : (numbers : List ℕ) (count number : ℕ) → All (λ n. n / 0x11_0000 < count) numbers → count ≤ number / 0x11_0000 → list_any (λ n. n == number) numbers ≡ false
lacks_all numbers count number below past =
    list_any_none (λ n. n == number) numbers (All-weaker (λ n. n / 0x11_0000 < count) (λ n. (n == number) ≡ false) (λ n within. other_number n number count within past) numbers below)

-- a number of one piece is none of another
pub of_other_piece : (n number index : ℕ) → (n / 0x11_0000 ≡ index → ⊥) → number / 0x11_0000 ≡ index → (n == number) ≡ false
of_other_piece n number index other same = elim (eqb_tells n number) [
  | inl equal ↦ absurd (other (ap (λ m. m / 0x11_0000) equal.1 ∙ same))
  | inr apart ↦ apart.0
]

-- among the numbers of one piece a number is told by its rest
pub added_by_rest : (n number : ℕ) → n / 0x11_0000 ≡ number / 0x11_0000 → is_added (n % 0x11_0000) (number % 0x11_0000) ≡ (n == number)
added_by_rest n number same = elim (eqb_tells n number) [
  | inl equal ↦
      ap₂ (λ x y. x && y) (eq-eqb (number % 0x11_0000) (n % 0x11_0000) (ap (λ m. m % 0x11_0000) (sym equal.1))) (le-leb (number % 0x11_0000) 0x10_FFFF (omega arith)) ∙ sym equal.0
  | inr other ↦
      ap (λ b. b && is_code_point (number % 0x11_0000)) (ne_eqb (number % 0x11_0000) (n % 0x11_0000) (λ rest. other.1 (omega (arith, same, rest)))) ∙ sym other.0
]
