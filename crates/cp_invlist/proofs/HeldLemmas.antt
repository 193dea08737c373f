-- Maximal ranges hold the members of their set.
use Rattle.std.proofs.Common.{◌≡◌, ℕ, ◌+◌, ◌≤◌, ◌<◌, Bool, false, ◌&&◌, ◌||◌, nat_le, List, [], ◌∷◌, refl, sym, ap₂, ◌∙◌, arith, inl, inr}
use Rattle.std.proofs.lemmas.Bool.{cases_lt, le-leb, lt-leb}
use Rattle.cp_invlist.specs.Ranges.{in_ranges, AreRangesFrom}
use Rattle.cp_invlist.specs.declared.ranges.CodePointRange.{CodePointRange}

module _ (m : ℕ → Bool) where
  -- ranges from a number on hold nothing below it
  none_below : (n : ℕ) (rs : List CodePointRange) → AreRangesFrom m n rs → (c : ℕ) → c < n → in_ranges rs c ≡ false
  none_below n [] h c lt = refl
  none_below n (r ∷ rs) h c lt =
      ap₂ (λ a b. (a && nat_le c r.end) || b) (lt-leb r.start c (omega (arith, h.0, lt))) (none_below (r.end + 1) rs h.5 c (omega (arith, h.0, h.1, lt)))

  -- and from there on the members
  pub held_from : (n : ℕ) (rs : List CodePointRange) → AreRangesFrom m n rs → (c : ℕ) → n ≤ c → in_ranges rs c ≡ m c
  held_from n [] h c from = sym (h c from)
  held_from n (r ∷ rs) h c from = elim (cases_lt c r.start) [
    | inl before ↦ ap₂ (λ a b. (a && nat_le c r.end) || b) (lt-leb r.start c before) (none_below (r.end + 1) rs h.5 c (omega (arith, h.1, before))) ∙ sym (h.2 c from before)
    | inr above ↦ elim (cases_lt r.end c) [
      | inl behind ↦ ap₂ (λ a b. (a && b) || in_ranges rs c) (le-leb r.start c above) (lt-leb c r.end behind) ∙ held_from (r.end + 1) rs h.5 c (omega (arith, behind))
      | inr within ↦ ap₂ (λ a b. (a && b) || in_ranges rs c) (le-leb r.start c above) (le-leb c r.end within) ∙ sym (h.3 c above within)
    ]
  ]
