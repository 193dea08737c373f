-- The members of an inversion list.
use Rattle.std.proofs.Common.{◌≡◌, ℕ, suc, ◌≤◌, true, false, not, ◌&&◌, nat_le, List, [], ◌∷◌, refl, sym, ap, ◌∙◌, inl, inr, arith}
use Rattle.std.proofs.Math.Bool.{and-true}
use Rattle.std.proofs.lemmas.Bool.{and_parts, cases_lt, leb-true, le-leb}
use Rattle.cp_invlist.specs.InversionList.{contains, differ, is_code_point, ascends_from, has_even_length, IsInversionList}

-- past all code points every element counts, and they are even in number
past_all : (n : ℕ) (xs : List ℕ) (c : ℕ) → ascends_from n xs ≡ true → 0x110000 ≤ c → contains xs c ≡ not (has_even_length xs)
past_all n [] c ascends past = refl
past_all n (x ∷ xs) c ascends past =
    let parts = and_parts (nat_le n x && nat_le x 0x110000) (ascends_from (suc x) xs) ascends in
    let bounds = and_parts (nat_le n x) (nat_le x 0x110000) parts.0 in
    let below : x ≤ c = omega (arith, leb-true x 0x110000 bounds.1) in
    ap (λ b. differ b (contains xs c)) (le-leb x c below) ∙ ap not (past_all (suc x) xs c parts.1 past)

-- the members of a set are code points
pub members_within : (xs : List ℕ) (c : ℕ) → IsInversionList xs → (contains xs c && is_code_point c) ≡ contains xs c
members_within xs c canonical =
    let parts = and_parts (ascends_from 0 xs) (has_even_length xs) canonical in
    elim (cases_lt c 0x110000) [
      | inl below ↦ ap (λ b. contains xs c && b) (le-leb c 0x10FFFF (omega (arith, below))) ∙ and-true (contains xs c)
      | inr past ↦ (let none : contains xs c ≡ false = past_all 0 xs c parts.0 past ∙ ap not parts.1 in ap (λ b. b && is_code_point c) none ∙ sym none)
    ]
