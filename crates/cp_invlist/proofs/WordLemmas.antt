-- What operations on words do to their bits.
use Rattle.std.proofs.Common.{◌≡◌, ℕ, zero, suc, ◌+◌, ◌*◌, ◌-◌, ◌^◌, ◌%◌, ◌<◌, true, not, ◌==◌, nat_le, List, [], ◌∷◌, ◌++◌, length, length-append, get_or, subst, refl, sym, ap, ◌∙◌, arith, inl, inr}
use Rattle.std.specs.Int.{bit_at}
use Rattle.std.specs.Int.RustNames.{bit_xor}
use Rattle.std.proofs.lemmas.Bool.{cases_lt, le-leb, lt-leb}
use Rattle.std.proofs.lemmas.List.{get_or_append_left, get_or_push}
use Rattle.std.proofs.lemmas.Option.{get_or_from_slice_get, slice_get-get_or, slice_get_within}
use Rattle.std.proofs.lemmas.Nat.Bits.{bit_at_xor, bit_at_ones, bit_at-lt, bit_at_mask_inside, bit_at_mask_below, ones_shl}
use Rattle.cp_invlist.specs.InversionList.{differ}
use Rattle.cp_invlist.specs.Words.{has_bit, AreWords, IsWord}

turned_of : (x : ℕ) → x < 2 → ((x + 1) % 2 == 1) ≡ not (x == 1)
turned_of zero hx = refl
turned_of (suc zero) hx = refl
turned_of (suc (suc x)) hx = absurd (omega arith)

kept_of : (x : ℕ) → x < 2 → ((x + 0) % 2 == 1) ≡ (x == 1)
kept_of zero hx = refl
kept_of (suc zero) hx = refl
kept_of (suc (suc x)) hx = absurd (omega arith)

-- a word of ones from the bit k on turns the bits from there on
pub has_bit-turned : (a k j : ℕ) → k < 64 → j < 64 →
    has_bit (bit_xor a (18446744073709551615 * 2 ^ k % 18446744073709551616)) j ≡ differ (nat_le k j) (has_bit a j)
has_bit-turned a k j hk hj =
    let mask = 18446744073709551615 * 2 ^ k % 18446744073709551616 in
    let is : mask ≡ 2 ^ 64 - 2 ^ k = ones_shl 64 k (omega arith) in
    ap (λ n. n == 1) (bit_at_xor a mask j)
    ∙ (elim (cases_lt j k) [
      | inl below ↦
          ap (λ n. (bit_at a j + n) % 2 == 1) (ap (λ m. bit_at m j) is ∙ bit_at_mask_below k 64 j below)
          ∙ (kept_of (bit_at a j) (bit_at-lt a j) ∙ ap (λ b. differ b (has_bit a j)) (sym (lt-leb k j below)))
      | inr above ↦
          ap (λ n. (bit_at a j + n) % 2 == 1) (ap (λ m. bit_at m j) is ∙ bit_at_mask_inside k 64 j above hj)
          ∙ (turned_of (bit_at a j) (bit_at-lt a j) ∙ ap (λ b. differ b (has_bit a j)) (sym (le-leb k j above)))
    ])

pub has_bit-ones : (j : ℕ) → j < 64 → has_bit 18446744073709551615 j ≡ true
has_bit-ones j hj = ap (λ n. n == 1) (bit_at_ones 64 j hj)

-- a word more, of the 64 numbers behind those of the others
pub words_more : (xs words : List ℕ) (word index : ℕ) → length words ≡ index → AreWords xs words → IsWord xs (64 * index) word → AreWords xs (words ++ word ∷ [])
words_more xs words word index sized all last i w at =
    let within : i < length (words ++ word ∷ []) = slice_get_within (words ++ word ∷ []) i w at in
    let is : get_or (words ++ word ∷ []) i 0 ≡ w = get_or_from_slice_get (words ++ word ∷ []) i w 0 at in
    elim (cases_lt i (length words)) [
      | inl below ↦ subst (IsWord xs (64 * i)) (sym (get_or_append_left words (word ∷ []) 0 i below) ∙ is) (all i (get_or words i 0) (slice_get-get_or words i 0 below))
      | inr behind ↦
          let same : length words ≡ i = omega (arith, behind, within, length-append words (word ∷ [])) in
          subst (IsWord xs (64 * i)) (sym (get_or_push words word 0 i same) ∙ is) (subst (λ k. IsWord xs (64 * k) word) (sym sized ∙ same) last)
    ]
