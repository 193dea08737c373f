-- A code point in hexadecimal between braces is read back as an escape.
use Rattle.std.proofs.Common.{◌≡◌, ℕ, zero, suc, ◌+◌, ◌*◌, ◌/◌, ◌%◌, ◌^◌, ◌<◌, ◌≤◌, Bool, true, false, cond, ◌&&◌, List, [], ◌∷◌, ◌++◌, length, Some, None, refl, sym, ap, ◌∙◌, subst, arith, append_assoc, append-nil}
use Rattle.std.specs.Prelude.{◌==◌}
use Rattle.std.specs.Char.{digit_value}
use Rattle.std.specs.Fmt.{digits, digits_onto, digit_glyph}
use Rattle.std.specs.List.{list_all}
use Rattle.std.specs.Str.Parse.{AllDigits, digits_value_after}
use Rattle.std.proofs.Math.Nat.{div-lt_iff_lt-mul, pow-suc}
use Rattle.std.proofs.lemmas.Bool.{lt-ltb, le-leb, eqb-false, ne_eqb}
use Rattle.std.proofs.lemmas.Fmt.{digits_is_IsNumeral}
use Rattle.cp_strset.specs.PatternText.{escaped}
use Rattle.uset_grammar.specs.Text.{Text, ◌>>=◌}
use Rattle.uset_grammar.specs.Escape.{is_hex, onto, value, is_number, numbers, up_to_brace, with_word, words, values, at_least_one, braced, letter, escape_shape}

-- a number below a power of the base has no more digits
length-digits_onto : (k j n : ℕ) (acc : List ℕ) → n < 16 ^ suc j → length (digits_onto k 16 false n acc) ≤ suc j + length acc
length-digits_onto zero j n acc h = omega arith
length-digits_onto (suc k) j n acc h = by (n / 16 == 0) refl j h (λ i g. length-digits_onto k i (n / 16) (digit_glyph false (n % 16) ∷ acc) g)
  where
    first : List ℕ
    first = digit_glyph false (n % 16) ∷ acc

    by : (t : Bool) → (n / 16 == 0) ≡ t → (i : ℕ) → n < 16 ^ suc i → ((i : ℕ) → n / 16 < 16 ^ suc i → length (digits_onto k 16 false (n / 16) first) ≤ suc i + suc (length acc)) →
        length (cond t first (digits_onto k 16 false (n / 16) first)) ≤ suc i + length acc
    by true e i h more = omega arith
    by false e zero h more = absurd (eqb-false (n / 16) 0 e (omega (arith, h)))
    by false e (suc i) h more =
        let some : 0 < 16 = omega arith in
        let shorter : n / 16 < 16 ^ suc i = (div-lt_iff_lt-mul some).1 (omega (arith, h, pow-suc 16 (suc i))) in
        omega (arith, more i shorter)

length-digits : (n : ℕ) → n ≤ 0x10_FFFF → length (digits 16 false n) ≤ 6
unfolding digits
length-digits n h = let small : n < 16 ^ 6 = omega (arith, h) in omega (arith, length-digits_onto 64 5 n [] small)

all_hex : (ds : Text) → AllDigits 16 ds → list_all is_hex ds ≡ true
unfolding is_hex
all_hex [] h = refl
all_hex (c ∷ ds) h = ap (λ b. b && list_all is_hex ds) (lt-ltb (digit_value c) 16 h.0) ∙ all_hex ds h.1

onto_is : (n : ℕ) (ds : Text) → onto n ds ≡ digits_value_after 16 n ds
onto_is n [] = refl
onto_is n (c ∷ ds) = onto_is (n * 16 + digit_value c) ds

-- digits that spell a number
pub record Spells (n : ℕ) (ds : Text) : Type 0 where
  pub some : 1 ≤ length ds
  pub few : length ds ≤ 6
  pub hex : AllDigits 16 ds
  pub value : onto 0 ds ≡ n

digits_spell : (n : ℕ) → n ≤ 0x10_FFFF → Spells n (digits 16 false n)
digits_spell n h =
    let high : n < 16 ^ 64 = omega (arith, h) in
    let numeral = digits_is_IsNumeral 16 false (omega arith) (omega arith) n high in
    record { some = omega (arith, numeral.0.0); few = length-digits n h; hex = numeral.0.1; value = onto_is 0 (digits 16 false n) ∙ numeral.1 }

-- a closing brace is no digit
no_brace : (c : ℕ) → digit_value c < 16 → (c == 0x7D) ≡ false
no_brace c h = ne_eqb c 0x7D (λ e. let bad : digit_value 0x7D < 16 = subst (λ x. digit_value x < 16) e h in omega (arith, bad))

up_to_brace_of : (ds more : Text) → AllDigits 16 ds → up_to_brace (ds ++ 0x7D ∷ more) ≡ Some (ds, more)
up_to_brace_of [] more h = refl
up_to_brace_of (c ∷ ds) more h =
    ap (λ b. cond b (Some ([], ds ++ 0x7D ∷ more)) (up_to_brace (ds ++ 0x7D ∷ more) >>= λ p. Some (c ∷ p.0, p.1))) (no_brace c h.0)
    ∙ ap (λ o. o >>= λ p. Some (c ∷ p.0, p.1)) (up_to_brace_of ds more h.1)

module _ (white_space : ℕ → Bool) (no_digit : (c : ℕ) → is_hex c ≡ true → white_space c ≡ false) where
  not_white : (c : ℕ) → digit_value c < 16 → white_space c ≡ false
  unfolding is_hex
  not_white c h = no_digit c (lt-ltb (digit_value c) 16 h)

  one_word : (word ds : Text) → AllDigits 16 ds → words white_space word ds ≡ with_word (word ++ ds) []
  one_word word [] h = ap (λ w. with_word w []) (sym (append-nil word))
  one_word word (c ∷ ds) h =
      ap (λ b. cond b (with_word word (words white_space [] ds)) (words white_space (word ++ c ∷ []) ds)) (not_white c h.0)
      ∙ one_word (word ++ c ∷ []) ds h.1 ∙ ap (λ w. with_word w []) (append_assoc word (c ∷ []) ds)

  number_is : (ds : Text) → 1 ≤ length ds → length ds ≤ 6 → AllDigits 16 ds → is_number ds ≡ true
  unfolding is_number
  number_is ds some few h =
      (λ i. all_hex ds h i && (le-leb 1 (length ds) some i && le-leb (length ds) 6 few i))

  -- the digits of one number and a closing brace
  one_number : (n : ℕ) (ds more : Text) → Spells n ds → braced white_space (ds ++ 0x7D ∷ more) ≡ Some (numbers (n ∷ []), more)
  unfolding value
  one_number n [] more h = absurd (omega (arith, h.some))
  one_number n (c ∷ ds) more h =
      ap (λ o. o >>= λ inner. (values (words white_space [] inner.0) >>= λ ns. at_least_one ns inner.1)) (up_to_brace_of (c ∷ ds) more h.hex)
      ∙ ap (λ ws. values ws >>= λ ns. at_least_one ns more) (one_word [] (c ∷ ds) h.hex)
      ∙ ap (λ b. cond b (Some (onto 0 (c ∷ ds) ∷ [])) None >>= λ ns. at_least_one ns more) (number_is (c ∷ ds) h.some h.few h.hex)
      ∙ ap (λ m. Some (numbers (m ∷ []), more)) h.value

  -- an escape of one code point, and what stands behind it
  pub escaped_read : (n : ℕ) (more : Text) → n ≤ 0x10_FFFF → escape_shape white_space (escaped n ++ more) ≡ Some (numbers (n ∷ []), more)
  unfolding letter
  escaped_read n more h =
      ap (λ t. braced white_space t) (append_assoc (digits 16 false n) (0x7D ∷ []) more)
      ∙ one_number n (digits 16 false n) more (digits_spell n h)
