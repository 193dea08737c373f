-- A decimal number is what the parsing of a text reads.
use Rattle.std.proofs.Common.{◌≡◌, ℕ, ◌+◌, ◌*◌, ◌^◌, ◌<◌, Bool, true, false, cond, ◌==◌, nat_le, List, [], ◌∷◌, drop, Option, Some, None, Result, Ok, Err, refl, sym, ap, ◌∙◌, subst, arith}
use Rattle.std.proofs.lemmas.Bool.Decides.{nat_tests}
use Rattle.std.proofs.lemmas.Str.{digit_value_digit}
use Rattle.std.proofs.lemmas.Str.Parse.{digit_from_value}
use Rattle.std.specs.Char.{is_ascii_digit, digit_value}
use Rattle.std.specs.Int.{IsInRange}
use Rattle.std.specs.Result.{result_ok}
use Rattle.std.specs.Str.Parse.{AllDigits, IsNumeral, digits_value_after, digits_value, without_leading_plus, ParsesUnsigned}
use Rattle.uset_grammar.specs.Text.{◌>>=◌, ◌>>◌}
use Rattle.uset_resolve.specs.Decimal.{further_digits, digits, without_plus, at_most, decimal}

plus-leading : (bs : List ℕ) → without_plus bs ≡ without_leading_plus bs
plus-leading [] = refl
plus-leading (c ∷ t) = by (c == 43)
  where
    by : (b : Bool) → cond b t (c ∷ t) ≡ drop (cond b 1 0) (c ∷ t)
    by true = refl
    by false = refl

is_digit : (d : ℕ) → digit_value d < 10 → is_ascii_digit d ≡ true
is_digit d small = let within = digit_from_value d small in grind (arith, nat_tests)

digit_below : (d : ℕ) → is_ascii_digit d ≡ true → digit_value d < 10
digit_below d digit =
    let within : IsInRange 48 57 d = grind (arith, nat_tests) in
    let value = digit_value_digit d within in
    omega (arith, within, value)

-- digits alone write a number
further-all : (n : ℕ) (ds : List ℕ) → AllDigits 10 ds → further_digits n ds ≡ Some (digits_value_after 10 n ds)
further-all n [] all = refl
further-all n (d ∷ ds) all =
    ap (λ b. b >> further_digits (n * 10 + digit_value d) ds) (is_digit d all.0) ∙ further-all (n * 10 + digit_value d) ds all.1

all-further : (n : ℕ) (ds : List ℕ) (m : ℕ) → further_digits n ds ≡ Some m → AllDigits 10 ds
all-further n [] m h = tt
all-further n (d ∷ ds) m h = by (is_ascii_digit d) refl h (λ g. all-further (n * 10 + digit_value d) ds m g)
  where
    by : (b : Bool) → is_ascii_digit d ≡ b → (b >> further_digits (n * 10 + digit_value d) ds) ≡ Some m → (further_digits (n * 10 + digit_value d) ds ≡ Some m → AllDigits 10 ds) → AllDigits 10 (d ∷ ds)
    by true digit g behind = (digit_below d digit, behind g)
    by false digit g behind = absurd (let k = g in cc)

digits-numeral : (ds : List ℕ) → IsNumeral 10 ds → digits ds ≡ Some (digits_value 10 ds)
digits-numeral [] numeral = absurd (let none = numeral.0 in omega arith)
digits-numeral (d ∷ ds) numeral = further-all 0 (d ∷ ds) numeral.1

numeral-digits : (ds : List ℕ) (m : ℕ) → digits ds ≡ Some m → IsNumeral 10 ds
numeral-digits [] m h = absurd (let g = h in cc)
numeral-digits (d ∷ ds) m h = (omega arith, all-further 0 (d ∷ ds) m h)

module _ (most k : ℕ) (limit : most + 1 ≡ 2 ^ k) (bs : List ℕ) where
  -- a text that parses to a number writes it
  decimal-ok : (n : ℕ) → IsNumeral 10 (without_leading_plus bs) → digits_value 10 (without_leading_plus bs) < 2 ^ k → n ≡ digits_value 10 (without_leading_plus bs) → decimal most bs ≡ Some n
  unfolding decimal
  decimal-ok n numeral small is =
      let low : nat_le n most ≡ true = grind (arith, nat_tests) in
      ap (λ ds. digits ds >>= at_most most) (plus-leading bs)
      ∙ (ap (λ o. o >>= at_most most) (digits-numeral (without_leading_plus bs) numeral ∙ ap Some (sym is))
      ∙ ap (λ b. b >> Some n) low)

  -- one that doesn't parse writes none
  decimal-err : (IsNumeral 10 (without_leading_plus bs) × (digits_value 10 (without_leading_plus bs) < 2 ^ k) → ⊥) → decimal most bs ≡ None
  unfolding decimal
  decimal-err refused = ap (λ ds. digits ds >>= at_most most) (plus-leading bs) ∙ by (digits (without_leading_plus bs)) refl
    where
      small_by : (m : ℕ) (b : Bool) → nat_le m most ≡ b → digits (without_leading_plus bs) ≡ Some m → (b >> Some m) ≡ None
      small_by m true low h =
          let numeral = numeral-digits (without_leading_plus bs) m h in
          let same : m ≡ digits_value 10 (without_leading_plus bs) = (let e = sym h ∙ digits-numeral (without_leading_plus bs) numeral in cc) in
          let below : m < 2 ^ k = grind (arith, nat_tests) in
          absurd (refused (numeral, subst (λ x. x < 2 ^ k) same below))
      small_by m false low h = refl

      by : (o : Option ℕ) → digits (without_leading_plus bs) ≡ o → (o >>= at_most most) ≡ None
      by None h = refl
      by (Some m) h = small_by m (nat_le m most) refl h

  pub decimal-parse : {E : Type 0} (r : Result ℕ E) → ParsesUnsigned k 10 bs r → result_ok r ≡ decimal most bs
  decimal-parse (Ok n) parses = sym (decimal-ok n parses.0.0 parses.0.1 parses.1)
  decimal-parse (Err e) parses = sym (decimal-err parses)
