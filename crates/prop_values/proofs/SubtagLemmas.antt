-- The letters of a subtag are text.
use Rattle.std.proofs.Common.{◌≡◌, ℕ, ◌<◌, ◌≤◌, Bool, true, List, ◌&&◌, [], ◌∷◌, length, get_or, Result, Ok, Err, refl, sym, ap, ap₂, ◌∙◌, arith}
use Rattle.std.specs.Prelude.{IsOk, MatchResult}
use Rattle.std.specs.Char.{is_ascii_alphabetic, to_ascii_uppercase, to_ascii_lowercase}
use Rattle.std.specs.Str.{IsAscii, IsUtf8}
use Rattle.std.proofs.lemmas.Bool.{and_parts}
use Rattle.std.proofs.lemmas.Bool.Decides.{nat_tests}
use Rattle.std.proofs.lemmas.Str.{IsUtf8-from_ascii}
use Rattle.std.proofs.lemmas.Str.Ascii.{IsAscii-nil, IsAscii-cons, uppercase-uppercase, lowercase-lowercase}
use Rattle.prop_values.specs.Subtag.{is_four_letters, in_subtag_case}

letter_is_ascii : (b : ℕ) → is_ascii_alphabetic b ≡ true → b < 128
letter_is_ascii b h = grind (arith, nat_tests)

letters_are_ascii : (bs : List ℕ) → is_four_letters bs ≡ true → IsAscii bs
letters_are_ascii [] h = cc
letters_are_ascii (a ∷ []) h = cc
letters_are_ascii (a ∷ b ∷ []) h = cc
letters_are_ascii (a ∷ b ∷ c ∷ []) h = cc
letters_are_ascii (a ∷ b ∷ c ∷ d ∷ []) h =
    let first = and_parts (is_ascii_alphabetic a) _ h in
    let second = and_parts (is_ascii_alphabetic b) _ first.1 in
    let third = and_parts (is_ascii_alphabetic c) _ second.1 in
    IsAscii-cons a (b ∷ c ∷ d ∷ []) (letter_is_ascii a first.0) (IsAscii-cons b (c ∷ d ∷ []) (letter_is_ascii b second.0) (IsAscii-cons c (d ∷ []) (letter_is_ascii c third.0) (IsAscii-cons d [] (letter_is_ascii d third.1) IsAscii-nil)))
letters_are_ascii (a ∷ b ∷ c ∷ d ∷ e ∷ rest) h = cc

-- reading bytes as text succeeds where they are such letters
pub letters_are_text : {T E : Type 0} (bs : List ℕ) (r : Result T E) (P : T → Type 0) (Q : E → Type 0) → is_four_letters bs ≡ true → MatchResult r P (λ e. (IsUtf8 bs → ⊥) × Q e) → IsOk r
letters_are_text bs (Ok text) P Q letters h = refl
letters_are_text bs (Err e) P Q letters h = absurd (h.0 (IsUtf8-from_ascii bs (letters_are_ascii bs letters)))

upper_letter : (b : ℕ) → is_ascii_alphabetic b ≡ true → is_ascii_alphabetic (to_ascii_uppercase b) ≡ true
upper_letter b h = grind (arith, nat_tests)

lower_letter : (b : ℕ) → is_ascii_alphabetic b ≡ true → is_ascii_alphabetic (to_ascii_lowercase b) ≡ true
lower_letter b h = grind (arith, nat_tests)

-- letters brought to their case are letters
pub cased_letters : (a b c d a' b' c' d' : ℕ) → is_four_letters (a ∷ b ∷ c ∷ d ∷ []) ≡ true → a' ≡ to_ascii_uppercase a → b' ≡ to_ascii_lowercase b → c' ≡ to_ascii_lowercase c → d' ≡ to_ascii_lowercase d → is_four_letters (a' ∷ b' ∷ c' ∷ d' ∷ []) ≡ true
cased_letters a b c d a' b' c' d' h x y z w =
    let first = and_parts (is_ascii_alphabetic a) _ h in
    let second = and_parts (is_ascii_alphabetic b) _ first.1 in
    let third = and_parts (is_ascii_alphabetic c) _ second.1 in
    let both : Bool → Bool → Bool = λ p q. p && q in
    ap₂ both (ap is_ascii_alphabetic x ∙ upper_letter a first.0) (ap₂ both (ap is_ascii_alphabetic y ∙ lower_letter b second.0) (ap₂ both (ap is_ascii_alphabetic z ∙ lower_letter c third.0) (ap is_ascii_alphabetic w ∙ lower_letter d third.1)))

-- and are in that case
pub cased_again : (a b c d a' b' c' d' : ℕ) → a' ≡ to_ascii_uppercase a → b' ≡ to_ascii_lowercase b → c' ≡ to_ascii_lowercase c → d' ≡ to_ascii_lowercase d → in_subtag_case (a' ∷ b' ∷ c' ∷ d' ∷ []) ≡ (a' ∷ b' ∷ c' ∷ d' ∷ [])
cased_again a b c d a' b' c' d' x y z w =
    let upper : to_ascii_uppercase a' ≡ a' = ap to_ascii_uppercase x ∙ (uppercase-uppercase a ∙ sym x) in
    let lower : (l l' : ℕ) → l' ≡ to_ascii_lowercase l → to_ascii_lowercase l' ≡ l' = λ l l' e. ap to_ascii_lowercase e ∙ (lowercase-lowercase l ∙ sym e) in
    ap₂ (λ p q. p ∷ q) upper (ap₂ (λ p q. p ∷ q) (lower b b' y) (ap₂ (λ p q. p ∷ q) (lower c c' z) (ap (λ p. p ∷ []) (lower d d' w))))

-- four bytes are those at their places
pub four_bytes : (bs : List ℕ) → 4 ≤ length bs → length bs < 5 → bs ≡ (get_or bs 0 0 ∷ get_or bs 1 0 ∷ get_or bs 2 0 ∷ get_or bs 3 0 ∷ [])
four_bytes [] low high = absurd (omega arith)
four_bytes (a ∷ []) low high = absurd (omega arith)
four_bytes (a ∷ b ∷ []) low high = absurd (omega arith)
four_bytes (a ∷ b ∷ c ∷ []) low high = absurd (omega arith)
four_bytes (a ∷ b ∷ c ∷ d ∷ []) low high = refl
four_bytes (a ∷ b ∷ c ∷ d ∷ e ∷ rest) low high = absurd (omega arith)
