-- What is left behind the first character of a text, and what stands behind a `[`.
use Rattle.std.proofs.Common.{◌≡◌, ◌≢◌, ℕ, ◌==◌, ◌<◌, ◌≤◌, nat_le, true, false, not, ◌||◌, length, length-append, get_or, leb-true, Some, subst, List, [], ◌∷◌, ◌++◌, encode_utf8, refl, sym, ap, ◌∙◌, arith}
use Rattle.std.proofs.Math.Dec.{eqb-suc-zero}
use Rattle.std.proofs.Math.Utf8.{encodes}
use Rattle.std.proofs.lemmas.Bool.{ne_eqb, and_parts}
use Rattle.std.proofs.lemmas.Option.{get_or_from_slice_get}
use Rattle.std.proofs.lemmas.Str.{IsUtf8-past_char, char_from_byte, encodes-chars, length-encode, length-le-encodes, len_utf8_bounds}
use Rattle.std.specs.Char.{is_ascii_graphic}
use Rattle.std.specs.List.{slice_get}
use Rattle.std.specs.Str.{chars, IsUtf8}
use Rattle.uset_grammar.specs.Text.{Text, ◌∈◌}
use Rattle.uset_grammar.specs.Reached.{is_short}
use Rattle.uset_reader.specs.Fronts.{IsPlain}

-- bytes are left where they spell a character, and only there
left_by_bytes : (rest : List ℕ) (cs : Text) → encodes cs ≡ rest → (first : ℕ) → first ≢ 93 → (length rest == 0) ≡ is_short (first ∷ cs)
left_by_bytes [] [] e first other = sym (ap not (ne_eqb first 93 other))
left_by_bytes (b ∷ bs) [] e first other = cc
left_by_bytes [] (d ∷ ds) e first other = absurd (omega (arith, length-le-encodes (d ∷ ds), ap length e))
left_by_bytes (b ∷ bs) (d ∷ ds) e first other = eqb-suc-zero (length bs)

-- a text whose first character is no `]` is short where no bytes are left behind it
pub short_by_bytes : (text rest : List ℕ) (first : ℕ) → IsUtf8 text → text ≡ encode_utf8 first ++ rest → chars text ≡ first ∷ chars rest → first ≢ 93 →
    (length rest == 0) ≡ is_short (chars text)
short_by_bytes text rest first utf8 bytes parts other =
    left_by_bytes rest (chars rest) (encodes-chars rest (IsUtf8-past_char text rest first utf8 bytes)) first other ∙ ap is_short (sym parts)

-- more than four bytes are more than a character
long_text : (text : List ℕ) (cs : Text) → encodes cs ≡ text → 4 < length text → false ≡ is_short cs
long_text text [] e long = absurd (omega (arith, long, ap length e))
long_text text (c ∷ []) e long = absurd (omega (arith, long, ap length e, length-append (encode_utf8 c) [], length-encode c, (len_utf8_bounds c).1))
long_text text (c ∷ d ∷ t) e long = refl

pub long_is_not_short : (text : List ℕ) → IsUtf8 text → 4 < length text → false ≡ is_short (chars text)
long_is_not_short text utf8 long = long_text text (chars text) (encodes-chars text utf8) long

-- a visible character in front that means nothing by standing behind a `[`
plain_by : (text : List ℕ) (cs : Text) (first : ℕ) → encodes cs ≡ text → slice_get text 0 ≡ Some first → first < 128 → is_ascii_graphic first ≡ true → first ∈ ":^-" ≡ false → IsPlain cs
plain_by text [] first e is lt visible plain = absurd (cc (subst (λ t. slice_get t 0 ≡ Some first) (sym e) is))
plain_by text (c ∷ cs) first e is lt visible plain = record { first = c; rest = cs; parts = refl; visible = ap is_ascii_graphic same ∙ visible; plain = ap (λ x. x ∈ ":^-") same ∙ plain }
  where
    front : get_or text 0 0 ≡ first
    front = get_or_from_slice_get text 0 first 0 is

    same : c ≡ first
    same = char_from_byte text (encodes cs) c (sym e) (omega (arith, front, lt)) (omega (arith, length-le-encodes (c ∷ cs), ap length e)) ∙ front

pub plain_front : (text : List ℕ) (first : ℕ) → IsUtf8 text → slice_get text 0 ≡ Some first → is_ascii_graphic first ≡ true → first ≢ 58 → first ≢ 94 → first ≢ 45 → IsPlain (chars text)
plain_front text first utf8 is visible no_colon no_caret no_hyphen =
    let most : first ≤ 126 = leb-true first 126 (and_parts (nat_le 33 first) (nat_le first 126) visible).1 in
    let none : (first == 58) || ((first == 94) || (first == 45)) ≡ false = rw (ne_eqb first 58 no_colon, ne_eqb first 94 no_caret, ne_eqb first 45 no_hyphen) refl in
    plain_by text (chars text) first (encodes-chars text utf8) is (omega (arith, most)) visible none
