-- Texts by their first byte.
use Rattle.std.proofs.Common.{◌≡◌, ℕ, ◌<◌, ◌≤◌, nat_le, Bool, true, false, if◌then◌else◌, length, get_or, List, [], ◌∷◌, Some, refl, sym, ap, ◌∙◌, leb-true, arith}
use Rattle.std.specs.Char.{is_ascii_graphic}
use Rattle.std.specs.List.{slice_get}
use Rattle.std.specs.Str.{chars, IsUtf8}
use Rattle.std.proofs.Math.Utf8.{encodes}
use Rattle.std.proofs.lemmas.Bool.{and_parts}
use Rattle.std.proofs.lemmas.Option.{get_or_from_slice_get}
use Rattle.std.proofs.lemmas.Str.{char_from_byte, encodes-chars, length-le-encodes}
use Rattle.uset_grammar.specs.Text.{Text, skip}

-- where the first byte is a visible ASCII character, and such a one is no white space, none stands in front
none_by : (white_space : ℕ → Bool) (text : List ℕ) (cs : Text) (first : ℕ) → encodes cs ≡ text → get_or text 0 0 ≡ first → first < 128 → white_space first ≡ false → cs ≡ skip white_space cs
none_by white_space text [] first e is lt none = refl
none_by white_space text (c ∷ cs) first e is lt none =
    let some : 0 < length text = omega (arith, length-le-encodes (c ∷ cs), ap length e) in
    let same : c ≡ first = char_from_byte text (encodes cs) c (sym e) (omega (arith, is, lt)) some ∙ is in
    ap (λ b. if b then skip white_space cs else c ∷ cs) (sym (ap white_space same ∙ none))

pub none_in_front : (white_space : ℕ → Bool) (text : List ℕ) (first : ℕ) → IsUtf8 text → Some first ≡ slice_get text 0 → is_ascii_graphic first ≡ true → ((c : ℕ) → is_ascii_graphic c ≡ true → white_space c ≡ false) →
    chars text ≡ skip white_space (chars text)
none_in_front white_space text first utf8 is graphic visible =
    let most : first ≤ 126 = leb-true first 126 (and_parts (nat_le 33 first) (nat_le first 126) graphic).1 in
    none_by white_space text (chars text) first (encodes-chars text utf8) (get_or_from_slice_get text 0 first 0 (sym is)) (omega (arith, most)) (visible first graphic)
