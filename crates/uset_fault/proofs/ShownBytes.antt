-- The front of a source that is shown, in bytes.
use lib.Utf8.{scalars}
use mathlib.Core.Logic.{◌⊎◌}
use Rattle.std.proofs.Common.{ℕ, ◌≡◌, ◌+◌, ◌-◌, ◌<◌, ◌≤◌, Bool, true, false, nat_lt, cond, List, [], ◌∷◌, ◌++◌, length, take, drop, encode_utf8, encode_utf8_all, refl, sym, ap, ◌∙◌, subst, inl, inr, arith}
use Rattle.std.proofs.lemmas.Bool.{cases_order, and_parts}
use Rattle.std.proofs.lemmas.Bool.Decides.{nat_tests}
use Rattle.std.proofs.lemmas.Grind.{flat_map-append}
use Rattle.std.proofs.lemmas.List.{length-append, length-take-le, take-append-drop}
use Rattle.std.proofs.lemmas.Str.{encodes_same, length-le-encodes, IsCharBoundary-at_seam, IsUtf8-take, IsUtf8-drop, scalars-chars, encodes-chars}
use Rattle.std.specs.Str.{IsUtf8, IsCharBoundary, chars}
use Rattle.uset_grammar.specs.Text.{Text}
use Rattle.uset_grammar.specs.Place.{size}
use Rattle.uset_grammar.specs.Shown.{front_past}

scalars-behind : (xs ys : Text) → scalars (xs ++ ys) ≡ true → scalars ys ≡ true
scalars-behind [] ys h = h
scalars-behind (x ∷ xs) ys h = scalars-behind xs ys (and_parts _ _ h).1

size-cons : (c : ℕ) (t : Text) → size (c ∷ t) ≡ length (encode_utf8 c) + size t
size-cons c t = length-append (encode_utf8 c) (encode_utf8_all t)

-- every front of the text that reaches past the offset is at least as long as this one
abbrev Shortest : ℕ → Text → Text → Type 0
Shortest offset t front = (xs ys : Text) → t ≡ xs ++ ys → offset < size xs → size front ≤ size xs

no_more : (t : Text) → size t ≤ 0 → t ≡ []
no_more [] h = refl
no_more (c ∷ t) h = absurd (omega (arith, h, length-le-encodes (c ∷ t)))

front_past-shortest : (front back : Text) (offset : ℕ) → offset < size front → Shortest offset (front ++ back) front → front_past offset (front ++ back) ≡ front
front_past-shortest [] back offset past shortest = absurd (omega (arith, past))
front_past-shortest (c ∷ t) back offset past shortest =
    let n = length (encode_utf8 c) in
    by_test (nat_lt offset n) refl (λ least. front_past-shortest t back (offset - n) (omega (arith, past, size-cons c t, least)) (λ xs ys parts above.
    let same = shortest (c ∷ xs) ys (ap (λ r. c ∷ r) parts) (omega (arith, above, size-cons c xs, least)) in
    omega (arith, same, size-cons c xs, size-cons c t)))
  where
    by_test : (b : Bool) → nat_lt offset (length (encode_utf8 c)) ≡ b → (length (encode_utf8 c) ≤ offset → front_past (offset - length (encode_utf8 c)) (t ++ back) ≡ t) →
        (c ∷ cond b [] (front_past (offset - length (encode_utf8 c)) (t ++ back))) ≡ c ∷ t
    by_test true near further =
        let below : offset < length (encode_utf8 c) = grind (arith, nat_tests) in
        let one = shortest (c ∷ []) (t ++ back) refl (omega (arith, below, size-cons c [])) in
        ap (λ r. c ∷ r) (sym (no_more t (omega (arith, one, size-cons c [], size-cons c t))))
    by_test false far further = ap (λ r. c ∷ r) (further (grind (arith, nat_tests)))

-- Of a text in bytes, what stands before the nearest boundary behind the byte at the offset.
pub take_to_boundary : (source : List ℕ) (offset found : ℕ) → IsUtf8 source → offset < found → IsCharBoundary source found →
    ((i : ℕ) → offset + 1 ≤ i → i < found → ¬ (IsCharBoundary source i)) → take found source ≡ encode_utf8_all (front_past offset (chars source))
take_to_boundary source offset found text past boundary nearest =
    let front = chars (take found source) in
    let back = chars (drop found source) in
    let front_text = encodes-chars (take found source) (IsUtf8-take source found text boundary) in
    let back_text = encodes-chars (drop found source) (IsUtf8-drop source found text boundary) in
    let whole = encodes-chars source text in
    let parts : chars source ≡ front ++ back =
    encodes_same (chars source) (front ++ back) (whole ∙ (sym (take-append-drop found source) ∙ (cc (front_text, back_text, flat_map-append encode_utf8 front back)))) in
    let long : size front ≡ found = ap length front_text ∙ length-take-le found source boundary.0 in
    let shortest : Shortest offset (front ++ back) front = at_seams front back long whole parts in
    sym (ap (λ t. encode_utf8_all (front_past offset t)) parts ∙ (ap encode_utf8_all (front_past-shortest front back offset (omega (arith, long, past)) shortest) ∙ front_text))
  where
    at_seams : (front back : Text) → size front ≡ found → encode_utf8_all (chars source) ≡ source → chars source ≡ front ++ back → Shortest offset (front ++ back) front
    at_seams front back long whole parts xs ys seam above =
        let bytes : source ≡ encode_utf8_all xs ++ encode_utf8_all ys = sym whole ∙ (ap encode_utf8_all (parts ∙ seam) ∙ flat_map-append encode_utf8 xs ys) in
        let behind : IsUtf8 (encode_utf8_all ys) = (ys, (scalars-behind xs ys (subst (λ t. scalars t ≡ true) (parts ∙ seam) (scalars-chars source text)), refl)) in
        let here = IsCharBoundary-at_seam source (encode_utf8_all xs) (encode_utf8_all ys) bytes behind in
        by (cases_order (size xs) found) here
      where
        by : (size xs ≡ found) ⊎ ((size xs < found) ⊎ (found < size xs)) → IsCharBoundary source (size xs) → size front ≤ size xs
        by (inl is) here = omega (arith, is, long)
        by (inr (inl below)) here = absurd (nearest (size xs) (omega (arith, above)) below here)
        by (inr (inr behind)) here = omega (arith, behind, long)
