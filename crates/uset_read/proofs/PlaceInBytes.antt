-- A place in bytes.
use mathlib.Core.Logic.{◌⊎◌}
use lib.Utf8.{encode, next}
use lib.Dec.{T, ltb, ltb→lt}
use Rattle.std.proofs.Common.{ℕ, zero, suc, ◌-◌, ◌/◌, ◌%◌, subst, refl, add-zero, ◌<◌, ◌≤◌, Bool, true, false, cond, List, [], ◌∷◌, get_or, arith, inl, inr, ◌≡◌, ◌+◌, length, ◌++◌, encode_utf8, encode_utf8_all, sym, ap, ◌∙◌}
use Rattle.std.proofs.lemmas.Grind.{flat_map-append}
use Rattle.std.proofs.lemmas.List.{length-append}
use Rattle.std.proofs.Math.Nat.{mod-lt}
use Rattle.std.proofs.lemmas.Bool.{cases_order}
use Rattle.std.proofs.lemmas.List.{get_or-append-add}
use Rattle.std.proofs.Math.ListN.{get_or-append}
use Rattle.std.specs.Str.{chars, IsCharBoundary}
use Rattle.uset_grammar.specs.Text.{Text}

pub place_bytes : (source before rest : Text) → source ≡ before ++ rest → length (encode_utf8_all before) + length (encode_utf8_all rest) ≡ length (encode_utf8_all source)
place_bytes source before rest e =
    let parts = flat_map-append encode_utf8 before rest in
    sym (ap (λ t. length (encode_utf8_all t)) e ∙ (ap length parts ∙ length-append (encode_utf8_all before) (encode_utf8_all rest)))

next_within : (b : ℕ) → (128 ≤ next b) × (next b < 192)
next_within b = let m : b % 64 < 64 = mod-lt b (omega arith) in (omega arith, omega arith)

-- the bytes of a character behind its first
behind_first : (c i : ℕ) (x y z : Bool) → 0 < i →
    i < length (cond x (c ∷ []) (cond y ((192 + c / 64) ∷ next c ∷ []) (cond z ((224 + c / 4096) ∷ next (c / 64) ∷ next c ∷ []) ((240 + c / 262144) ∷ next (c / 4096) ∷ next (c / 64) ∷ next c ∷ [])))) →
    let byte = get_or (cond x (c ∷ []) (cond y ((192 + c / 64) ∷ next c ∷ []) (cond z ((224 + c / 4096) ∷ next (c / 64) ∷ next c ∷ []) ((240 + c / 262144) ∷ next (c / 4096) ∷ next (c / 64) ∷ next c ∷ [])))) i 0 in
    (128 ≤ byte) × (byte < 192)
behind_first c zero x y z above below = absurd (omega (arith, above))
behind_first c (suc i) true y z above below = absurd (omega (arith, below))
behind_first c (suc zero) false true z above below = next_within c
behind_first c (suc (suc i)) false true z above below = absurd (omega (arith, below))
behind_first c (suc zero) false false true above below = next_within (c / 64)
behind_first c (suc (suc zero)) false false true above below = next_within c
behind_first c (suc (suc (suc i))) false false true above below = absurd (omega (arith, below))
behind_first c (suc zero) false false false above below = next_within (c / 4096)
behind_first c (suc (suc zero)) false false false above below = next_within (c / 64)
behind_first c (suc (suc (suc zero))) false false false above below = next_within c
behind_first c (suc (suc (suc (suc i)))) false false false above below = absurd (omega (arith, below))

first_there : (c : ℕ) (x y z : Bool) →
    0 < length (cond x (c ∷ []) (cond y ((192 + c / 64) ∷ next c ∷ []) (cond z ((224 + c / 4096) ∷ next (c / 64) ∷ next c ∷ []) ((240 + c / 262144) ∷ next (c / 4096) ∷ next (c / 64) ∷ next c ∷ []))))
first_there c true y z = omega arith
first_there c false true z = omega arith
first_there c false false true = omega arith
first_there c false false false = omega arith

inside_character : (c i : ℕ) → 0 < i → i < length (encode_utf8 c) → (128 ≤ get_or (encode_utf8 c) i 0) × (get_or (encode_utf8 c) i 0 < 192)
unfolding encode
inside_character c i above below = behind_first c i (ltb c 128) (ltb c 2048) (ltb c 65536) above below

pub has_bytes : (c : ℕ) → 0 < length (encode_utf8 c)
unfolding encode
has_bytes c = first_there c (ltb c 128) (ltb c 2048) (ltb c 65536)

first_high : (c : ℕ) (x y z : Bool) → ltb c 128 ≡ x →
    let byte = get_or (cond x (c ∷ []) (cond y ((192 + c / 64) ∷ next c ∷ []) (cond z ((224 + c / 4096) ∷ next (c / 64) ∷ next c ∷ []) ((240 + c / 262144) ∷ next (c / 4096) ∷ next (c / 64) ∷ next c ∷ [])))) 0 0 in
    128 ≤ byte → 192 ≤ byte
first_high c true y z e high = let low = ltb→lt c 128 (subst T (sym e) tt) in absurd (omega (arith, high, low))
first_high c false true z e high = omega arith
first_high c false false true e high = omega arith
first_high c false false false e high = omega arith

begins_character : (c : ℕ) → 128 ≤ get_or (encode_utf8 c) 0 0 → 192 ≤ get_or (encode_utf8 c) 0 0
unfolding encode
begins_character c = first_high c (ltb c 128) (ltb c 2048) (ltb c 65536) refl

-- no character begins inside another
inside_is_none : (front c_bytes back bytes : List ℕ) (i : ℕ) → bytes ≡ front ++ (c_bytes ++ back) → i < length c_bytes → get_or bytes (length front + i) 0 ≡ get_or c_bytes i 0
inside_is_none front c_bytes back bytes i parts below =
    ap (λ bs. get_or bs (length front + i) 0) parts ∙ (get_or-append-add front (c_bytes ++ back) i 0 ∙ get_or-append c_bytes back 0 i below)

-- The nearest boundary at or before the last byte of a character is where the character begins.
pub nearest_boundary : (front back bytes : List ℕ) (c found : ℕ) → bytes ≡ front ++ (encode_utf8 c ++ back) →
    found ≤ length front + length (encode_utf8 c) - 1 → IsCharBoundary bytes found →
    ((i : ℕ) → found < i → i ≤ length front + length (encode_utf8 c) - 1 → ¬ (IsCharBoundary bytes i)) → found ≡ length front
nearest_boundary front back bytes c found parts within boundary nearest =
    let some = has_bytes c in
    let sizes = ap length parts in
    let size = length-append front (encode_utf8 c ++ back) in
    let first = inside_is_none front (encode_utf8 c) back bytes 0 parts some in
    let here : get_or bytes (length front) 0 ≡ get_or (encode_utf8 c) 0 0 = ap (λ n. get_or bytes n 0) (sym (add-zero (length front))) ∙ first in
    let begins : IsCharBoundary bytes (length front) = (omega (arith, sizes, size), λ below high. (let more = begins_character c (omega (arith, here, high)) in omega (arith, here, more))) in
    by (cases_order found (length front)) some begins
  where
    by : (found ≡ length front) ⊎ ((found < length front) ⊎ (length front < found)) → 0 < length (encode_utf8 c) → IsCharBoundary bytes (length front) → found ≡ length front
    by (inl is) some begins = is
    by (inr (inl below)) some begins = absurd (nearest (length front) below (omega (arith, some)) begins)
    by (inr (inr behind)) some begins =
        let i = found - length front in
        let is : found ≡ length front + i = omega (arith, behind) in
        let short : i < length (encode_utf8 c) = omega (arith, within, behind, some) in
        let byte = inside_is_none front (encode_utf8 c) back bytes i parts short in
        let inside = inside_character c i (omega (arith, behind)) short in
        let here : get_or bytes found 0 ≡ get_or (encode_utf8 c) i 0 = ap (λ n. get_or bytes n 0) is ∙ byte in
        let sizes = ap length parts in
        let size = length-append front (encode_utf8 c ++ back) in
        let size_too = length-append (encode_utf8 c) back in
        let high = boundary.1 (omega (arith, sizes, size, size_too, is, short)) (omega (arith, here, inside)) in
        absurd (omega (arith, high, here, inside))

pub last_place : (source rest : List ℕ) (before : Text) (last offset found : ℕ) → encode_utf8_all (chars source) ≡ source → encode_utf8_all (chars rest) ≡ rest →
    chars source ≡ before ++ last ∷ chars rest → offset + length rest ≡ length source → found ≤ offset - 1 → IsCharBoundary source found →
    ((i : ℕ) → found < i → i ≤ offset - 1 → ¬ (IsCharBoundary source i)) → found ≡ length (encode_utf8_all before)
last_place source rest before last offset found source_text rest_text parts sizes within boundary nearest =
    let bytes : source ≡ encode_utf8_all before ++ (encode_utf8 last ++ rest) =
    sym source_text ∙ (ap encode_utf8_all parts ∙ (flat_map-append encode_utf8 before (last ∷ chars rest) ∙ ap (λ r. encode_utf8_all before ++ (encode_utf8 last ++ r)) rest_text)) in
    let size = ap length bytes in
    let size_of = length-append (encode_utf8_all before) (encode_utf8 last ++ rest) in
    let size_too = length-append (encode_utf8 last) rest in
    let is : offset ≡ length (encode_utf8_all before) + length (encode_utf8 last) = omega (arith, sizes, size, size_of, size_too) in
    nearest_boundary (encode_utf8_all before) rest source last found bytes (omega (arith, is, within)) boundary (λ i above below. nearest i above (omega (arith, is, below)))
