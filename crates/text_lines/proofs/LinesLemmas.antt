-- A line in front of a text, and the lines of the whole.
use Rattle.std.proofs.Common.{◌≡◌, ℕ, ◌+◌, ◌-◌, ◌<◌, ◌≢◌, Bool, true, false, cond, ◌==◌, All, List, [], ◌∷◌, ◌++◌, length, get_or, take, map, refl, sym, ap, ◌∙◌, append_assoc, append-nil, arith, length-append, Option, None, Some, unwrap_or, MatchOption, Bor}
use Rattle.std.proofs.Math.Seq.{get_or-append_seam, take-append_seam}
use Rattle.std.proofs.lemmas.Bool.{cond-true, cond-false, eq-eqb, ne_eqb}
use Rattle.std.proofs.lemmas.List.{take_more, take_all}
use Rattle.std.proofs.lemmas.List.Elements.{All-from_get_or}
use Rattle.std.proofs.lemmas.List.Splits.{slice_split_at, slice_split_none, length-slice_split}
use Rattle.std.specs.List.{onto_first, slice_split}
use Rattle.std.specs.Str.Lines.{lines, lines_of_parts, strip_carriage_return}

-- no LF stands in the text
abbrev pub HasNoEnding : List ℕ → Type 0
HasNoEnding xs = (k : ℕ) → k < length xs → get_or xs k 0 ≢ 0x0A

abbrev is_feed : ℕ → Bool
is_feed b = b == 0x0A

-- the parts between the LFs of a text
abbrev parts : List ℕ → List (List ℕ)
parts text = slice_split is_feed text

none_passes : (xs : List ℕ) → HasNoEnding xs → All (λ b. is_feed b ≡ false) xs
none_passes xs h = All-from_get_or (λ b. is_feed b ≡ false) xs 0 (λ k lt. ne_eqb (get_or xs k 0) 0x0A (h k lt))

parts-some : (text : List ℕ) → 0 < length (parts text)
parts-some text = omega (arith, length-slice_split is_feed text)

lines_of_parts-cons : (x : List ℕ) (more : List (List ℕ)) → 0 < length more → lines_of_parts (x ∷ more) ≡ strip_carriage_return x ∷ lines_of_parts more
lines_of_parts-cons x [] some = absurd (omega arith)
lines_of_parts-cons x (y ∷ more) some = refl

-- a line that ends with an LF
pub lines-ended_first : (xs rest : List ℕ) → HasNoEnding xs → lines (xs ++ 0x0A ∷ rest) ≡ strip_carriage_return xs ∷ lines rest
lines-ended_first xs rest h =
    ap lines_of_parts (slice_split_at is_feed xs 0x0A rest (none_passes xs h) refl) ∙ lines_of_parts-cons xs (parts rest) (parts-some rest)

-- a last line without an ending
pub lines-last : (xs : List ℕ) → HasNoEnding xs → 0 < length xs → lines xs ≡ xs ∷ []
lines-last xs h some =
    ap lines_of_parts (slice_split_none is_feed xs (none_passes xs h)) ∙ cond-false (length xs == 0) [] (xs ∷ []) (ne_eqb (length xs) 0 (λ e. omega (arith, e)))

-- a line whose last byte is no CR stays
pub strip-other : (xs : List ℕ) → (0 < length xs → get_or xs (length xs - 1) 0 ≢ 0x0D) → strip_carriage_return xs ≡ xs
strip-other [] other = refl
strip-other (x ∷ xs) other =
    let n = length (x ∷ xs) - 1 in
    cond-false (get_or (x ∷ xs) n 0 == 0x0D) (take n (x ∷ xs)) (x ∷ xs) (ne_eqb (get_or (x ∷ xs) n 0) 0x0D (other (omega arith)))

strip-plain : (xs : List ℕ) → ((front : List ℕ) → xs ≢ front ++ 0x0D ∷ []) → strip_carriage_return xs ≡ xs
strip-plain xs plain = strip-other xs (λ some e. plain (take (length xs - 1) xs) (whole some ∙ ap (λ c. take (length xs - 1) xs ++ c ∷ []) e))
  where
    whole : 0 < length xs → xs ≡ take (length xs - 1) xs ++ get_or xs (length xs - 1) 0 ∷ []
    whole some = sym (take_all (length xs - 1 + 1) xs (omega arith)) ∙ take_more xs (length xs - 1) 0 (omega arith)

pub strip-ended : (xs : List ℕ) → strip_carriage_return (xs ++ 0x0D ∷ []) ≡ xs
strip-ended xs =
    let end : length (xs ++ 0x0D ∷ []) - 1 ≡ length xs = omega (arith, length-append xs (0x0D ∷ [])) in
    let last : get_or (xs ++ 0x0D ∷ []) (length (xs ++ 0x0D ∷ []) - 1) 0 ≡ 0x0D = ap (λ n. get_or (xs ++ 0x0D ∷ []) n 0) end ∙ get_or-append_seam xs 0x0D [] 0 in
    cond-true (get_or (xs ++ 0x0D ∷ []) (length (xs ++ 0x0D ∷ []) - 1) 0 == 0x0D) (take (length (xs ++ 0x0D ∷ []) - 1) (xs ++ 0x0D ∷ [])) (xs ++ 0x0D ∷ []) (eq-eqb _ 0x0D last)
    ∙ (ap (λ n. take n (xs ++ 0x0D ∷ [])) end ∙ take-append_seam xs (0x0D ∷ []))

-- The line before the first LF of a text, less the CR at its end, is the text's first line.
pub lines-first : (text : List ℕ) (line rest : Bor (List ℕ)) (stripped : Option (Bor (List ℕ))) → text ≡ line.now ++ (0x0A ∷ rest.now) → HasNoEnding line.now →
    MatchOption stripped ((front : List ℕ) → line.now ≢ front ++ (0x0D ∷ [])) (λ x. line.now ≡ x.now ++ (0x0D ∷ [])) →
    lines text ≡ (unwrap_or stripped line).now ∷ lines rest.now
lines-first text line rest None e h plain =
    ap lines e ∙ (lines-ended_first line.now rest.now h ∙ ap (λ l. l ∷ lines rest.now) (strip-plain line.now plain))
lines-first text line rest (Some x) e h cut =
    ap lines e ∙ (lines-ended_first line.now rest.now h ∙ ap (λ l. l ∷ lines rest.now) (ap strip_carriage_return cut ∙ strip-ended x.now))

slice_split-ended : (xs rest : List ℕ) → parts (xs ++ 0x0A ∷ rest) ≡ parts xs ++ parts rest
slice_split-ended [] rest = refl
slice_split-ended (x ∷ xs) rest = by (is_feed x) (parts xs) (parts-some xs) (slice_split-ended xs rest)
  where
    by : (b : Bool) (front : List (List ℕ)) → 0 < length front → parts (xs ++ 0x0A ∷ rest) ≡ front ++ parts rest →
        cond b ([] ∷ parts (xs ++ 0x0A ∷ rest)) (onto_first x (parts (xs ++ 0x0A ∷ rest))) ≡ cond b ([] ∷ front) (onto_first x front) ++ parts rest
    by true front some e = ap (λ ps. [] ∷ ps) e
    by false [] some e = absurd (omega arith)
    by false (l ∷ front) some e = ap (onto_first x) e

lines_of_parts-append : (front more : List (List ℕ)) → 0 < length more → lines_of_parts (front ++ more) ≡ map strip_carriage_return front ++ lines_of_parts more
lines_of_parts-append [] more some = refl
lines_of_parts-append (l ∷ front) more some =
    lines_of_parts-cons l (front ++ more) (omega (arith, length-append front more)) ∙ ap (λ ls. strip_carriage_return l ∷ ls) (lines_of_parts-append front more some)

lines-cut_behind : (xs rest : List ℕ) → lines (xs ++ 0x0A ∷ rest) ≡ map strip_carriage_return (parts xs) ++ lines rest
lines-cut_behind xs rest = ap lines_of_parts (slice_split-ended xs rest) ∙ lines_of_parts-append (parts xs) (parts rest) (parts-some rest)

-- the lines of whole lines and what stands behind them
pub lines-ended : (xs rest : List ℕ) → lines ((xs ++ 0x0A ∷ []) ++ rest) ≡ lines (xs ++ 0x0A ∷ []) ++ lines rest
lines-ended xs rest =
    ap lines (append_assoc xs (0x0A ∷ []) rest) ∙ (lines-cut_behind xs rest
    ∙ ap (λ ls. ls ++ lines rest) (sym (lines-cut_behind xs [] ∙ append-nil (map strip_carriage_return (parts xs)))))
