-- What stands in front of a text, and the runs of the whole.
use Rattle.std.proofs.Common.{◌≡◌, ℕ, suc, ◌+◌, ◌<◌, ◌≤◌, Bool, true, false, not, List, [], ◌∷◌, ◌++◌, length, get_or, take, drop, refl, ap, ◌∙◌, sym, inl, inr, arith, length-take, length-drop, drop-cons}
use Rattle.std.specs.List.{onto_first, prefix_len, position_or_len}
use Rattle.std.proofs.lemmas.Bool.{cases_lt, cond-true, cond-false, not-false, not-true, both_ways}
use Rattle.std.proofs.lemmas.List.{take-append-drop, get_or-take, get_or-drop, nil_from_length, drop_all}
use Rattle.std.proofs.lemmas.List.Sums.{prefix_len_passes, prefix_len_stops, prefix_len-le-length}
use Rattle.text_lines.specs.Fields.{is_blank, begins_blank, runs}

-- each element has this answer to the test
abbrev pub AllAnswer : (ℕ → Bool) → Bool → List ℕ → Type 0
AllAnswer p b xs = (k : ℕ) → k < length xs → p (get_or xs k 0) ≡ b

AllAnswer-tail : (p : ℕ → Bool) (b : Bool) (x : ℕ) (xs : List ℕ) → AllAnswer p b (x ∷ xs) → AllAnswer p b xs
AllAnswer-tail p b x xs h = λ k lt. h (suc k) (omega arith)

AllAnswer-take : (p : ℕ → Bool) (b : Bool) (n : ℕ) (xs : List ℕ) → ((k : ℕ) → k < n → p (get_or xs k 0) ≡ b) → AllAnswer p b (take n xs)
AllAnswer-take p b n xs h = λ k lt. let inside : k < n = omega (arith, length-take n xs) in rw (get_or-take n xs k 0 inside) (h k inside)

-- blanks in front change no run
runs-blanks : (ws rest : List ℕ) → AllAnswer is_blank true ws → runs (ws ++ rest) ≡ runs rest
runs-blanks [] rest h = refl
runs-blanks (w ∷ ws) rest h =
    cond-true (is_blank w) _ _ (h 0 (omega arith)) ∙ runs-blanks ws rest (AllAnswer-tail is_blank true w ws h)

runs-behind_blanks : (xs : List ℕ) → runs xs ≡ runs (drop (prefix_len is_blank xs) xs)
runs-behind_blanks xs =
    let n = prefix_len is_blank xs in
    ap runs (sym (take-append-drop n xs))
    ∙ runs-blanks (take n xs) (drop n xs) (AllAnswer-take is_blank true n xs (λ k lt. prefix_len_passes is_blank xs k 0 lt))

-- a word in front, up to a blank or the end, is the first run
runs-word : (w : ℕ) (ws rest : List ℕ) → AllAnswer is_blank false (w ∷ ws) → begins_blank rest ≡ true → runs (w ∷ (ws ++ rest)) ≡ (w ∷ ws) ∷ runs rest
runs-word w [] rest h e = cond-false (is_blank w) _ _ (h 0 (omega arith)) ∙ cond-true (begins_blank rest) _ _ e
runs-word w (v ∷ ws) rest h e =
    cond-false (is_blank w) _ _ (h 0 (omega arith))
    ∙ (cond-false (is_blank v) _ _ (h 1 (omega arith))
    ∙ ap (onto_first w) (runs-word v ws rest (AllAnswer-tail is_blank false w (v ∷ ws) h) e))

runs-word_front : (word rest : List ℕ) → 0 < length word → AllAnswer is_blank false word → begins_blank rest ≡ true → runs (word ++ rest) ≡ word ∷ runs rest
runs-word_front [] rest some h e = absurd (omega arith)
runs-word_front (w ∷ ws) rest some h e = runs-word w ws rest h e

begins_blank-drop : (n : ℕ) (xs : List ℕ) → (n < length xs → is_blank (get_or xs n 0) ≡ true) → begins_blank (drop n xs) ≡ true
begins_blank-drop n xs h = elim (cases_lt n (length xs)) [
  | inl lt ↦ ap begins_blank (drop-cons xs n 0 lt) ∙ h lt
  | inr le ↦ ap begins_blank (drop_all n xs le)
]

-- the first run is what stands before the first blank, unless nothing stands there
runs-first : (xs : List ℕ) → 0 < length (take (position_or_len is_blank xs) xs) → runs xs ≡ take (position_or_len is_blank xs) xs ∷ runs (drop (position_or_len is_blank xs) xs)
runs-first xs some =
    let n = position_or_len is_blank xs in
    ap runs (sym (take-append-drop n xs))
    ∙ runs-word_front (take n xs) (drop n xs) some
    (AllAnswer-take is_blank false n xs (λ k lt. not-true (is_blank (get_or xs k 0)) (prefix_len_passes (λ x. not (is_blank x)) xs k 0 lt)))
    (begins_blank-drop n xs (λ lt. not-false (is_blank (get_or xs n 0)) (prefix_len_stops (λ x. not (is_blank x)) xs 0 lt)))

-- nothing but blanks has no run
runs-none : (xs : List ℕ) → length (take (position_or_len is_blank (drop (prefix_len is_blank xs) xs)) (drop (prefix_len is_blank xs) xs)) ≡ 0 → runs xs ≡ []
runs-none xs none =
    let n = prefix_len is_blank xs in
    let ys = drop n xs in
    let m = position_or_len is_blank ys in
    let short : m ≤ length ys = prefix_len-le-length (λ x. not (is_blank x)) ys in
    let zero_len : m ≡ 0 = omega (arith, length-take m ys) in
    let empty : ys ≡ [] = elim (cases_lt 0 (length ys)) [
      | inr le ↦ nil_from_length ys (omega arith)
      | inl lt ↦
          let blank : is_blank (get_or ys 0 0) ≡ true =
          not-false (is_blank (get_or ys 0 0)) (ap (λ k. not (is_blank (get_or ys k 0))) (sym zero_len) ∙ prefix_len_stops (λ x. not (is_blank x)) ys 0 (omega arith)) in
          let same : n + 0 ≡ n = omega arith in
          let word : is_blank (get_or xs (n + 0) 0) ≡ false =
          ap (λ (k : ℕ). is_blank (get_or xs k 0)) same ∙ prefix_len_stops is_blank xs 0 (omega (arith, length-drop n xs)) in
          absurd (both_ways _ (ap is_blank (get_or-drop n xs 0 0) ∙ word) blank)
    ] in
    runs-behind_blanks xs ∙ ap runs empty

-- what stands behind the blanks in front is the first run and the rest, or nothing
pub runs-split : (xs text field rest : List ℕ) → text ≡ drop (prefix_len is_blank xs) xs → field ≡ take (position_or_len is_blank text) text → rest ≡ drop (position_or_len is_blank text) text →
    (0 < length field → runs xs ≡ field ∷ runs rest) × (length field ≡ 0 → runs xs ≡ [])
runs-split xs text field rest behind before after = (
  λ some. runs-behind_blanks xs ∙ (ap runs (sym behind) ∙ rw (before, after) (runs-first text (rw before at some))),
  λ none. runs-none xs (rw (← behind, ← before) none),
)
