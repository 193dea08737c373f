-- Texts among which are all strings of a term.
use Rattle.std.proofs.Common.{◌≡◌, ◌≢◌, ◌<◌, ◌≤◌, ◌+◌, ◌-◌, ◌*◌, ◌/◌, ◌%◌, ◌||◌, ℕ, zero, suc, true, false, true≢false, All, List, [], ◌∷◌, ◌++◌, length, map, take, drop, get_or, nat_le, sym, subst, ap, ◌∙◌, arith, inl, inr}
use Rattle.std.proofs.Math.Bool.{or-true}
use Rattle.std.proofs.lemmas.Bool.{cases_Bool, and_parts, leb-true}
use Rattle.std.proofs.lemmas.List.{take_more, take-map, drop-map}
use Rattle.std.proofs.lemmas.List.Elements.{All-take, All-drop}
use Rattle.std.proofs.lemmas.List.Folds.{list_any-append}
use Rattle.std.proofs.lemmas.Nat.{div-add-mod'}
use Rattle.std.specs.declared.string.String.{String}
use Rattle.std.specs.Global.{Global}
use Rattle.std.specs.List.{flat_map}
use Rattle.std.specs.Str.{bytes_eq, chars}
use Rattle.std.specs.String.{string_bytes}
use Rattle.cp_invlist.specs.declared.ranges.CodePointRange.{CodePointRange}
use Rattle.cp_invlist.specs.Ranges.{in_range, in_ranges}
use Rattle.cp_strset.specs.StringList.{holds}
use Rattle.cp_strset_terms.specs.declared.leaf.Leaf.{Leaf}
use Rattle.cp_strset_terms.specs.declared.leaf.Leaf.TheVariants.{CodePoints, WithStrings, Numbered}
use Rattle.cp_strset_terms.specs.Leaves.{strings_of, is_numbered, FitsNumbers}
use Rattle.cp_strset_terms.specs.Places.{IsAt}
use Rattle.cp_strset_terms.proofs.LeavesLemmas.{holds-leaf_more}
use Rattle.cp_strset_terms.proofs.NumbersLemmas.{at_held}

-- all strings of a leaf with numbers have one
known_of_numbered : (all : List (List ℕ)) (leaf : Leaf) → is_numbered leaf ≡ true → FitsNumbers all leaf → (bytes : List ℕ) → holds (strings_of leaf) bytes ≡ true → holds all bytes ≡ true
known_of_numbered all (CodePoints list) numbered fits bytes held = cc
known_of_numbered all (WithStrings set) numbered fits bytes held = cc
known_of_numbered all (Numbered set numbers) numbered fits bytes held = fits.known bytes held

holds-taken : (leaves : List Leaf) (i : ℕ) (d : Leaf) (bytes : List ℕ) → i < length leaves →
    holds (flat_map strings_of (take (i + 1) leaves)) bytes ≡ (holds (flat_map strings_of (take i leaves)) bytes || holds (strings_of (get_or leaves i d)) bytes)
holds-taken leaves i d bytes within = ap (λ l. holds (flat_map strings_of l) bytes) (take_more leaves i d within) ∙ holds-leaf_more (take i leaves) (get_or leaves i d) bytes

-- a leaf more that is taken has its strings
pub rest_taken : (leaves rest : List Leaf) (i : ℕ) (d : Leaf) (bytes : List ℕ) → i < length leaves →
    (holds (flat_map strings_of (take i leaves)) bytes ≡ true → holds (flat_map strings_of rest) bytes ≡ true) →
    holds (flat_map strings_of (take (i + 1) leaves)) bytes ≡ true → holds (flat_map strings_of (rest ++ get_or leaves i d ∷ [])) bytes ≡ true
rest_taken leaves rest i d bytes within before held =
    let leaf = get_or leaves i d in
    let either = sym (holds-taken leaves i d bytes within) ∙ held in
    holds-leaf_more rest leaf bytes ∙ elim (cases_Bool (holds (flat_map strings_of (take i leaves)) bytes)) [
      | inl earlier ↦ ap (λ b. b || holds (strings_of leaf) bytes) (before earlier)
      | inr none ↦ (
          let here : holds (strings_of leaf) bytes ≡ true = sym (ap (λ b. b || holds (strings_of leaf) bytes) none) ∙ either in
          ap (λ b. holds (flat_map strings_of rest) bytes || b) here ∙ or-true (holds (flat_map strings_of rest) bytes))
    ]

-- one that is passed over has only strings with a number
pub rest_passed : (all : List (List ℕ)) (leaves rest : List Leaf) (i : ℕ) (d : Leaf) (bytes : List ℕ) → i < length leaves → is_numbered (get_or leaves i d) ≡ true →
    All (FitsNumbers all) leaves → holds all bytes ≡ false → (holds (flat_map strings_of (take i leaves)) bytes ≡ true → holds (flat_map strings_of rest) bytes ≡ true) →
    holds (flat_map strings_of (take (i + 1) leaves)) bytes ≡ true → holds (flat_map strings_of rest) bytes ≡ true
rest_passed all leaves rest i d bytes within numbered fits absent before held =
    let leaf = get_or leaves i d in
    let either = sym (holds-taken leaves i d bytes within) ∙ held in
    elim (cases_Bool (holds (flat_map strings_of (take i leaves)) bytes)) [
      | inl earlier ↦ before earlier
      | inr none ↦ (
          let here : holds (strings_of leaf) bytes ≡ true = sym (ap (λ b. b || holds (strings_of leaf) bytes) none) ∙ either in
          absurd (true≢false (sym (known_of_numbered all leaf numbered (fits i d within) bytes here) ∙ absent)))
    ]

at_drop : (xs : List (List ℕ)) (k n : ℕ) (s : List ℕ) → IsAt xs n s → k ≤ n → IsAt (drop k xs) (n - k) s
at_drop xs zero n s h from = (let same : n ≡ n - 0 = omega arith in subst (λ i. IsAt xs i s) same h)
at_drop xs (suc k) zero s h from = absurd (omega arith)
at_drop [] (suc k) (suc n) s h from = cc
at_drop (x ∷ xs) (suc k) (suc n) s h from = (let same : n - k ≡ suc n - suc k = omega arith in subst (λ i. IsAt (drop k xs) i s) same (at_drop xs k n s h (omega arith)))

at_take : (xs : List (List ℕ)) (n i : ℕ) (s : List ℕ) → IsAt xs i s → i < n → IsAt (take n xs) i s
at_take xs zero i s h below = absurd (omega arith)
at_take [] (suc n) i s h below = cc
at_take (x ∷ xs) (suc n) zero s h below = h
at_take (x ∷ xs) (suc n) (suc i) s h below = at_take xs n i s h (omega arith)

piece_of : (strings : List (String Global)) (start count : ℕ) → map string_bytes (take count (drop start strings)) ≡ take count (drop start (map string_bytes strings))
piece_of strings start count = sym (take-map string_bytes count (drop start strings)) ∙ ap (take count) (sym (drop-map string_bytes start strings))

-- a string at a place of a piece is one of the piece
pub held_in_piece : (strings : List (String Global)) (start count number : ℕ) (text : List ℕ) → IsAt (map string_bytes strings) number text → start ≤ number → number < start + count →
    holds (map string_bytes (take count (drop start strings))) text ≡ true
held_in_piece strings start count number text at from before =
    let there = at_drop (map string_bytes strings) start number text at from in
    ap (λ l. holds l text) (piece_of strings start count)
    ∙ at_held (take count (drop start (map string_bytes strings))) (number - start) text (at_take (drop start (map string_bytes strings)) count (number - start) text there (omega arith))

pub none_of_one_in_piece : (strings : List (String Global)) (start count : ℕ) → All (λ s. length (chars s) ≢ 1) (map string_bytes strings) →
    All (λ s. length (chars s) ≢ 1) (map string_bytes (take count (drop start strings)))
none_of_one_in_piece strings start count h =
    subst (All (λ s. length (chars s) ≢ 1)) (sym (piece_of strings start count))
    (All-take (λ s. length (chars s) ≢ 1) count (drop start (map string_bytes strings)) (All-drop (λ s. length (chars s) ≢ 1) start (map string_bytes strings) h))

-- what a range holds lies between its ends
pub between_ends : (range : CodePointRange) (number : ℕ) → in_range range number ≡ true → (range.start ≤ number) × (number ≤ range.end)
between_ends range number h =
    let both = and_parts (nat_le range.start number) (nat_le number range.end) h in
    (leb-true range.start number both.0, leb-true number range.end both.1)

-- what a list of texts holds, it holds with more behind them
pub holds-behind : (old more new : List (List ℕ)) (text : List ℕ) → new ≡ old ++ more → (holds old text || holds more text) ≡ true → holds new text ≡ true
holds-behind old more new text is h = ap (λ l. holds l text) is ∙ (list_any-append (λ s. bytes_eq s text) old more ∙ h)

-- where the strings of the first range left are put behind the texts, they hold what they held or what lies in one of the ranges, or it lies in the next ranges
pub range_pushed : (old more new : List (List ℕ)) (text : List ℕ) (range : CodePointRange) (ranges : List CodePointRange) (number : ℕ) → new ≡ old ++ more →
    (in_range range number ≡ true → holds more text ≡ true) → (holds old text || in_ranges (range ∷ ranges) number) ≡ true → (holds new text || in_ranges ranges number) ≡ true
range_pushed old more new text range ranges number is here h = elim (cases_Bool (holds old text)) [
  | inl held ↦ ap (λ b. b || in_ranges ranges number) (holds-behind old more new text is (ap (λ b. b || holds more text) held))
  | inr lacks ↦ elim (cases_Bool (in_range range number)) [
    | inl inside ↦ ap (λ b. b || in_ranges ranges number) (holds-behind old more new text is (ap (λ b. holds old text || b) (here inside) ∙ or-true (holds old text)))
    | inr outside ↦ (
        let left : in_ranges ranges number ≡ true = sym (ap (λ b. b || in_ranges ranges number) outside) ∙ (sym (ap (λ b. b || (in_range range number || in_ranges ranges number)) lacks) ∙ h) in
        ap (λ b. holds new text || b) left ∙ or-true (holds new text))
  ]
]

-- a string with a number of a piece stands at its place behind the strings in front of that piece
pub at_behind : (strings : List (String Global)) (start number : ℕ) (text : List ℕ) → start ≡ number / 0x11_0000 * 0x11_0000 → IsAt (map string_bytes strings) number text →
    IsAt (map string_bytes (drop start strings)) (number % 0x11_0000) text
at_behind strings start number text front at =
    let whole = div-add-mod' number 0x11_0000 in
    let from : start ≤ number = omega arith in
    let place : number - start ≡ number % 0x11_0000 = omega arith in
    subst (λ l. IsAt l (number % 0x11_0000) text) (drop-map string_bytes start strings)
    (subst (λ i. IsAt (drop start (map string_bytes strings)) i text) place (at_drop (map string_bytes strings) start number text at from))
