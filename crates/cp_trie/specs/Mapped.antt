-- Steps of a walk over runs whose values are mapped as the walk meets them. `post` says which answers the mapping may give at a value.
use Rattle.std.specs.Prelude.{◌≡◌, ℕ, ◌+◌, ◌<◌, ◌≤◌, Bool, true, false, Option, Some, None, List, [], ◌∷◌, length, drop, slice_index_or}
use Rattle.cp_trie.specs.declared.ranges.CodePointMapRange.{CodePointMapRange}

-- the mapping may be called on the value of each run
abbrev pub TakesEach : {T : Type 0} → (T → Type 0) → List (CodePointMapRange T) → Type 0
TakesEach {T} pre rs = (k : ℕ) (d : CodePointMapRange T) → k < length rs → pre (slice_index_or rs k d).value

-- the mapping answers at the value of each run by a function: no two answers of it differ there
abbrev pub IsFunctionOnEach : {T U : Type 0} → (T → U → Type 0) → List (CodePointMapRange T) → Type 0
IsFunctionOnEach {T} {U} post rs =
    (k : ℕ) (d : CodePointMapRange T) (u w : U) → k < length rs → post (slice_index_or rs k d).value u →
    post (slice_index_or rs k d).value w → u ≡ w

-- what a walk keeps of its mapping: at the value of each run that is left it may be called, and answers by a function
abbrev pub KeepsMapping : {T U : Type 0} → (T → Type 0) → (T → U → Type 0) → List (CodePointMapRange T) → Type 0
KeepsMapping pre post rs = TakesEach pre rs × IsFunctionOnEach post rs

-- the mapping may be called on the value of each code point
abbrev pub TakesEachValue : {T : Type 0} → (T → Type 0) → (ℕ → T) → Type 0
TakesEachValue pre at = (c : ℕ) → c ≤ 0x10_FFFF → pre (at c)

-- the mapping answers at the value of each code point by a function
abbrev pub IsFunctionOnValues : {T U : Type 0} → (T → U → Type 0) → (ℕ → T) → Type 0
IsFunctionOnValues {T} {U} post at = (c : ℕ) (u w : U) → c ≤ 0x10_FFFF → post (at c) u → post (at c) w → u ≡ w

-- the mapping may answer at the value with one that the test gives this result for
abbrev pub AnswersWith : {T U : Type 0} → (T → U → Type 0) → (U → Bool) → Bool → T → Type 0
AnswersWith {T} {U} post test b v = (u : U) × post v u × (test u ≡ b)

-- so many runs at the front may have answers that pass the test, and the run behind them, if there is one, one that fails it
abbrev pub IsPassingFront : {T U : Type 0} → (T → U → Type 0) → (U → Bool) → List (CodePointMapRange T) → ℕ → Type 0
IsPassingFront {T} post test rs n =
    (n ≤ length rs)
    × ((k : ℕ) (d : CodePointMapRange T) → k < n → AnswersWith post test true (slice_index_or rs k d).value)
    × ((d : CodePointMapRange T) → n < length rs → AnswersWith post test false (slice_index_or rs n d).value)

-- a step at the first run takes it with those behind it whose answers are equal to its own, as one run with its answer
abbrev pub TakesRun : {T U : Type 0} → (U → U → Bool) → (T → U → Type 0) → List (CodePointMapRange T) →
    CodePointMapRange U → List (CodePointMapRange T) → Type 0
TakesRun eq post [] run rest = ⊥
TakesRun eq post (r ∷ rs) run rest =
    (run.range.start ≡ r.range.start)
    × post r.value run.value
    × (n : ℕ)
    × IsPassingFront post (eq run.value) rs n
    × (run.range.end ≡ (slice_index_or (r ∷ rs) n r).range.end)
    × (rest ≡ drop n rs)

-- a step of the walk: it takes a run, or gives nothing where no run is left
abbrev pub MappedStep : {T U : Type 0} → (U → U → Bool) → (T → U → Type 0) → List (CodePointMapRange T) →
    Option (CodePointMapRange U) → List (CodePointMapRange T) → Type 0
MappedStep eq post rs None rest = (rs ≡ []) × (rest ≡ [])
MappedStep eq post rs (Some run) rest = TakesRun eq post rs run rest

-- The maximal runs of a mapped map from a number on, in order: the first run starts there and has an answer of its first number, the
-- answers at all its numbers are equal to that one, that at the code point behind it is not, and from there on it goes on so up to
-- 10FFFF. Where the mapping answers by a function, each of these answers is the mapped value.
abbrev pub AreMappedRunsFrom : {T U : Type 0} → (U → U → Bool) → (T → U → Type 0) → (ℕ → T) → ℕ →
    List (CodePointMapRange U) → Type 0
AreMappedRunsFrom eq post at n [] = n ≡ 0x11_0000
AreMappedRunsFrom eq post at n (r ∷ rs) =
    (r.range.start ≡ n)
    × (n ≤ r.range.end)
    × (r.range.end ≤ 0x10_FFFF)
    × post (at n) r.value
    × ((c : ℕ) → n ≤ c → c ≤ r.range.end → AnswersWith post (eq r.value) true (at c))
    × (r.range.end < 0x10_FFFF → AnswersWith post (eq r.value) false (at (r.range.end + 1)))
    × AreMappedRunsFrom eq post at (r.range.end + 1) rs

-- all maximal runs of the mapped values, in order: they cover 0 to 10FFFF once
abbrev pub AreMappedRuns : {T U : Type 0} → (U → U → Bool) → (T → U → Type 0) → (ℕ → T) → List (CodePointMapRange U) →
    Type 0
AreMappedRuns eq post at rs = AreMappedRunsFrom eq post at 0 rs
