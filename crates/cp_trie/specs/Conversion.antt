-- The values of a map, packed and unpacked as values of another type.
use Rattle.std.specs.Prelude.{◌≡◌, ℕ, ◌+◌, Bool, Option, Some, None, is_some, Result, MatchResult, List, [], ◌∷◌, if◌then◌else◌}
use Rattle.cp_trie.specs.Map.{CodePointMap, value_at}
use Rattle.cp_trie.specs.Runs.{AreMaximalRuns}
use Rattle.cp_trie.specs.declared.ranges.CodePointMapRange.{CodePointMapRange}
use Rattle.cp_trie.specs.declared.error.ConvertError.{ConvertError}
use Rattle.cp_trie.specs.declared.error.ConvertError.TheVariants.{Value, NoMemory}

-- the value of the other type that a value's number unpacks to
abbrev pub conversion : {V W : Type 0} → (V → ℕ) → (ℕ → Option W) → V → Option W
conversion packed unpacked v = unpacked (packed v)

-- The index of the first run, from the run of an index on, whose value does not convert; after all runs it is that of the error
-- value, which stands behind them.
abbrev pub refused_from : {V W : Type 0} → (V → Option W) → V → ℕ → List (CodePointMapRange V) → Option ℕ
refused_from convert error index [] = if is_some (convert error) then None else Some index
refused_from convert error index (r ∷ rs) =
    if is_some (convert r.value) then refused_from convert error (index + 1) rs else Some index

-- the index of the first value that does not convert, among those of the runs and the error value
abbrev pub first_refused : {V W : Type 0} → (V → Option W) → V → List (CodePointMapRange V) → Option ℕ
first_refused convert error rs = refused_from convert error 0 rs

-- a refusal names the first value that does not convert, or says that memory was refused
abbrev pub NamesRefused : ConvertError → Option ℕ → Type 0
NamesRefused (Value index) refused = refused ≡ Some index
NamesRefused NoMemory refused = Unit {0}

-- the second map has at each number what the value of the first converts to
abbrev pub ConvertsTo : {V W : Type 0} → (V → Option W) → CodePointMap V → CodePointMap W → Type 0
ConvertsTo convert old new = (c : ℕ) → convert (value_at old c) ≡ Some (value_at new c)

-- The answer is a map only where each value of the map converts, the error value too; a refusal names the first that does not,
-- counted along the maximal runs, or says that memory was refused.
abbrev pub NamesFirstRefused : {V W M : Type 0} → (V → V → Bool) → (V → Option W) → CodePointMap V →
    Result M ConvertError → Type 0
NamesFirstRefused {V} eq convert m result =
    (rs : List (CodePointMapRange V)) → AreMaximalRuns eq (value_at m) rs →
    MatchResult result (λ _. first_refused convert m.error_value rs ≡ None)
    (λ e. NamesRefused e (first_refused convert m.error_value rs))
