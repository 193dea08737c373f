-- Runs whose values are converted one by one.
use Rattle.std.specs.Prelude.{◌≡◌, Option, Some, None, List, [], ◌∷◌, length}
use Rattle.cp_invlist.specs.declared.ranges.CodePointRange.{CodePointRange}
use Rattle.cp_trie.specs.Conversion.{refused_from, first_refused, NamesRefused}
use Rattle.cp_trie.specs.declared.ranges.CodePointMapRange.{CodePointMapRange}
use Rattle.cp_trie.specs.declared.error.ConvertError.{ConvertError}

-- a run with the value before others, or no run at all where there is no value
abbrev pub with_run : {W : Type 0} → CodePointRange → Option W → List (CodePointMapRange W) → List (CodePointMapRange W)
with_run range None rs = []
with_run range (Some w) rs = record { range = range; value = w } ∷ rs

-- the runs with their values converted, up to the first whose value does not convert
abbrev pub runs_by : {V W : Type 0} → (V → Option W) → List (CodePointMapRange V) → List (CodePointMapRange W)
runs_by convert [] = []
runs_by convert (r ∷ rs) = with_run r.range (convert r.value) (runs_by convert rs)

-- the value of each run converts: only an error value behind them can be refused
abbrev pub PassesEach : {V W : Type 0} → (V → Option W) → List (CodePointMapRange V) → Type 0
PassesEach {V} convert rs = (e : V) → first_refused convert e rs ≡ refused_from convert e (length rs) []

-- the refusal names the first run whose value does not convert, whatever error value stands behind the runs
abbrev pub NamesRefusedRun : {V W : Type 0} → (V → Option W) → List (CodePointMapRange V) → ConvertError → Type 0
NamesRefusedRun {V} convert rs error = (e : V) → NamesRefused error (first_refused convert e rs)
