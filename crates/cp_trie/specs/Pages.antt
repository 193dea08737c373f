-- What the places of page tables stand for.
use Rattle.std.specs.Prelude.{◌≡◌, ℕ, ◌+◌, ◌*◌, ◌-◌, ◌/◌, ◌%◌, ◌≤◌, Option, Some, List, [], ◌∷◌, ◌++◌, replicate, option_and_then, option_map}
use Rattle.std.specs.List.{slice_get}
use Rattle.cp_trie.specs.PageTables.{PageTables}
use Rattle.cp_trie.specs.Runs.{run_at}
use Rattle.cp_trie.specs.declared.pages.Pages.{Pages}
use Rattle.cp_trie.specs.declared.pages.Pages.TheVariants.{One, Several}
use Rattle.cp_trie.specs.declared.ranges.CodePointMapRange.{CodePointMapRange}

-- the values of the runs one behind another
abbrev pub values_of : {V : Type 0} → List (CodePointMapRange V) → List V
values_of [] = []
values_of (r ∷ rs) = replicate (r.range.end - r.range.start + 1) r.value ++ values_of rs

-- the number of the page that a number lies in: the outer place is that of 4,096 numbers
abbrev pub page_of : {V : Type 0} → PageTables V → ℕ → Option ℕ
page_of t c = option_and_then (λ block. slice_get t.blocks (block * 64 + c / 64 % 64)) (slice_get t.outer (c / 4096))

-- the value that tables lead to from a number
abbrev pub value_by : {V : Type 0} → PageTables V → ℕ → Option V
value_by t c = option_and_then (λ page. slice_get t.values (page * 64 + c % 64)) (page_of t c)

-- the value that stands for a number
abbrev pub led_to : {V : Type 0} → Pages V → ℕ → Option V
led_to (One value) c = Some value
led_to (Several tables) c = value_by tables c

-- what stands for each code point is the value of the run that holds it
abbrev pub AreValuesOf : {V : Type 0} → (ℕ → Option V) → List (CodePointMapRange V) → Type 0
AreValuesOf at rs = (c : ℕ) → c ≤ 0x10_FFFF → at c ≡ option_map (λ r. r.value) (run_at rs c)

-- the same of the places of tables
abbrev pub PlacesStandFor : {V : Type 0} → PageTables V → List (CodePointMapRange V) → Type 0
PlacesStandFor t rs = AreValuesOf (value_by t) rs

-- the same of a map's pages
abbrev pub StandFor : {V : Type 0} → Pages V → List (CodePointMapRange V) → Type 0
StandFor pages rs = AreValuesOf (led_to pages) rs
