-- Lists of values that are cut into rows of 64, where a number says which row is meant.
use Rattle.std.specs.Prelude.{◌≡◌, ℕ, ◌+◌, ◌*◌, ◌%◌, ◌≤◌, List, [], ◌∷◌, ◌++◌, length, take, drop, replicate}
use Rattle.cp_trie.specs.declared.rows.Repeated.{Repeated}
use Rattle.cp_trie.specs.declared.rows.Rows.{Rows}

-- the row of a number: 64 values behind those of so many rows
abbrev pub row_of : {V : Type 0} → List V → ℕ → List V
row_of values n = take 64 (drop (n * 64) values)

-- each of the rows is whole
abbrev pub AreWhole : {V : Type 0} → List V → List ℕ → Type 0
AreWhole values [] = Unit {0}
AreWhole values (n ∷ ns) = (n * 64 + 64 ≤ length values) × AreWhole values ns

-- the values of rows one behind another
abbrev pub rows_of : {V : Type 0} → List V → List ℕ → List V
rows_of values [] = []
rows_of values (n ∷ ns) = row_of values n ++ rows_of values ns

-- numbers one behind another, each as often as it comes
abbrev pub spelled : List Repeated → List ℕ
spelled [] = []
spelled (r ∷ rs) = replicate r.count r.number ++ spelled rs

-- the first list with at most one row behind it, so that whole rows stay
pub record Extends {V : Type 0} (old new : List V) : Type 0 where
  pub more : List V
  pub behind : new ≡ old ++ more
  pub few : length more ≤ 64
  pub whole : length new % 64 ≡ 0

-- the values of the whole rows
abbrev pub laid : {V : Type 0} → Rows V → List V
laid s = rows_of s.shelf.values.items (spelled s.numbers.items)

-- all values that were taken, where so many are those of the row that is begun
abbrev pub taken : {V : Type 0} → Rows V → ℕ → List V
taken s n = laid s ++ take n s.row

-- the shelf has whole rows alone, no more than numbers, and the rows of all numbers; the row that is begun has 64 places, and as
-- many behind them
pub record IsCut {V : Type 0} (s : Rows V) : Type 0 where
  pub places : length s.row ≡ 128
  pub whole : length s.shelf.values.items % 64 ≡ 0
  pub few : length s.shelf.values.items ≤ 64 * length (spelled s.numbers.items)
  pub within : AreWhole s.shelf.values.items (spelled s.numbers.items)
