-- Page tables as lists.
use Rattle.std.specs.Prelude.{ℕ, List}

-- An outer place has the number of a block, a block has 64 numbers of pages, and a page has 64 values.
pub record PageTables (V : Type 0) : Type 0 where
  pub outer : List ℕ
  pub blocks : List ℕ
  pub values : List V
