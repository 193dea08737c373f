-- The tables that a table text means, and that a database holds, each kind by the numbers of its tables.
use Rattle.std.specs.Prelude.{ℕ, Bool, List, Option}
use Rattle.prop_names.specs.Names.{Names}

-- the members of an emoji table: code points, and strings by their bytes
pub record EmojiMembers : Type 0 where
  pub code_points : ℕ → Bool
  pub strings : List ℕ → Bool

-- the scripts with extensions: the number at each code point and past the last, and the numbers that the header and the rows name
pub record ScriptNumbers : Type 0 where
  pub values : ℕ → ℕ
  pub named : List ℕ

-- a list of scripts, and whether its header has a script, which then comes first
pub record ExtensionList : Type 0 where
  pub has_script : Bool
  pub scripts : List ℕ

pub record Tables : Type 0 where
  -- the members of each set
  pub sets : ℕ → Option (ℕ → Bool)
  -- the number of the value at each code point, and past the last
  pub maps : ℕ → Option (ℕ → ℕ)
  -- the names with the numbers of their values, in the order of the names
  pub names : ℕ → Option Names
  -- the long and the short name of each number
  pub long : ℕ → Option (ℕ → Option (List ℕ))
  pub short : ℕ → Option (ℕ → Option (List ℕ))
  -- the members of each emoji table
  pub emoji : ℕ → Option EmojiMembers
  -- the scripts with extensions
  pub scripts : Option ScriptNumbers
  -- the list at each index
  pub extensions : ℕ → Option ExtensionList
