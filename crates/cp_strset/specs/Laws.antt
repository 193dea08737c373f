-- Laws of lists of strings, over the definitions alone.
use Rattle.std.specs.Prelude.{◌≡◌, ℕ, ◌↔◌, None, List}
use Rattle.cp_strset.specs.StringList.{first_fault, AreCanonical, HoldSame}

-- The lists without a fault are those that are strictly ascending by bytes and have no string of one character.
abbrev pub FaultlessAreCanonical : Type 0
FaultlessAreCanonical = (strings : List (List ℕ)) → (first_fault strings ≡ None) ↔ AreCanonical strings

-- Two lists of strings in order that hold the same strings are one list.
abbrev pub OneListOfStrings : Type 0
OneListOfStrings = (a b : List (List ℕ)) → AreCanonical a → AreCanonical b → HoldSame a b → a ≡ b
