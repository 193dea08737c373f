-- What a set with strings is seen as.
use Rattle.std.specs.Prelude.{◌≡◌, ℕ, Bool, ◌&&◌, ◌||◌, nat_eq, nat_le, length, Option, Some, None, List}
use Rattle.std.specs.Cmp.Lexicographic.{pointwise}
use Rattle.std.specs.List.{sum_by}
use Rattle.std.specs.Str.{chars}
use Rattle.cp_invlist.specs.InversionList.{contains}
use Rattle.cp_strset.specs.StringList.{sole_of, holds, HoldSame}

-- the inversion list of the code points, and the strings in order, each by its bytes
pub record StringSet : Type 0 where
  pub code_points : List ℕ
  pub strings : List (List ℕ)

-- two sets have the same code points and the same strings
pub record HaveSameMembers (a b : StringSet) : Type 0 where
  pub code_points : (c : ℕ) → contains a.code_points c ≡ contains b.code_points c
  pub strings : HoldSame a.strings b.strings

-- a text with its one character, where it has exactly one
abbrev pub contains_sole : StringSet → List ℕ → Option ℕ → Bool
contains_sole set bs (Some c) = contains set.code_points c
contains_sole set bs None = holds set.strings bs

-- whether a text is in the set: one character as a code point, any other as a string
abbrev pub contains_text : StringSet → List ℕ → Bool
contains_text set bs = contains_sole set bs (sole_of (chars bs))

-- whether two sets have the same lists
abbrev pub same_members : StringSet → StringSet → Bool
same_members a b = pointwise nat_eq a.code_points b.code_points && pointwise (pointwise nat_eq) a.strings b.strings

-- how many bytes the strings have together
abbrev pub bytes_of : List (List ℕ) → ℕ
bytes_of strings = sum_by (λ s. length s) strings

-- so many strings, or strings of so many bytes, that it takes long to go along them
abbrev pub has_many_strings : List (List ℕ) → Bool
has_many_strings strings = nat_le 64 (length strings) || nat_le 4096 (bytes_of strings)
