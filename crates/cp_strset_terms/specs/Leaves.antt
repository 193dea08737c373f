-- What the sets that a term names have.
use Rattle.std.specs.Prelude.{ℕ, zero, suc, Bool, true, false, List, [], ◌∷◌, ⊤}
use Rattle.cp_invlist.specs.InversionList.{contains}
use Rattle.cp_strset.specs.StringList.{holds}
use Rattle.cp_strset_terms.specs.Numbers.{AreNumbersOf}
use Rattle.cp_strset_terms.specs.declared.leaf.Leaf.{Leaf}
use Rattle.cp_strset_terms.specs.declared.leaf.Leaf.TheVariants.{CodePoints, WithStrings, Numbered}

-- the inversion list of a leaf
abbrev pub code_points_of : Leaf → List ℕ
code_points_of (CodePoints list) = list.now
code_points_of (WithStrings set) = set.now.code_points
code_points_of (Numbered set numbers) = set.now.code_points

-- the strings of a leaf, each by its bytes
abbrev pub strings_of : Leaf → List (List ℕ)
strings_of (CodePoints list) = []
strings_of (WithStrings set) = set.now.strings
strings_of (Numbered set numbers) = set.now.strings

abbrev pub is_numbered : Leaf → Bool
is_numbered (CodePoints list) = false
is_numbered (WithStrings set) = false
is_numbered (Numbered set numbers) = true

-- where the leaf has numbers, they are those of its strings
abbrev pub FitsNumbers : List (List ℕ) → Leaf → Type 0
FitsNumbers all (CodePoints list) = ⊤
FitsNumbers all (WithStrings set) = ⊤
FitsNumbers all (Numbered set numbers) = AreNumbersOf all set.now.strings numbers.now

-- whether the leaf with the index contains the code point, which no leaf does where there is none
abbrev pub leaf_contains : List Leaf → ℕ → ℕ → Bool
leaf_contains [] c index = false
leaf_contains (leaf ∷ leaves) c zero = contains (code_points_of leaf) c
leaf_contains (leaf ∷ leaves) c (suc index) = leaf_contains leaves c index

-- whether the leaf with the index has the string, which no leaf does where there is none
abbrev pub leaf_holds : List Leaf → List ℕ → ℕ → Bool
leaf_holds [] bytes index = false
leaf_holds (leaf ∷ leaves) bytes zero = holds (strings_of leaf) bytes
leaf_holds (leaf ∷ leaves) bytes (suc index) = leaf_holds leaves bytes index
