-- What a list of strings lacks to be strictly ascending by bytes with no string of one character.
use Rattle.std.specs.Prelude.{◌≡◌, ◌≢◌, All, AllPairs, length, ℕ, Bool, suc, if◌then◌else◌, Option, Some, None, is_some, List, [], ◌∷◌}
use Rattle.std.specs.Option.{option_or}
use Rattle.std.specs.Ordering.{nat_cmp}
use Rattle.std.specs.declared.cmp.Ordering.{Ordering}
use Rattle.std.specs.declared.cmp.Ordering.TheVariants.{Less, Equal, Greater}
use Rattle.std.specs.Cmp.Lexicographic.{slice_cmp}
use Rattle.std.specs.List.{list_any}
use Rattle.std.specs.Str.{chars, bytes_eq}
use Rattle.cp_strset.specs.declared.StringListError.{StringListError}
use Rattle.cp_strset.specs.declared.StringListError.TheVariants.{StringOfOne, NotSorted, NotUnique}

-- the one character of a list of exactly one
abbrev pub sole_of : List ℕ → Option ℕ
sole_of [] = None
sole_of (c ∷ []) = Some c
sole_of (c ∷ d ∷ cs) = None

-- the fault of a string by how it compares with the one before it
abbrev pub fault_of_order : Ordering → ℕ → Option StringListError
fault_of_order Less i = Some (NotSorted i)
fault_of_order Equal i = Some (NotUnique i)
fault_of_order Greater i = None

-- the same, where there may be none before it
abbrev pub fault_behind : Option (List ℕ) → List ℕ → ℕ → Option StringListError
fault_behind None s i = None
fault_behind (Some p) s i = fault_of_order (slice_cmp nat_cmp s p) i

-- the fault of a string, with the one before it and its index
abbrev pub fault_at : Option (List ℕ) → List ℕ → ℕ → Option StringListError
fault_at p s i = if is_some (sole_of (chars s)) then Some (StringOfOne i) else fault_behind p s i

-- The first fault of a list of strings, with the one before them and the index of the first.
abbrev pub fault_from : Option (List ℕ) → ℕ → List (List ℕ) → Option StringListError
fault_from p i [] = None
fault_from p i (s ∷ ss) = option_or (fault_at p s i) (fault_from (Some s) (suc i) ss)

-- whether some string of the list has these bytes
abbrev pub holds : List (List ℕ) → List ℕ → Bool
holds ss bs = list_any (λ s. bytes_eq s bs) ss

-- strictly ascending by bytes, and none has exactly one character
pub record AreCanonical (ss : List (List ℕ)) : Type 0 where
  pub ascending : AllPairs (λ s t. slice_cmp nat_cmp s t ≡ Less) ss
  pub none_of_one : All (λ s. length (chars s) ≢ 1) ss

-- the first fault of a list of strings, if there is one
abbrev pub first_fault : List (List ℕ) → Option StringListError
first_fault ss = fault_from None 0 ss

-- two lists hold the same strings
abbrev pub HoldSame : List (List ℕ) → List (List ℕ) → Type 0
HoldSame a b = (bytes : List ℕ) → holds a bytes ≡ holds b bytes
