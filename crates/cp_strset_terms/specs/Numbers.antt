-- Numbers of strings: each string that has one stands at that index of a list.
use Rattle.std.specs.Prelude.{◌≡◌, ◌≢◌, ◌<◌, ◌↔◌, ◌++◌, ℕ, true, All, List, Some, length, map}
use Rattle.std.specs.declared.string.String.{String}
use Rattle.std.specs.BTreeMap.{BTreeMap, get_by_text}
use Rattle.std.specs.Global.{Global}
use Rattle.std.specs.List.{slice_get}
use Rattle.std.specs.Str.{chars}
use Rattle.cp_strset.specs.StringList.{holds}
use Rattle.cp_strset_terms.specs.NumberSets.{has_number}
use Rattle.cp_strset_terms.specs.Places.{IsAt}

-- All these strings have a number, and the set of numbers says of each string that has one whether it is one of these.
pub record AreNumbersOf (all strings numbers : List (List ℕ)) : Type 0 where
  pub known : (bytes : List ℕ) → holds strings bytes ≡ true → holds all bytes ≡ true
  pub told : (number : ℕ) (bytes : List ℕ) → IsAt all number bytes → has_number numbers number ≡ holds strings bytes
  pub within : (number : ℕ) → has_number numbers number ≡ true → number < length all

-- the numbers of strings are theirs still
abbrev pub KeepsNumbers : List (List ℕ) → List (List ℕ) → Type 0
KeepsNumbers old new = (strings numbers : List (List ℕ)) →
    AreNumbersOf old strings numbers → AreNumbersOf new strings numbers

-- one list goes on where the other ends, by some of these strings alone
pub record Grows (strings old new : List (List ℕ)) : Type 0 where
  pub more : List (List ℕ)
  pub is : new ≡ old ++ more
  pub theirs : (bytes : List ℕ) → holds more bytes ≡ true → holds strings bytes ≡ true

-- no string stands at two places
abbrev pub StandOnce : List (List ℕ) → Type 0
StandOnce all = (i j : ℕ) (bytes : List ℕ) → IsAt all i bytes → IsAt all j bytes → i ≡ j

-- the numbers are those of the strings, in their order
abbrev pub AreNumbered : List (List ℕ) → List ℕ → List (List ℕ) → Type 0
AreNumbered all numbers strings = map (λ number. slice_get all number) numbers ≡ map (λ s. Some s) strings

-- the strings are found by their bytes, and none has exactly one character
pub record AreIndexed (all : List (List ℕ)) (indices : BTreeMap (String Global) ℕ) : Type 0 where
  pub found : (bytes : List ℕ) (number : ℕ) → (get_by_text indices bytes ≡ Some number) ↔ IsAt all number bytes
  pub none_of_one : All (λ s. length (chars s) ≢ 1) all
