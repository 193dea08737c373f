-- Words of 64 bits, whose bits say which of 64 numbers are members.
use Rattle.std.specs.Prelude.{◌≡◌, ◌⊎◌, ℕ, ◌+◌, ◌*◌, ◌<◌, Bool, ◌==◌, List, [], length, Some, slice_get}
use Rattle.std.specs.Int.{bit_at}
use Rattle.cp_invlist.specs.InversionList.{contains, IsInversionList}

-- the bit with the index is 1
abbrev pub has_bit : ℕ → ℕ → Bool
has_bit word j = bit_at word j == 1

-- the word says which of the 64 numbers from the place on are members of the set
abbrev pub IsWord : List ℕ → ℕ → ℕ → Type 0
IsWord xs place word = (j : ℕ) → j < 64 → has_bit word j ≡ contains xs (place + j)

-- each word says which of its 64 numbers are members, the first of 0 to 63
abbrev pub AreWords : List ℕ → List ℕ → Type 0
AreWords xs words = (i word : ℕ) → slice_get words i ≡ Some word → IsWord xs (64 * i) word

-- there is no word, or one for each 64 code points
abbrev pub AreAllOrNone : List ℕ → Type 0
AreAllOrNone words = (words ≡ []) ⊎ (length words ≡ 17408)

-- an inversion list and words of it, all or none
pub record IsIndexed (xs words : List ℕ) : Type 0 where
  pub list : IsInversionList xs
  pub indexed : AreWords xs words
  pub whole : AreAllOrNone words
