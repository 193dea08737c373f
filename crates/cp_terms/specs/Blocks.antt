-- Blocks of 256 words of 64 bits, whose bits say which of 16,384 numbers are members.
use Rattle.std.specs.Prelude.{◌≡◌, ℕ, ◌+◌, ◌*◌, ◌<◌, Bool, false, nat_lt, List, [], ◌∷◌, map, reverse, slice_index}
use Rattle.cp_invlist.specs.InversionList.{contains, differ}
use Rattle.cp_terms.specs.declared.block.Block.{Block}
use Rattle.cp_invlist.specs.Words.{has_bit}

-- the word with the first index has the bit with the second
abbrev pub word_has : List ℕ → ℕ → ℕ → Bool
word_has words i j = has_bit (slice_index words i) j

abbrev pub block_has : Block → ℕ → ℕ → Bool
block_has block i j = word_has block.words i j

-- which blocks have the bit, the last first
abbrev pub block_marks : ℕ → ℕ → List Block → List Bool
block_marks i j blocks = reverse (map (λ block. block_has block i j) blocks)

-- whether an odd number of the elements is below the number
abbrev pub odd_below : ℕ → List ℕ → Bool
odd_below n [] = false
odd_below n (x ∷ xs) = differ (nat_lt x n) (odd_below n xs)

-- The bits of each word by itself: whether of the elements in its 64 numbers an odd number is at most that of the bit.
abbrev pub AreTurned : List ℕ → ℕ → Block → Type 0
AreTurned elements place block = (i j : ℕ) → i < 256 → j < 64 →
    block_has block i j ≡ differ (odd_below (place + 64 * i) elements) (contains elements (place + 64 * i + j))

-- the block says which of the 16,384 numbers from the place on are members of the set
abbrev pub IsBlock : List ℕ → ℕ → Block → Type 0
IsBlock xs place block = (i j : ℕ) → i < 256 → j < 64 → block_has block i j ≡ contains xs (place + 64 * i + j)
