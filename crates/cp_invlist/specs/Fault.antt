-- What a list of numbers lacks to be an inversion list.
use Rattle.std.specs.Prelude.{◌≡◌, ◌<◌, ◌≤◌, ◌-◌, ◌⊎◌, false, slice_index, ℕ, suc, ◌&&◌, nat_le, if◌then◌else◌, Option, Some, None, List, [], ◌∷◌, length}
use Rattle.std.specs.Option.{option_or}
use Rattle.cp_invlist.specs.InversionList.{has_even_length}

-- The index of the first element that is below the number, or not above the element before it, or above 110000. The first
-- element has the index i.
abbrev pub first_out_of_order : ℕ → ℕ → List ℕ → Option ℕ
first_out_of_order n i [] = None
first_out_of_order n i (x ∷ xs) =
    if nat_le n x && nat_le x 0x11_0000 then first_out_of_order (suc x) (suc i) xs else Some i

-- the length where it is odd
abbrev pub odd_end : List ℕ → Option ℕ
odd_end xs = if has_even_length xs then None else Some (length xs)

-- the first element out of order, or where there is none the end of a list of odd length
abbrev pub fault_of : List ℕ → Option ℕ
fault_of xs = option_or (first_out_of_order 0 0 xs) (odd_end xs)

-- the fault of a list has this index
abbrev pub IsFaultAt : List ℕ → ℕ → Type 0
IsFaultAt xs index = fault_of xs ≡ Some index

-- the element at the index is not above the one before it, or is above 110000
abbrev pub IsOutOfOrder : List ℕ → ℕ → Type 0
IsOutOfOrder xs k =
    (k < length xs) × (((0 < k) × (slice_index xs k ≤ slice_index xs (k - 1))) ⊎ (0x11_0000 < slice_index xs k))

-- nothing before the index is out of order, and there an element is, or an odd number of elements ends
abbrev pub IsFirstFault : List ℕ → ℕ → Type 0
IsFirstFault xs i =
    ((k : ℕ) → k < i → IsOutOfOrder xs k → ⊥) × (IsOutOfOrder xs i ⊎ ((i ≡ length xs) × (has_even_length xs ≡ false)))
