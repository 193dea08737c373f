-- Sets of numbers in pieces, each an inversion list with room for as many numbers as there are code points.
use Rattle.std.specs.Prelude.{ℕ, ◌/◌, ◌%◌, Bool, List, [], slice_index_or}
use Rattle.cp_invlist.specs.InversionList.{contains}

-- the piece with the index, which is empty where there is none
abbrev pub piece_at : List (List ℕ) → ℕ → List ℕ
piece_at pieces index = slice_index_or pieces index []

-- whether the number is in the set
abbrev pub has_number : List (List ℕ) → ℕ → Bool
has_number pieces number = contains (piece_at pieces (number / 0x11_0000)) (number % 0x11_0000)
