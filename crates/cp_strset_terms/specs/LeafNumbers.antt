-- The numbers of the strings of leaves.
use Rattle.std.specs.Prelude.{ℕ, ◌/◌, ◌%◌, Bool, List, map}
use Rattle.cp_terms.specs.Terms.{holds_at}
use Rattle.cp_strset_terms.specs.NumberSets.{piece_at}
use Rattle.cp_strset_terms.specs.declared.leaf_numbers.LeafNumbers.{LeafNumbers}
use Rattle.cp_strset_terms.specs.declared.leaf_numbers.LeafNumbers.TheVariants.{Kept, LookedUp}

-- the set of the numbers of a leaf, by its pieces
abbrev pub numbers_seen : LeafNumbers → List (List ℕ)
numbers_seen (Kept set) = set.now
numbers_seen (LookedUp set) = set

-- the piece with the index of the numbers of each leaf
abbrev pub pieces_seen : ℕ → List LeafNumbers → List (List ℕ)
pieces_seen index leaves = map (λ leaf. piece_at (numbers_seen leaf) index) leaves

-- whether the leaf with the index has the number, which no leaf does where there is none
abbrev pub has_number_at : List LeafNumbers → ℕ → ℕ → Bool
has_number_at leaves number = holds_at (pieces_seen (number / 0x11_0000) leaves) (number % 0x11_0000)
