-- How two sets are merged: a walk over the elements of both lists in order, which keeps count of whether it is inside each.
use Rattle.std.specs.Prelude.{◌≡◌, ◌≢◌, ℕ, Bool, true, false, not, ◌&&◌, ◌||◌, if◌then◌else◌, List, [], ◌∷◌, ◌++◌, Some}
use Rattle.std.specs.List.{slice_get}
use Rattle.cp_invlist.specs.InversionList.{contains, differ}
use Rattle.cp_invlist.specs.declared.merge.Operation.{Operation}
use Rattle.cp_invlist.specs.declared.merge.Operation.TheVariants.{Union, Difference, Intersection}

-- whether the operation keeps a number, by whether it is in the first set and in the second
abbrev pub keeps : Operation → Bool → Bool → Bool
keeps Union x y = x || y
keeps Difference x y = x && not y
keeps Intersection x y = x && y

-- the third list has the members that the operation keeps of the sets of the first two
abbrev pub IsKept : Operation → List ℕ → List ℕ → List ℕ → Type 0
IsKept operation first second kept = (d : ℕ) → contains kept d ≡ keeps operation (contains first d) (contains second d)

-- whether the walk is inside a set behind some of its elements: it turns at each of them
abbrev pub inside_behind : List ℕ → Bool → Bool
inside_behind [] b = b
inside_behind (x ∷ xs) b = inside_behind xs (not b)

-- whether the merged list turns where the first list does, by whether the walk is inside the second set
abbrev pub turns_first : Operation → Bool → Bool
turns_first operation b = differ (keeps operation true b) (keeps operation false b)

-- whether it turns where the second list does, by whether the walk is inside the first set
abbrev pub turns_second : Operation → Bool → Bool
turns_second operation a = differ (keeps operation a true) (keeps operation a false)

-- whether it turns where both lists do, by whether the walk is inside the first set and inside the second
abbrev pub turns_both : Operation → Bool → Bool → Bool
turns_both operation a b = differ (keeps operation a b) (keeps operation (not a) (not b))

-- the lists have no element in common at the place
abbrev pub DifferAt : ℕ → List ℕ → List ℕ → Type 0
DifferAt place xs ys = (x : ℕ) → slice_get xs place ≡ Some x → slice_get ys place ≢ Some x

-- a list with these elements put behind it where it turns at each of them
abbrev pub extended : List ℕ → List ℕ → Bool → List ℕ
extended xs ys turns = if turns then xs ++ ys else xs
