-- Sets of code points in the making: what was painted, and the layers that are made of it.
use Rattle.std.specs.Prelude.{◌≡◌, ℕ, Bool, false, not, ◌&&◌, ◌||◌, if◌then◌else◌, List, [], ◌∷◌}
use Rattle.std.specs.List.{list_any}
use Rattle.cp_invlist.specs.InversionList.{contains, differ, is_code_point}
use Rattle.cp_invlist.specs.Ranges.{in_code_points}
use Rattle.cp_invlist.specs.declared.ranges.CodePointRange.{CodePointRange}
use Rattle.uset_gather.specs.declared.painting.PaintedRange.{PaintedRange}
use Rattle.uset_gather.specs.declared.painting.Painting.{Painting}
use Rattle.uset_gather.specs.declared.run.Run.{Run}
use Rattle.uset_gather.specs.declared.layers.Layer.{Layer}

-- a range of the list holds the code point
abbrev pub in_some : List CodePointRange → ℕ → Bool
in_some rs c = list_any (λ r. in_code_points r c) rs

-- Whether a code point is a member once these ranges were painted, the first of them first, where the Bool says whether it was one
-- before: the last range that covers it decides.
abbrev pub painted : List PaintedRange → ℕ → Bool → Bool
painted [] c b = b
painted (p ∷ ps) c b = painted ps c (if in_code_points p.range c then p.member else b)

-- one of the ranges covers the code point
abbrev pub covered : List PaintedRange → ℕ → Bool
covered ps c = list_any (λ p. in_code_points p.range c) ps

-- the code point is in the builder or was put aside
unfoldable pub in_run : Run → ℕ → Bool
in_run r c = contains r.builder c || in_some r.aside.items c

-- the same as `painted`, where all ranges are painted alike
abbrev pub painted_alike : Run → Bool → ℕ → Bool → Bool
painted_alike r member c b = if in_run r c then member else b

-- whether a code point is a member behind the layer, where the Bool says whether it was one below
abbrev pub behind : Layer → ℕ → Bool → Bool
behind l c b = contains l.added c || (b && not (contains l.removed c))

-- the same for several layers, the lowest first
abbrev pub behind_all : List Layer → ℕ → Bool → Bool
behind_all [] c b = b
behind_all (l ∷ ls) c b = behind_all ls c (behind l c b)

-- Whether the code point is in the set that was painted: where it is not complemented, if the ranges, painted over the layers, make
-- it a member, and else if they don't.
unfoldable pub in_painting : Painting → ℕ → Bool
in_painting s c = is_code_point c && differ s.complemented (painted s.ranges.items c (behind_all s.layers.items c false))

-- the layer was put onto the others
abbrev pub IsPutOnto : List Layer → Layer → List Layer → Type 0
IsPutOnto old l new = (c : ℕ) (b : Bool) → behind_all new c b ≡ behind l c (behind_all old c b)

-- a member of the first set that the second lacks, or of the third
abbrev pub in_changed : List ℕ → List ℕ → List ℕ → ℕ → Bool
in_changed set removed added c = (contains set c && not (contains removed c)) || contains added c
