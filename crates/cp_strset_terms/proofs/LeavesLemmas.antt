-- What the leaves of a term have, one leaf behind another.
use Rattle.std.proofs.Common.{◌≡◌, ◌≤◌, ◌<◌, ◌+◌, ◌||◌, ◌++◌, ℕ, zero, suc, true, false, List, [], ◌∷◌, length, map, get_or, append-nil, refl, sym, ap, ◌∙◌, arith, inl, inr}
use Rattle.std.proofs.Math.Bool.{or-true}
use Rattle.std.proofs.lemmas.Bool.{cases_lt}
use Rattle.std.proofs.lemmas.Grind.{flat_map-append}
use Rattle.std.proofs.lemmas.List.Folds.{list_any-append}
use Rattle.std.specs.List.{flat_map}
use Rattle.std.specs.Str.{bytes_eq}
use Rattle.cp_invlist.specs.InversionList.{contains}
use Rattle.cp_strset.specs.StringList.{holds}
use Rattle.cp_terms.specs.Terms.{holds_at}
use Rattle.cp_strset_terms.specs.declared.leaf.Leaf.{Leaf}
use Rattle.cp_strset_terms.specs.Leaves.{code_points_of, strings_of, leaf_contains, leaf_holds}

-- the lists of the leaves contain what the leaves contain
pub holds_at-code_points : (leaves : List Leaf) (c index : ℕ) → holds_at (map code_points_of leaves) c index ≡ leaf_contains leaves c index
holds_at-code_points [] c index = refl
holds_at-code_points (leaf ∷ leaves) c zero = refl
holds_at-code_points (leaf ∷ leaves) c (suc index) = holds_at-code_points leaves c index

-- sets answer as the leaves do, and so do they with one more of both
pub one_leaf_more : (sets : List (List ℕ)) (leaves : List Leaf) (place : ℕ) (text : List ℕ) (set : List ℕ) (leaf : Leaf) → length sets ≡ length leaves →
    ((index : ℕ) → holds_at sets place index ≡ leaf_holds leaves text index) → contains set place ≡ holds (strings_of leaf) text →
    (index : ℕ) → holds_at (sets ++ set ∷ []) place index ≡ leaf_holds (leaves ++ leaf ∷ []) text index
one_leaf_more [] [] place text set leaf same before is zero = is
one_leaf_more [] [] place text set leaf same before is (suc index) = refl
one_leaf_more [] (l ∷ ls) place text set leaf same before is index = absurd (omega arith)
one_leaf_more (s ∷ ss) [] place text set leaf same before is index = absurd (omega arith)
one_leaf_more (s ∷ ss) (l ∷ ls) place text set leaf same before is zero = before zero
one_leaf_more (s ∷ ss) (l ∷ ls) place text set leaf same before is (suc index) =
    one_leaf_more ss ls place text set leaf (omega arith) (λ k. before (suc k)) is index

-- an index of no leaf has no strings
pub leaf_holds-past : (leaves : List Leaf) (bytes : List ℕ) (index : ℕ) → length leaves ≤ index → leaf_holds leaves bytes index ≡ false
leaf_holds-past [] bytes index past = refl
leaf_holds-past (leaf ∷ leaves) bytes zero past = absurd (omega arith)
leaf_holds-past (leaf ∷ leaves) bytes (suc index) past = leaf_holds-past leaves bytes index (omega arith)

-- an index that has a string is one of a leaf
pub leaf_holds-within : (leaves : List Leaf) (bytes : List ℕ) (index : ℕ) → leaf_holds leaves bytes index ≡ true → index < length leaves
leaf_holds-within [] bytes index h = cc
leaf_holds-within (leaf ∷ leaves) bytes zero h = omega arith
leaf_holds-within (leaf ∷ leaves) bytes (suc index) h = let below = leaf_holds-within leaves bytes index h in omega arith

-- what an index of a leaf has are its strings
pub leaf_holds-get_or : (leaves : List Leaf) (bytes : List ℕ) (index : ℕ) (d : Leaf) → index < length leaves → leaf_holds leaves bytes index ≡ holds (strings_of (get_or leaves index d)) bytes
leaf_holds-get_or [] bytes index d within = absurd (omega arith)
leaf_holds-get_or (leaf ∷ leaves) bytes zero d within = refl
leaf_holds-get_or (leaf ∷ leaves) bytes (suc index) d within = leaf_holds-get_or leaves bytes index d (omega arith)

-- the strings of one leaf more
pub holds-leaf_more : (leaves : List Leaf) (leaf : Leaf) (bytes : List ℕ) → holds (flat_map strings_of (leaves ++ leaf ∷ [])) bytes ≡ (holds (flat_map strings_of leaves) bytes || holds (strings_of leaf) bytes)
holds-leaf_more leaves leaf bytes =
    ap (λ strings. holds strings bytes) (flat_map-append strings_of leaves (leaf ∷ []) ∙ ap (λ l. flat_map strings_of leaves ++ l) (append-nil (strings_of leaf)))
    ∙ list_any-append (λ s. bytes_eq s bytes) (flat_map strings_of leaves) (strings_of leaf)

-- what a leaf up to one has, those have that are taken before, or that one
pub held_more : (leaves taken : List Leaf) (bytes : List ℕ) (index at : ℕ) (leaf : Leaf) → index < at + 1 → at < length leaves → leaf ≡ get_or leaves at leaf →
    (index < at → holds (flat_map strings_of taken) bytes ≡ true) → leaf_holds leaves bytes index ≡ true → holds (flat_map strings_of (taken ++ leaf ∷ [])) bytes ≡ true
held_more leaves taken bytes index at leaf below within is before held = holds-leaf_more taken leaf bytes ∙ elim (cases_lt index at) [
  | inl earlier ↦ ap (λ b. b || holds (strings_of leaf) bytes) (before earlier)
  | inr behind ↦ (
      let same : index ≡ at = omega arith in
      let here : leaf_holds leaves bytes at ≡ true = ap (leaf_holds leaves bytes) (sym same) ∙ held in
      let of_leaf : holds (strings_of leaf) bytes ≡ true = ap (λ l. holds (strings_of l) bytes) is ∙ (sym (leaf_holds-get_or leaves bytes at leaf within) ∙ here) in
      ap (λ b. holds (flat_map strings_of taken) bytes || b) of_leaf ∙ or-true (holds (flat_map strings_of taken) bytes))
]
