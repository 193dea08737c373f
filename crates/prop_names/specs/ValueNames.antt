-- The names of values by the values' numbers (UAX 44, section 5.8.2, property value aliases).
use Rattle.std.specs.Prelude.{ℕ, List, [], ◌∷◌, Option, Some, None, option_and_then, slice_get, if◌then◌else◌}
use Rattle.prop_values.specs.Subtag.{is_four_letters, in_subtag_case}

-- a text, unless it is empty
abbrev pub not_empty : List ℕ → Option (List ℕ)
not_empty [] = None
not_empty (c ∷ cs) = Some (c ∷ cs)

-- the text at an index, unless it is empty
abbrev pub listed_at : List (List ℕ) → ℕ → Option (List ℕ)
listed_at names n = option_and_then not_empty (slice_get names n)

-- the subtag that a text spells
abbrev pub subtag_of : List ℕ → Option (List ℕ)
subtag_of text = if is_four_letters text then Some (in_subtag_case text) else None
