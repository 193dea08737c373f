-- Which names of values a table has.
use Rattle.std.specs.Prelude.{ℕ, Bool, false}
use Rattle.prop_data.specs.declared.load.texts.Length.{Length}
use Rattle.prop_data.specs.declared.load.texts.Length.TheVariants.{Long, Short}
use Rattle.prop_data.specs.Rows.{is_subtags}

-- the names of this length are subtags
abbrev pub has_subtags : Length → ℕ → Bool
has_subtags Long t = false
has_subtags Short t = is_subtags t
