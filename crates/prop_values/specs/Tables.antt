-- The tables of values and of names: their names, the numbers that they accept, and the numbers of the defaults.
use Rattle.std.specs.Prelude.{ℕ, Bool, ◌||◌, ◌++◌, ◌==◌, nat_lt, List, [], ◌∷◌, map, take, codes, if◌then◌else◌}
use Rattle.prop_values.specs.MirroringGlyph.{is_glyph_number}

-- the properties, in the order of the numbers of their tables: the long and the short name (UAX 44, section 5.1)
abbrev pub properties : List (List ℕ × List ℕ)
properties =
    (codes "Bidi_Class", codes "bc")
    ∷ (codes "Block", codes "blk")
    ∷ (codes "Numeric_Type", codes "nt")
    ∷ (codes "General_Category", codes "gc")
    ∷ (codes "Script", codes "sc")
    ∷ (codes "Hangul_Syllable_Type", codes "hst")
    ∷ (codes "East_Asian_Width", codes "ea")
    ∷ (codes "Line_Break", codes "lb")
    ∷ (codes "Grapheme_Cluster_Break", codes "GCB")
    ∷ (codes "Word_Break", codes "WB")
    ∷ (codes "Sentence_Break", codes "SB")
    ∷ (codes "Canonical_Combining_Class", codes "ccc")
    ∷ (codes "Indic_Conjunct_Break", codes "InCB")
    ∷ (codes "Indic_Syllabic_Category", codes "InSC")
    ∷ (codes "Joining_Group", codes "jg")
    ∷ (codes "Joining_Type", codes "jt")
    ∷ (codes "Vertical_Orientation", codes "vo")
    ∷ (codes "Bidi_Mirroring_Glyph", codes "bmg")
    ∷ []

-- the long name of the property of each table of values, by the number of the table
abbrev pub map_table_names : List (List ℕ)
map_table_names = map (λ property. property.0) properties

-- the names of the tables of names: those of the tables of values but the last, and that of the groups of categories
abbrev pub names_table_names : List (List ℕ)
names_table_names = take 17 map_table_names ++ codes "General_Category_Mask" ∷ []

-- the numbers of those tables that definitions speak of: of blocks, general categories, scripts, combining classes and
-- mirroring glyphs, and of the names of groups of categories
abbrev pub block_table : ℕ
block_table = 1

abbrev pub category_table : ℕ
category_table = 3

abbrev pub script_table : ℕ
script_table = 4

abbrev pub combining_class_table : ℕ
combining_class_table = 11

abbrev pub glyph_table : ℕ
glyph_table = 17

abbrev pub group_names_table : ℕ
group_names_table = 17

-- the number stands for a value of the property of the table
abbrev pub accepts : ℕ → ℕ → Bool
accepts table n =
    if table == category_table then nat_lt n 30
    else if table == block_table || table == script_table then nat_lt n 65536
    else if table == glyph_table then is_glyph_number n
    else nat_lt n 256

-- the number of the script Unknown
abbrev pub unknown_script : ℕ
unknown_script = 103

-- the number of the default of the property of the table: that of the script Unknown, and 0 of all others
abbrev pub default_number : ℕ → ℕ
default_number table = if table == script_table then unknown_script else 0

-- the number stands for a value of the property of the table of names, which are at most 16 bits wide there; a group of
-- categories is packed into any of them
abbrev pub accepts_name_of : ℕ → ℕ → Bool
accepts_name_of table n = table == group_names_table || accepts table n
