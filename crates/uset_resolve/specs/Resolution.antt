-- What the key and the value of a property resolve to, step by step (UTS 18, 1.2; UAX 44, 5.9; ECMA-262, binary Unicode
-- properties). A table that is absent gives nothing. Keys, values and names are told by their bytes.
use Rattle.std.specs.Prelude.{ℕ, Bool, false, ◌&&◌, ◌||◌, ◌==◌, List, encode_utf8_all, Option, Some, None, is_some, is_none, option_map, if◌then◌else◌}
use Rattle.std.specs.Option.{option_or}
use Rattle.cp_invlist.specs.InversionList.{is_code_point}
use Rattle.prop_binary.specs.Ecma262.{ecma262_number}
use Rattle.prop_names.specs.Names.{value_of_query}
use Rattle.prop_values.specs.Category.{category_of}
use Rattle.prop_values.specs.Groups.{has, packings, bits_in}
use Rattle.prop_values.specs.Tables.{block_table, category_table, script_table, combining_class_table, group_names_table}
use Rattle.prop_values.specs.declared.category.GeneralCategory.{GeneralCategory}
use Rattle.prop_data.specs.Tables.{Tables, ExtensionList}
use Rattle.prop_query.specs.Scripts.{is_among, extensions_of_number}
use Rattle.uset_grammar.specs.Text.{Text, ◌>>=◌}
use Rattle.uset_grammar.specs.Language.{Resolved}
use Rattle.uset_resolve.specs.Keys.{Asked, categories, extensions, values, key_of, falsy}
use Rattle.uset_resolve.specs.Decimal.{decimal}

-- Sources: the code points that a property asks for.
abbrev pub Source : Type 0
Source = ℕ → Bool

-- those with the number in a map
abbrev pub with_number : (ℕ → ℕ) → ℕ → Source
with_number map n c = is_code_point c && (map c == n)

-- the category is there, and it is in the group of these bits
abbrev pub is_in : ℕ → Option GeneralCategory → Bool
is_in bits None = false
is_in bits (Some category) = has bits category

-- the bits of the group that a number stands for
unfoldable pub group_bits : ℕ → ℕ
group_bits n = bits_in packings n

-- those whose category is in the group that the number stands for
abbrev pub in_group : (ℕ → ℕ) → ℕ → Source
in_group map n c = is_code_point c && is_in (group_bits n) (category_of (map c))

-- those that have the script among their script extensions
abbrev pub with_extension : (ℕ → Option ExtensionList) → (ℕ → ℕ) → ℕ → Source
with_extension lists map script c = is_code_point c && is_among (extensions_of_number lists (map c)) script

-- The steps.

-- the number of the value with this name in a table of names, loosely
abbrev pub loosely : Tables → ℕ → List ℕ → Option ℕ
loosely tables t name = tables.names t >>= λ names. value_of_query names name

-- the code points of a value of a property, by the number of its table
abbrev pub of_number : Tables → ℕ → Option ℕ → Option Source
of_number tables t number = number >>= λ n. tables.maps t >>= λ map. Some (with_number map n)

-- the code points of a group of categories
abbrev pub of_group : Tables → List ℕ → Option Source
of_group tables name = loosely tables group_names_table name >>= λ n. tables.maps category_table >>= λ map. Some (in_group map n)

-- the code points of a script
abbrev pub of_script : Tables → List ℕ → Option Source
of_script tables name = of_number tables script_table (loosely tables script_table name)

-- the code points with a script among their extensions
abbrev pub of_extension : Tables → List ℕ → Option Source
of_extension tables name =
    loosely tables script_table name >>= λ script. tables.scripts >>= λ scripts.
    Some (with_extension tables.extensions scripts.values script)

-- the set of the binary property with this name in ECMA-262, byte for byte
abbrev pub of_binary : Tables → List ℕ → Option Source
of_binary tables name = ecma262_number name >>= tables.sets

-- The number that a value writes, where its property has decimal values: combining classes up to 255, and blocks up to
-- 65535.
abbrev pub written : ℕ → List ℕ → Option ℕ
written t value =
    if t == combining_class_table then decimal 255 value
    else if t == block_table then decimal 65535 value
    else None

-- the number of a value: that of its name, or the one that it writes, where the table of names is there
abbrev pub number_of_value : Tables → ℕ → List ℕ → Option ℕ
number_of_value tables t value = tables.names t >>= λ names. option_or (value_of_query names value) (written t value)

-- Without a value, a key names a group of categories, a script or a binary property.
abbrev pub of_key : Tables → List ℕ → Option Source
of_key tables key = option_or (of_group tables key) (option_or (of_script tables key) (of_binary tables key))

-- the code points of the value behind a key
abbrev pub of_value : Tables → Asked → List ℕ → Option Source
of_value tables categories value = of_group tables value
of_value tables extensions value = of_extension tables value
of_value tables (values t) value = of_number tables t (number_of_value tables t value)

-- a source, and whether it is negated
abbrev pub resolved : Bool → Option Source → Option Resolved
resolved falsy source = source >>= λ s. Some (record { falsy = falsy; source = s })

-- any other key is a binary property, with a word for truth or falsehood
abbrev pub of_word : Tables → List ℕ → List ℕ → Option Resolved
of_word tables key value = falsy value >>= λ f. resolved f (of_binary tables key)

abbrev pub with_value : Tables → List ℕ → List ℕ → Option Asked → Option Resolved
with_value tables key value None = of_word tables key value
with_value tables key value (Some asked) = resolved false (of_value tables asked value)

abbrev pub resolve_bytes : Tables → List ℕ → Option (List ℕ) → Option Resolved
resolve_bytes tables key None = resolved false (of_key tables key)
resolve_bytes tables key (Some value) = with_value tables key value (key_of key)

-- The names of blocks are absent, or a block was found and the map of blocks is absent.
abbrev pub lacks_block : Tables → List ℕ → Bool
lacks_block tables value =
    is_none (tables.names block_table)
    || (is_some (number_of_value tables block_table value) && is_none (tables.maps block_table))

abbrev pub lacks_for : Tables → List ℕ → Option Asked → Bool
lacks_for tables value None = false
lacks_for tables value (Some categories) = false
lacks_for tables value (Some extensions) = false
lacks_for tables value (Some (values t)) = (t == block_table) && lacks_block tables value

-- A table is absent that the key and the value ask: of Block alone, where a value stands behind it.
abbrev pub lacking_bytes : Tables → List ℕ → Option (List ℕ) → Bool
lacking_bytes tables key None = false
lacking_bytes tables key (Some value) = lacks_for tables value (key_of key)

-- the same of texts
abbrev pub resolve : Tables → Text → Option Text → Option Resolved
resolve tables key value = resolve_bytes tables (encode_utf8_all key) (option_map encode_utf8_all value)

abbrev pub lacking : Tables → Text → Option Text → Bool
lacking tables key value = lacking_bytes tables (encode_utf8_all key) (option_map encode_utf8_all value)
