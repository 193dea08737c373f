-- What the forms that borrow from a database or from an object are seen as.
use Rattle.std.specs.Prelude.{ℕ, List, Option, option_and_then}
use Rattle.cp_strset.specs.StringSet.{StringSet}
use Rattle.cp_trie.specs.Map.{CodePointMap}
use Rattle.prop_names.specs.Names.{Names}
use Rattle.prop_query.specs.declared.set.CodePointSetDataBorrowed.{CodePointSetDataBorrowed}
use Rattle.prop_query.specs.declared.map.CodePointMapDataBorrowed.{CodePointMapDataBorrowed}
use Rattle.prop_query.specs.declared.emoji.EmojiSetDataBorrowed.{EmojiSetDataBorrowed}
use Rattle.prop_query.specs.declared.names.PropertyParserBorrowed.{PropertyParserBorrowed}
use Rattle.prop_query.specs.declared.names.PropertyNamesLong.{PropertyNamesLong}
use Rattle.prop_query.specs.declared.names.PropertyNamesLongBorrowed.{PropertyNamesLongBorrowed}
use Rattle.prop_query.specs.declared.names.PropertyNamesShort.{PropertyNamesShort}
use Rattle.prop_query.specs.declared.names.PropertyNamesShortBorrowed.{PropertyNamesShortBorrowed}

-- the inversion list of a set
abbrev pub set_in : CodePointSetDataBorrowed → List ℕ
set_in borrowed = borrowed.set.now

-- a map
abbrev pub map_in : {V : Type 0} → CodePointMapDataBorrowed V → CodePointMap V
map_in borrowed = borrowed.trie.now

-- an emoji set
abbrev pub emoji_in : EmojiSetDataBorrowed → StringSet
emoji_in borrowed = borrowed.set.now

-- the names of values with the values' numbers
abbrev pub names_in : {V : Type 0} → PropertyParserBorrowed V → Names
names_in borrowed = borrowed.names.now

-- the table of long names
abbrev pub long_in : {V W S : Type 0} → PropertyNamesLong V W S → W
long_in names = names.names

abbrev pub long_borrowed : {V W S : Type 0} → PropertyNamesLongBorrowed V W S → W
long_borrowed borrowed = borrowed.names.now

-- the table of short names
abbrev pub short_in : {V L W : Type 0} → PropertyNamesShort V L W → W
short_in names = names.names

abbrev pub short_borrowed : {V L W : Type 0} → PropertyNamesShortBorrowed V L W → W
short_borrowed borrowed = borrowed.names.now

-- the name of a number in a table that may be absent
abbrev pub name_in : Option (ℕ → Option (List ℕ)) → ℕ → Option (List ℕ)
name_in names n = option_and_then (λ name_of. name_of n) names
