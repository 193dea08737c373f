-- The kinds of tables, and the words that their headers begin with.
use Rattle.std.specs.Prelude.{ℕ, List, [], ◌∷◌, Option, codes}
use Rattle.std.specs.List.{find}
use Rattle.std.specs.Str.{bytes_eq}
use Rattle.prop_data.specs.declared.table.TableKind.{TableKind}
use Rattle.prop_data.specs.declared.table.TableKind.TheVariants.{Set, Map, Names, Long, Short, Scripts, Extensions, Emoji}

-- each kind once
abbrev pub kinds : List TableKind
kinds = Set ∷ Map ∷ Names ∷ Long ∷ Short ∷ Scripts ∷ Extensions ∷ Emoji ∷ []

-- the word of a kind's headers
abbrev pub kind_word : TableKind → List ℕ
kind_word Set = codes "set"
kind_word Map = codes "map"
kind_word Names = codes "names"
kind_word Long = codes "long"
kind_word Short = codes "short"
kind_word Scripts = codes "scx"
kind_word Extensions = codes "ext"
kind_word Emoji = codes "emoji"

-- the kind whose headers begin with this word
unfoldable pub kind_of_word : List ℕ → Option TableKind
kind_of_word word = find (λ kind. bytes_eq (kind_word kind) word) kinds
