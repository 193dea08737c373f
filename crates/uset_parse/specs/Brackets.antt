-- Brackets in a bracket, each around a range in escapes.
use Rattle.std.specs.Prelude.{◌≡◌, ℕ, All, List, [], ◌++◌, codes, Option, Some}
use Rattle.std.specs.List.{flat_map}
use Rattle.std.specs.Str.{IsAscii, chars}
use Rattle.cp_invlist.specs.declared.ranges.CodePointRange.{CodePointRange}
use Rattle.cp_strset.specs.PatternText.{escaped}
use Rattle.prop_data.specs.Forbidden.{AreAllowed}
use Rattle.prop_data.specs.Tables.{Tables}
use Rattle.uset_grammar.specs.Text.{Text}
use Rattle.uset_grammar.specs.Language.{Language, Value}
use Rattle.uset_reader.specs.Syntaxes.{language_of}
use Rattle.uset_parse.specs.ReadBack.{LeavesEscapes, IsRange, IsReadBack, is_written}

-- a range in a bracket of its own, with both its ends also where they are one
abbrev pub bracket_text : CodePointRange → List ℕ
bracket_text r = codes "[" ++ (escaped r.start ++ (codes "-" ++ (escaped r.end ++ codes "]")))

-- a bracket around such brackets
abbrev pub brackets_text : List CodePointRange → List ℕ
brackets_text rs = codes "[" ++ (flat_map bracket_text rs ++ codes "]")

-- Such a pattern is ASCII.
abbrev pub BracketsAreAscii : Type 0
BracketsAreAscii = (rs : List CodePointRange) → All IsRange rs → IsAscii (brackets_text rs)

-- In every language whose white space leaves escapes alone it is read, whatever follows it, as all that the ranges have.
abbrev pub BracketsAreRead : Type 0
BracketsAreRead = (l : Language) → LeavesEscapes l.white_space → (rs : List CodePointRange) → All IsRange rs →
    (rest : Text) → IsReadBack l (chars (brackets_text rs)) (is_written rs []) rest

-- So it is under tables that a database may hold, those of the syntax among them, and all variables.
abbrev pub BracketsAreReadUnder : Type 0
BracketsAreReadUnder =
    (tables : Tables) → AreAllowed tables → (variable : Text → Option Value) (l : Language) →
    language_of variable tables ≡ Some l →
    (rs : List CodePointRange) → All IsRange rs → (rest : Text) →
    IsReadBack l (chars (brackets_text rs)) (is_written rs []) rest
