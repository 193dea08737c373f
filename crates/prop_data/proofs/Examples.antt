-- The definitions of a table text, computed on small texts.
use Rattle.std.specs.Prelude.{◌≡◌, ℕ, true, false, List, [], ◌∷◌, codes, Some, None, option_map, refl}
use Rattle.std.specs.Str.Lines.{lines}
use Rattle.text_lines.specs.Fields.{fields}
use Rattle.prop_data.specs.declared.error.TableErrorKind.TheVariants.{RangeOrder, ValueOutOfType, SyntaxAscii, NoEnd}
use Rattle.prop_data.specs.Line.{set_header, header, line_of}
use Rattle.prop_data.specs.TableKind.{kind_of_word}
use Rattle.prop_data.specs.Numbers.{spelled, hyphen_parts, range}
use Rattle.prop_binary.specs.Tables.{properties}
use Rattle.prop_data.specs.LineFault.{range_fault, syntax_fault, value_fault, lacks_some_list}
use Rattle.prop_data.specs.TableText.{at_line, table_fault, tables_in}

lines-example : lines (0x61 ∷ 0x0D ∷ 0x0A ∷ 0x62 ∷ 0x0D ∷ []) ≡ codes "a" ∷ (0x62 ∷ 0x0D ∷ []) ∷ []
lines-example = refl

fields-example : fields (codes " set XID_Start # 1") ≡ codes "set" ∷ codes "XID_Start" ∷ []
fields-example = refl

line_of-example : line_of (fields (codes "set XID_Start")) ≡ header (set_header (codes "XID_Start"))
unfolding kind_of_word
line_of-example = refl

range-example : range (codes "41-5a") ≡ Some (0x41, 0x5A)
unfolding range hyphen_parts spelled
range-example = refl

-- a table of two rows
abbrev text : List (List ℕ)
text = codes "set XID_Start" ∷ codes "41-5A" ∷ codes "61" ∷ codes "end" ∷ []

table_fault-example : table_fault text ≡ None
unfolding lacks_some_list kind_of_word range hyphen_parts spelled properties range_fault syntax_fault value_fault
table_fault-example = refl

tables_in-example : (option_map (λ members. members 0x5A ∷ members 0x5B ∷ members 0x61 ∷ []) ((tables_in text).sets 68) ≡ Some (true ∷ false ∷ true ∷ [])) × ((tables_in text).sets 67 ≡ None)
unfolding kind_of_word range hyphen_parts spelled properties
tables_in-example = (refl, refl)

-- the second row is not above the first
table_fault-order : table_fault (codes "set XID_Start" ∷ codes "61" ∷ codes "41-5A" ∷ codes "end" ∷ []) ≡ Some (at_line 3 RangeOrder)
unfolding lacks_some_list kind_of_word range hyphen_parts spelled properties range_fault syntax_fault value_fault
table_fault-order = refl

-- the exclamation mark is no white space
table_fault-ascii : table_fault (codes "set Pattern_White_Space" ∷ codes "20-21" ∷ codes "end" ∷ []) ≡ Some (at_line 2 SyntaxAscii)
unfolding lacks_some_list kind_of_word range hyphen_parts spelled properties range_fault syntax_fault value_fault
table_fault-ascii = refl

-- the missing `end` is told at the line behind the last
table_fault-no_end : table_fault (codes "set XID_Start" ∷ codes "41" ∷ []) ≡ Some (at_line 3 NoEnd)
unfolding lacks_some_list kind_of_word range hyphen_parts spelled properties range_fault syntax_fault value_fault
table_fault-no_end = refl

-- no other set is tested so
table_fault-other_set : table_fault (codes "set Dash" ∷ codes "2D" ∷ codes "end" ∷ []) ≡ None
unfolding lacks_some_list kind_of_word range hyphen_parts spelled properties range_fault syntax_fault value_fault
table_fault-other_set = refl

-- a map with a row of two code points
abbrev map_text : List (List ℕ)
map_text = codes "map Script 103" ∷ codes "41-42 25" ∷ codes "end" ∷ []

table_fault-map : table_fault map_text ≡ None
unfolding lacks_some_list kind_of_word range hyphen_parts spelled properties range_fault syntax_fault value_fault
table_fault-map = refl

tables_in-map : option_map (λ at. at 0x40 ∷ at 0x42 ∷ at 0x11_0000 ∷ []) ((tables_in map_text).maps 4) ≡ Some (103 ∷ 25 ∷ 103 ∷ [])
unfolding lacks_some_list kind_of_word range hyphen_parts spelled
tables_in-map = refl

-- there are no more than thirty general categories
table_fault-default : table_fault (codes "map General_Category 30" ∷ []) ≡ Some (at_line 1 ValueOutOfType)
unfolding kind_of_word spelled value_fault
table_fault-default = refl
