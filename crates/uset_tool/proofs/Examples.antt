-- The answers of the program, computed on small scripts.
use Rattle.std.proofs.Common.{ℕ, List, ◌≡◌, true, false, [], ◌∷◌, ◌++◌, codes, refl}
use Rattle.std.specs.Prelude.{Some, None}
use Rattle.std.specs.Fmt.{digits}
use Rattle.std.specs.Str.{chars}
use Rattle.cp_invlist.specs.InversionList.{contains, is_inversion_list}
use Rattle.cp_invlist.specs.Ranges.{ranges_of}
use Rattle.cp_invlist.specs.declared.ranges.CodePointRange.{CodePointRange}
use Rattle.prop_data.specs.declared.error.TableErrorKind.TheVariants.{RangeOrder, NoEnd, SyntaxAscii}
use Rattle.text_lines.specs.Fields.{is_sole}
use Rattle.prop_data.specs.TableKind.{kind_of_word}
use Rattle.prop_data.specs.Numbers.{range, hyphen_parts, spelled}
use Rattle.prop_binary.specs.Tables.{properties}
use Rattle.prop_data.specs.LineFault.{range_fault, syntax_fault, lacks_some_list}
use Rattle.prop_data.specs.TableText.{table_fault, at_line}
use lib.Utf8.{encode}
use Rattle.uset_grammar.specs.Outcome.{unexpected, internal}
use Rattle.uset_grammar.specs.Answers.{absent}
use Rattle.uset_tool.specs.Answer.{range_text, string_text, read_text, fault_text, bad_line_text, bound_text, is_bound_text, text_after_text, fault, a_character, free, bound_before as bound_earlier, ends, answers}
use Rattle.uset_tool.specs.Script.{silent, pattern, binding, bad, script_line, character, string, set}
use Rattle.uset_tool.specs.Generated.{pattern_of, sizes_text, unread}
use Rattle.uset_tool.specs.Words.{generate, pattern_number_of, command_of, is_known, table_fault_text}
use Rattle.uset_tool.specs.Run.{table_lines, script_lines, Answers, usage, Evaluates, faulty_tables, script, Generates, generated}
use Rattle.uset_tool.specs.declared.status.Status.TheVariants.{Usage, Tables, SomeErr}

abbrev zero : CodePointRange
zero = record { start = 0x30; end = 0x30 }

abbrev letters : CodePointRange
letters = record { start = 0x61; end = 0x7A }

one_code_point : range_text zero ≡ codes " 0030"
unfolding digits
one_code_point = refl

above_four_digits : range_text (record { start = 0xFFFF; end = 0x10_FFFF }) ≡ codes " FFFF-10FFFF"
unfolding digits
above_four_digits = refl

-- the inversion list of the set of `[a-z0]`, its members and its maximal ranges
abbrev zero_and_letters : List ℕ
zero_and_letters = 0x30 ∷ 0x31 ∷ 0x61 ∷ 0x7B ∷ []

list_is_canonical : is_inversion_list zero_and_letters ≡ true
list_is_canonical = refl

letter_is_member : contains zero_and_letters 0x6D ≡ true
letter_is_member = refl

brace_is_no_member : contains zero_and_letters 0x7B ≡ false
brace_is_no_member = refl

ranges_are_spelled : ranges_of zero_and_letters ≡ zero ∷ letters ∷ []
ranges_are_spelled = refl

-- the answer to `pat [a-z0]`
letters_and_zero : read_text 6 (zero ∷ letters ∷ []) [] ≡ codes "ok 6 0030 0061-007A\n"
unfolding digits
letters_and_zero = refl

-- the answer to `pat [{}}]`
brace_and_empty_string : read_text 5 (record { start = 0x7D; end = 0x7D } ∷ []) ([] ∷ []) ≡ codes "ok 5 007D {}\n"
unfolding digits chars
brace_and_empty_string = refl

-- two characters of a string
string_of_two : string_text (0x61 ∷ 0xC3 ∷ 0x80 ∷ []) ≡ codes " {0061_00C0}"
unfolding digits chars
string_of_two = refl

-- the answer to a pattern with a fault
reversed_range : fault_text (unexpected 0x61) (Some 4) (codes "[b-\\x61]") ≡ codes "err [b-\\x" ++ (226 ∷ 134 ∷ 144 ∷ codes " error: unexpected character 'a'\n")
unfolding chars encode
reversed_range = refl

no_place : fault_text internal None (codes "[a]") ≡ codes "err error: internal error\n"
unfolding encode
no_place = refl

bad_line : bad_line_text ≡ codes "err bad line\n"
bad_line = refl

pattern_line : script_line (codes "pat [a]") ≡ pattern (codes "[a]")
unfolding script_line
pattern_line = refl

other_line : script_line (codes "hello") ≡ bad
unfolding script_line
other_line = refl

comment_line : script_line (codes "# pat [a]") ≡ silent
unfolding script_line
comment_line = refl

eval_is_known : is_known (codes "eval" ∷ []) ≡ true
eval_is_known = refl

tables_is_known : is_known (codes "tables" ∷ []) ≡ true
tables_is_known = refl

gen_is_known : is_known (codes "gen" ∷ codes "1" ∷ []) ≡ true
unfolding pattern_number_of spelled
gen_is_known = refl

gen_is_known_up_to_ten_thousand : command_of (codes "gen" ∷ codes "10000" ∷ []) ≡ Some (generate 10000)
unfolding pattern_number_of spelled
gen_is_known_up_to_ten_thousand = refl

nothing_is_generated : is_known (codes "gen" ∷ codes "0" ∷ []) ≡ false
unfolding pattern_number_of spelled
nothing_is_generated = refl

no_leading_zero : is_known (codes "gen" ∷ codes "01" ∷ []) ≡ false
unfolding pattern_number_of spelled
no_leading_zero = refl

one_too_many : is_known (codes "gen" ∷ codes "10001" ∷ []) ≡ false
unfolding pattern_number_of spelled
one_too_many = refl

no_sign : is_known (codes "gen" ∷ codes "+1" ∷ []) ≡ false
unfolding pattern_number_of spelled
no_sign = refl

no_number : is_known (codes "gen" ∷ []) ≡ false
no_number = refl

two_numbers : is_known (codes "gen" ∷ codes "1" ∷ codes "2" ∷ []) ≡ false
two_numbers = refl

two_words_are_unknown : is_known (codes "eval" ∷ codes "x" ∷ []) ≡ false
two_words_are_unknown = refl

tables_end_with_end : table_lines (codes "set XID_Start\nend #\npat [a]\n") ≡ codes "set XID_Start" ∷ codes "end #" ∷ []
unfolding is_sole
tables_end_with_end = refl

script_stands_behind : script_lines (codes "set XID_Start\nend\npat [a]\n\nx") ≡ codes "pat [a]" ∷ [] ∷ codes "x" ∷ []
unfolding is_sole
script_stands_behind = refl

tables_told : table_fault_text (at_line 3 RangeOrder) ≡ codes "tables line 3: RangeOrder\n"
unfolding digits
tables_told = refl

fault_of_descending_rows : table_fault (table_lines (codes "set XID_Start\n61-7A\n41\nend\n")) ≡ Some (at_line 3 RangeOrder)
unfolding lacks_some_list is_sole kind_of_word properties range hyphen_parts spelled range_fault syntax_fault
fault_of_descending_rows = refl

no_fault_of_one_row : table_fault (table_lines (codes "set XID_Start\n61-7A # letters\nend\n")) ≡ None
unfolding lacks_some_list is_sole kind_of_word properties range hyphen_parts spelled range_fault syntax_fault
no_fault_of_one_row = refl

-- no word is answered with the usage
no_words : Answers [] (codes "end\n") (codes "usage: uset COMMAND\n") Usage
no_words = usage refl

no_end : Evaluates [] (codes "tables line 1: NoEnd\n") Tables
unfolding digits
no_end = faulty_tables (at_line 1 NoEnd) refl

letter_as_white_space : Evaluates (codes "# own\nset Pattern_White_Space\n41\nend\n") (codes "tables line 3: SyntaxAscii\n") Tables
unfolding lacks_some_list is_sole kind_of_word properties range hyphen_parts spelled range_fault syntax_fault digits
letter_as_white_space = faulty_tables (at_line 3 SyntaxAscii) refl

line_that_is_none : Evaluates (codes "end\nhello\n") (codes "err bad line\n") SomeErr
unfolding lacks_some_list is_sole kind_of_word script_line
line_that_is_none = script refl (codes "err bad line\n") true (answers (codes "err bad line\n") [] true false (refl, refl, refl) ends)

absent_tables : Evaluates (codes "end\npat [a]\n") (codes "err error: internal error\n") SomeErr
unfolding lacks_some_list is_sole kind_of_word script_line encode
absent_tables =
    script refl (codes "err error: internal error\n") true (answers (codes "err error: internal error\n") [] true false
    (fault {kind = internal} {offset = None} (record { place = None; fault = absent; is = refl }), refl) ends)

-- lines that bind names
character_line : script_line (codes "let a char 61") ≡ binding (codes "a") (character 0x61)
unfolding script_line spelled
character_line = refl

string_line : script_line (codes "let ab str 61 20AC") ≡ binding (codes "ab") (string (0x61 ∷ 0x20AC ∷ []))
unfolding script_line spelled
string_line = refl

empty_string_line : script_line (codes "let a str") ≡ binding (codes "a") (string [])
unfolding script_line
empty_string_line = refl

set_line : script_line (codes "let a set [b] ") ≡ binding (codes "a") (set (codes "[b] "))
unfolding script_line
set_line = refl

empty_set_line : script_line (codes "let a set ") ≡ binding (codes "a") (set [])
unfolding script_line
empty_set_line = refl

surrogate_line : script_line (codes "let a char D800") ≡ bad
unfolding script_line spelled
surrogate_line = refl

long_number_line : script_line (codes "let a char 0000061") ≡ bad
unfolding script_line spelled
long_number_line = refl

two_spaces_line : script_line (codes "let a str  61") ≡ bad
unfolding script_line spelled
two_spaces_line = refl

nameless_line : script_line (codes "let  char 61") ≡ bad
unfolding script_line
nameless_line = refl

bound : bound_text (codes "ab") ≡ codes "bound ab\n"
bound = refl

bound_before : is_bound_text (codes "ab") ≡ codes "err ab is bound\n"
bound_before = refl

text_behind : text_after_text 3 ≡ codes "err text after the set at byte 3\n"
unfolding digits
text_behind = refl

names_are_bound : Evaluates (codes "end\nlet a char 61\nlet a str\n") (codes "bound a\nerr a is bound\n") SomeErr
unfolding lacks_some_list is_sole kind_of_word script_line spelled chars encode
names_are_bound =
    script refl (codes "bound a\nerr a is bound\n") true (answers (codes "bound a\n") (codes "err a is bound\n") false true (free refl a_character)
    (answers (codes "err a is bound\n") [] true false (bound_earlier refl) ends))

-- patterns that numbers tell, and their sizes
of_one : pattern_of 1 ≡ codes "[[\\u{c67ea}-\\u{c67ea}]]"
unfolding digits
of_one = refl

of_two : pattern_of 2 ≡ codes "[[\\u{8ccd1}-\\u{8ccd1}][\\u{214b5}-\\u{214b6}]]"
unfolding digits
of_two = refl

sizes_of_two : sizes_text 44 (record { start = 0x214B5; end = 0x214B6 } ∷ record { start = 0x8CCD1; end = 0x8CCD1 } ∷ []) ≡ codes "bytes 44\nranges 2\npoints 3\n"
unfolding digits
sizes_of_two = refl

no_syntax : Generates 1 (codes "end\n") (codes "err error: internal error\n") SomeErr
unfolding lacks_some_list is_sole kind_of_word encode
no_syntax = generated refl (codes "err error: internal error\n") true (unread {kind = internal} {offset = None} (record { place = None; fault = absent; is = refl }))
