-- The tests in their order, and as they are made.
use Rattle.std.specs.Option.{option_or}
use Rattle.std.proofs.Common.{◌≡◌, ℕ, Bool, true, false, ◌||◌, not, nat_lt, max, List, [], Option, Some, None, is_none, is_some, unwrap_or, cond, refl, ◌∙◌}
use Rattle.std.specs.List.{list_any}
use Rattle.prop_data.specs.declared.error.TableErrorKind.{TableErrorKind}
use Rattle.prop_data.specs.declared.error.TableErrorKind.TheVariants.{UnknownLine, TableTwice, BadNumber, TooLarge, RangeOrder, ValueOutOfType, BadName, NamesClash, SyntaxAscii, ExtensionOrder, ExtensionMissing}
use Rattle.prop_data.specs.Headers.{Table, set_table, map_table, names_table, long_table, short_table, emoji_table, scx_table, ext_table}
use Rattle.prop_data.specs.Line.{set_header, map_header, names_header, long_header, short_header, emoji_header, scx_header, ext_header, Row, Line, blank, header, row, closing, other}
use Rattle.prop_data.specs.LineFault.{Above, overlaps, forbidden, is_not_above, accepts_value, kept_of, line_fault, range_fault, syntax_fault, value_fault, after_end, set_header_fault, map_header_fault, names_header_fault, text_header_fault, set_row_fault, map_row_fault, names_row_fault, text_row_fault, row_fault, kept_fault, no_text, no_emoji, order_fault, lacks_some_list, missing_fault, scx_header_fault, ext_header_fault, scx_row_fault, ext_row_fault, emoji_header_fault, emoji_range_fault, emoji_string_fault, emoji_row_fault}
use Rattle.prop_data.specs.Rows.{is_subtags}
use Rattle.prop_data.specs.Strings.{braced}
use Rattle.prop_data.specs.Tests.{Said, nothing, unknown, ending, set_begins, map_begins, names_begin, long_begins, short_begins, emoji_begins, scx_begins, ext_begins, scx_row, ext_row, set_row, map_row, names_row, long_row, short_row, emoji_range, emoji_string, said, said_by_emoji, said_by_row, tests, first_failing, fault_of_line}

-- the tests of what a line is, as they are made
abbrev made : Above → Said → Option TableErrorKind
made seen nothing = None
made seen unknown = Some UnknownLine
made seen ending = option_or (missing_fault seen.tables) (after_end seen.closed)
made seen (set_begins t) = option_or (set_header_fault seen.tables t) (after_end seen.closed)
made seen (map_begins t n) = option_or (map_header_fault seen.tables t n) (after_end seen.closed)
made seen (names_begin t) = option_or (names_header_fault seen.tables t) (after_end seen.closed)
made seen (long_begins t) = option_or (text_header_fault seen.tables.long t) (after_end seen.closed)
made seen (short_begins t) = option_or (text_header_fault seen.tables.short t) (after_end seen.closed)
made seen (emoji_begins t) = option_or (emoji_header_fault seen.tables t) (after_end seen.closed)
made seen (scx_begins n) = option_or (scx_header_fault seen.tables n) (after_end seen.closed)
made seen (ext_begins i s) = option_or (ext_header_fault seen.tables i s) (after_end seen.closed)
made seen (set_row t r) = set_row_fault t seen.last r
made seen (map_row t r n) = map_row_fault t seen.last r n
made seen (names_row t n text) = names_row_fault t (unwrap_or (seen.tables.names t) []) n text
made seen (long_row t n text) = text_row_fault false t (unwrap_or (seen.tables.long t) no_text) n text
made seen (short_row t n text) = text_row_fault (is_subtags t) t (unwrap_or (seen.tables.short t) no_text) n text
made seen (emoji_range t r) = emoji_range_fault seen.last r
made seen (emoji_string t ns) = emoji_string_fault (unwrap_or (seen.tables.emoji t) no_emoji) ns
made seen (scx_row r n) = scx_row_fault seen.last r n
made seen (ext_row n) = ext_row_fault seen.last n

one : {K : Type 0} (a : Bool) (k : K) (x : Option K) → cond a (Some k) x ≡ option_or (cond a (Some k) None) x
one true k x = refl
one false k x = refl

one_of_two : {K : Type 0} (a : Bool) (k l : K) (x : Option K) → cond a (Some k) (Some l) ≡ option_or (cond a (Some k) (Some l)) x
one_of_two true k l x = refl
one_of_two false k l x = refl

two : {K : Type 0} (a b : Bool) (k l : K) (x : Option K) → cond a (Some k) (cond b (Some l) x) ≡ option_or (cond a (Some k) (cond b (Some l) None)) x
two true b k l x = refl
two false true k l x = refl
two false false k l x = refl

default : {K : Type 0} (a b : Bool) (k l : K) (x : Option K) → cond a (Some k) (cond (not b) (Some l) x) ≡ option_or (cond a (Some k) (cond b None (Some l))) x
default true b k l x = refl
default false true k l x = refl
default false false k l x = refl

value : {K : Type 0} (a b c : Bool) (k l m : K) → cond a (Some k) (cond b (Some l) (cond (not c) (Some m) None)) ≡ option_or (cond a (Some k) (cond b (Some l) None)) (cond c None (Some m))
value true b c k l m = refl
value false true c k l m = refl
value false false true k l m = refl
value false false false k l m = refl

text : (taken there : Bool) (kept : Option (List ℕ)) →
    cond (not taken) (Some ValueOutOfType) (cond (is_none kept) (Some BadName) (cond there (Some NamesClash) None)) ≡ cond taken (kept_fault there kept) (Some ValueOutOfType)
text false there kept = refl
text true there None = refl
text true there (Some kept) = refl

three : {K : Type 0} (a b c : Bool) (k l m : K) (x : Option K) →
    cond a (Some k) (cond b (Some l) (cond (not c) (Some m) x)) ≡ option_or (cond a (Some k) (cond b (Some l) (cond c None (Some m)))) x
three true b c k l m x = refl
three false true c k l m x = refl
three false false true k l m x = refl
three false false false k l m x = refl

script : {K : Type 0} (a b : Bool) (k l : K) → cond (not a) (Some k) (cond b (Some l) None) ≡ option_or (cond a None (Some k)) (cond b (Some l) None)
script true b k l = refl
script false b k l = refl

in_order : (seen : Above) (s : Said) → first_failing seen s tests ≡ made seen s
unfolding range_fault syntax_fault value_fault order_fault
in_order seen nothing = refl
in_order seen unknown = refl
in_order seen ending = one (lacks_some_list seen.tables) ExtensionMissing (after_end seen.closed)
in_order seen (set_begins None) = refl
in_order seen (set_begins (Some t)) = one (is_some (seen.tables.sets t)) TableTwice (after_end seen.closed)
in_order seen (map_begins None n) = refl
in_order seen (map_begins (Some t) None) = one_of_two (is_some (seen.tables.maps t)) TableTwice BadNumber (after_end seen.closed)
in_order seen (map_begins (Some t) (Some n)) = default (is_some (seen.tables.maps t)) (accepts_value t n) TableTwice ValueOutOfType (after_end seen.closed)
in_order seen (names_begin None) = refl
in_order seen (names_begin (Some t)) = one (is_some (seen.tables.names t)) TableTwice (after_end seen.closed)
in_order seen (long_begins None) = refl
in_order seen (long_begins (Some t)) = one (is_some (seen.tables.long t)) TableTwice (after_end seen.closed)
in_order seen (short_begins None) = refl
in_order seen (short_begins (Some t)) = one (is_some (seen.tables.short t)) TableTwice (after_end seen.closed)
in_order seen (emoji_begins None) = refl
in_order seen (emoji_begins (Some t)) = one (is_some (seen.tables.emoji t)) TableTwice (after_end seen.closed)
in_order seen (scx_begins None) = one_of_two (is_some seen.tables.scripts) TableTwice BadNumber (after_end seen.closed)
in_order seen (scx_begins (Some n)) = default (is_some seen.tables.scripts) (accepts_value 4 n) TableTwice ValueOutOfType (after_end seen.closed)
in_order seen (ext_begins None s) = refl
in_order seen (ext_begins (Some i) None) = two (is_some (seen.tables.extensions i)) (nat_lt 1023 i) TableTwice TooLarge (after_end seen.closed)
in_order seen (ext_begins (Some i) (Some None)) = one_of_two (is_some (seen.tables.extensions i)) TableTwice BadNumber (after_end seen.closed)
in_order seen (ext_begins (Some i) (Some (Some s))) = three (is_some (seen.tables.extensions i)) (nat_lt 1023 i) (accepts_value 4 s) TableTwice TooLarge ValueOutOfType (after_end seen.closed)
in_order seen (scx_row None n) = refl
in_order seen (scx_row (Some r) None) = refl
in_order seen (scx_row (Some r) (Some n)) =
    value (nat_lt 0x10_FFFF (max r.0 r.1)) (nat_lt r.1 r.0 || is_not_above seen.last r.0) (accepts_value 4 n) TooLarge RangeOrder ValueOutOfType
in_order seen (ext_row None) = refl
in_order seen (ext_row (Some n)) = script (accepts_value 4 n) (is_not_above seen.last n) ValueOutOfType ExtensionOrder
in_order seen (set_row t None) = refl
in_order seen (set_row t (Some r)) =
    two (nat_lt 0x10_FFFF (max r.0 r.1)) (nat_lt r.1 r.0 || is_not_above seen.last r.0) TooLarge RangeOrder (cond (list_any (overlaps r) (forbidden t)) (Some SyntaxAscii) None)
in_order seen (map_row t None n) = refl
in_order seen (map_row t (Some r) None) = refl
in_order seen (map_row t (Some r) (Some n)) =
    value (nat_lt 0x10_FFFF (max r.0 r.1)) (nat_lt r.1 r.0 || is_not_above seen.last r.0) (accepts_value t n) TooLarge RangeOrder ValueOutOfType
in_order seen (names_row t None name) = refl
in_order seen (names_row t (Some n) name) = refl
in_order seen (long_row t None name) = refl
in_order seen (long_row t (Some n) name) = text (accepts_value t n) (is_some (unwrap_or (seen.tables.long t) no_text n)) (kept_of false name)
in_order seen (short_row t None name) = refl
in_order seen (short_row t (Some n) name) = text (accepts_value t n) (is_some (unwrap_or (seen.tables.short t) no_text n)) (kept_of (is_subtags t) name)
in_order seen (emoji_range t None) = refl
in_order seen (emoji_range t (Some r)) = refl
in_order seen (emoji_string t None) = refl
in_order seen (emoji_string t (Some ns)) = refl

of_emoji_row : (seen : Above) (t : ℕ) (field : List ℕ) (inner : Option (List ℕ)) → made seen (said_by_emoji t field inner) ≡ emoji_row_fault (unwrap_or (seen.tables.emoji t) no_emoji) seen.last field inner
of_emoji_row seen t field None = refl
of_emoji_row seen t field (Some inner) = refl

of_row : (seen : Above) (t : Option Table) (r : Row) → made seen (said_by_row t r) ≡ row_fault seen.tables t seen.last r
of_row seen None r = refl
of_row seen (Some (set_table t)) (first, None) = refl
of_row seen (Some (set_table t)) (first, Some second) = refl
of_row seen (Some (map_table t default)) (first, None) = refl
of_row seen (Some (map_table t default)) (first, Some second) = refl
of_row seen (Some (names_table t)) (first, None) = refl
of_row seen (Some (names_table t)) (first, Some second) = refl
of_row seen (Some (long_table t)) (first, None) = refl
of_row seen (Some (long_table t)) (first, Some second) = refl
of_row seen (Some (short_table t)) (first, None) = refl
of_row seen (Some (short_table t)) (first, Some second) = refl
of_row seen (Some (emoji_table t)) (first, None) = of_emoji_row seen t first (braced first)
of_row seen (Some (emoji_table t)) (first, Some second) = refl
of_row seen (Some (scx_table default)) (first, None) = refl
of_row seen (Some (scx_table default)) (first, Some second) = refl
of_row seen (Some (ext_table i script)) (first, None) = refl
of_row seen (Some (ext_table i script)) (first, Some second) = refl

of_open_row : (seen : Above) (r : Row) (closed : Bool) → made seen (cond closed unknown (said_by_row seen.table r)) ≡ cond closed (Some UnknownLine) (row_fault seen.tables seen.table seen.last r)
of_open_row seen r true = refl
of_open_row seen r false = of_row seen seen.table r

of_line : (seen : Above) (l : Line) → made seen (said seen l) ≡ line_fault seen l
of_line seen blank = refl
of_line seen other = refl
of_line seen closing = refl
of_line seen (header (set_header name)) = refl
of_line seen (header (map_header name default)) = refl
of_line seen (header (names_header name)) = refl
of_line seen (header (long_header name)) = refl
of_line seen (header (short_header name)) = refl
of_line seen (header (emoji_header name)) = refl
of_line seen (header (scx_header default)) = refl
of_line seen (header (ext_header index script)) = refl
of_line seen (row r) = of_open_row seen r seen.closed

-- the tests in their order find the fault that the tests as they are made find
pub fault_of_line-line_fault : (seen : Above) (l : Line) → fault_of_line seen l ≡ line_fault seen l
fault_of_line-line_fault seen l = in_order seen (said seen l) ∙ of_line seen l
