-- What stands above a line, and what a line adds to it.
use Rattle.std.specs.Option.{option_or}
use Rattle.std.proofs.Common.{◌≡◌, ℕ, Bool, true, false, ◌||◌, nat_eq, List, [], ◌∷◌, Option, Some, None, is_some, option_map, option_and_then, cond, refl, ap, ◌∙◌}
use mathlib.Core.Path.{fun_ext}
use Rattle.prop_names.specs.Names.{Names, with_name}
use Rattle.prop_data.specs.declared.error.TableErrorKind.{TableErrorKind}
use Rattle.prop_data.specs.declared.error.TableErrorKind.TheVariants.{TableTwice}
use Rattle.prop_data.specs.Headers.{Table, set_table, map_table, names_table, long_table, short_table, emoji_table, scx_table, ext_table, ext_of, set_number, map_number, names_number, text_number, emoji_number, table_of}
use Rattle.prop_data.specs.Line.{Header, set_header, map_header, names_header, long_header, short_header, emoji_header, scx_header, ext_header, Row, Line, blank, header, row, closing, other}
use Rattle.prop_data.specs.LinesAbove.{Section, is_closed, sections, with_row, table_of_row, last_in_table, found, set_at, map_at, names_at, long_at, short_at, emoji_at, ext_at, tables_of_sections, tables_of_lines}
use Rattle.prop_data.specs.Loading.{with_text, emoji_with, list_with, tables_begun, tables_grown, after}
use Rattle.prop_data.specs.Numbers.{range, decimal_number}
use Rattle.prop_data.specs.Rows.{holds, value_of, text_of, members, value, names_in, texts_in, is_subtags, emoji_members, extension_list}
use Rattle.prop_data.specs.Tables.{EmojiMembers, ExtensionList, Tables}
use Rattle.prop_data.specs.LineFault.{Above, above, header_fault, set_header_fault, map_header_fault, names_header_fault, text_header_fault, emoji_header_fault, ext_header_fault, index_fault, default_fault, unless, line_fault, after_end}

pub same_above : (a b : Above) → a.closed ≡ b.closed → a.table ≡ b.table → a.last ≡ b.last → a.tables ≡ b.tables → a ≡ b
same_above a b closed table last tables =
    λ i. record { closed = closed i; table = table i; last = last i; tables = tables i }

-- tables of which one kind is told otherwise
pub sets_told : (a : Tables) (s : ℕ → Option (ℕ → Bool)) → ((t : ℕ) → a.sets t ≡ s t) → a ≡ record a { sets = s }
sets_told a s h = let e = fun_ext h in λ i. record a { sets = e i }

pub maps_told : (a : Tables) (s : ℕ → Option (ℕ → ℕ)) → ((t : ℕ) → a.maps t ≡ s t) → a ≡ record a { maps = s }
maps_told a s h = let e = fun_ext h in λ i. record a { maps = e i }

pub names_told : (a : Tables) (s : ℕ → Option Names) → ((t : ℕ) → a.names t ≡ s t) → a ≡ record a { names = s }
names_told a s h = let e = fun_ext h in λ i. record a { names = e i }

pub long_told : (a : Tables) (s : ℕ → Option (ℕ → Option (List ℕ))) → ((t : ℕ) → a.long t ≡ s t) → a ≡ record a { long = s }
long_told a s h = let e = fun_ext h in λ i. record a { long = e i }

pub short_told : (a : Tables) (s : ℕ → Option (ℕ → Option (List ℕ))) → ((t : ℕ) → a.short t ≡ s t) → a ≡ record a { short = s }
short_told a s h = let e = fun_ext h in λ i. record a { short = e i }

pub emoji_told : (a : Tables) (s : ℕ → Option EmojiMembers) → ((t : ℕ) → a.emoji t ≡ s t) → a ≡ record a { emoji = s }
emoji_told a s h = let e = fun_ext h in λ i. record a { emoji = e i }

pub extensions_told : (a : Tables) (s : ℕ → Option ExtensionList) → ((t : ℕ) → a.extensions t ≡ s t) → a ≡ record a { extensions = s }
extensions_told a s h = let e = fun_ext h in λ i. record a { extensions = e i }

no_fault_first : {A : Type 0} (x y : Option A) → option_or x y ≡ None → x ≡ None
no_fault_first None y h = refl
no_fault_first (Some x) y h = cc

named_set : (tables : Tables) (s : Option ℕ) → set_header_fault tables s ≡ None → (t : ℕ) × (s ≡ Some t)
named_set tables None h = absurd (cc)
named_set tables (Some t) h = (t, refl)

spelled_default : (t : ℕ) (d : Option ℕ) → default_fault t d ≡ None → (n : ℕ) × (d ≡ Some n)
spelled_default t None h = absurd (cc)
spelled_default t (Some n) h = (n, refl)

not_twice : {A : Type 0} (b : Bool) (x : Option A) (e : A) → cond b (Some e) x ≡ None → x ≡ None
not_twice true x e h = absurd (cc)
not_twice false x e h = h

named_map : (tables : Tables) (s d : Option ℕ) → map_header_fault tables s d ≡ None → (t : ℕ) × (n : ℕ) × (s ≡ Some t) × (d ≡ Some n)
named_map tables None d h = absurd (cc)
named_map tables (Some t) d h =
    let p = spelled_default t d (not_twice (is_some (tables.maps t)) (default_fault t d) TableTwice h) in (t, p.0, refl, p.1)

named_names : (tables : Tables) (s : Option ℕ) → names_header_fault tables s ≡ None → (t : ℕ) × (s ≡ Some t)
named_names tables None h = absurd (cc)
named_names tables (Some t) h = (t, refl)

named_texts : (texts : ℕ → Option (ℕ → Option (List ℕ))) (s : Option ℕ) → text_header_fault texts s ≡ None → (t : ℕ) × (s ≡ Some t)
named_texts texts None h = absurd (cc)
named_texts texts (Some t) h = (t, refl)

named_emoji : (tables : Tables) (s : Option ℕ) → emoji_header_fault tables s ≡ None → (t : ℕ) × (s ≡ Some t)
named_emoji tables None h = absurd (cc)
named_emoji tables (Some t) h = (t, refl)

ext_named : (i : ℕ) (script : Option (List ℕ)) → index_fault i (option_map decimal_number script) ≡ None → (t : Table) × (ext_of script i ≡ Some t)
ext_named i None h = (ext_table i None, refl)
ext_named i (Some s) h = by_script (decimal_number s) h
  where
    by_script : (d : Option ℕ) → index_fault i (Some d) ≡ None → (t : Table) × (option_map (λ (n : ℕ). ext_table i (Some n)) d ≡ Some t)
    by_script None h = absurd (cc)
    by_script (Some n) h = (ext_table i (Some n), refl)

named_ext : (tables : Tables) (i : Option ℕ) (script : Option (List ℕ)) → ext_header_fault tables i (option_map decimal_number script) ≡ None → (t : Table) × (option_and_then (ext_of script) i ≡ Some t)
named_ext tables None script h = absurd (cc)
named_ext tables (Some i) script h = ext_named i script (not_twice (is_some (tables.extensions i)) (index_fault i (option_map decimal_number script)) TableTwice h)

-- a header without a fault names a table
pub named : (tables : Tables) (h : Header) → header_fault tables h ≡ None → (t : Table) × (table_of h ≡ Some t)
named tables (set_header name) h = let p = named_set tables (set_number name) h in (set_table p.0, ap (λ (s : Option ℕ). option_map set_table s) p.1)
named tables (map_header name default) h = let p = named_map tables (map_number name) (decimal_number default) h in (
  map_table p.0 p.1,
  ap (λ (s : Option ℕ). option_and_then (λ t. option_map (map_table t) (decimal_number default)) s) p.2 ∙ ap (λ (d : Option ℕ). option_map (map_table p.0) d) p.3,
)
named tables (names_header name) h = let p = named_names tables (names_number name) h in (names_table p.0, ap (λ (s : Option ℕ). option_map names_table s) p.1)
named tables (long_header name) h = let p = named_texts tables.long (text_number name) h in (long_table p.0, ap (λ (s : Option ℕ). option_map long_table s) p.1)
named tables (emoji_header name) h = let p = named_emoji tables (emoji_number name) h in (emoji_table p.0, ap (λ (s : Option ℕ). option_map emoji_table s) p.1)
named tables (scx_header default) h =
    let p = spelled_default 4 (decimal_number default) (not_twice (is_some tables.scripts) (default_fault 4 (decimal_number default)) TableTwice h) in
    (scx_table p.0, ap (λ (d : Option ℕ). option_map scx_table d) p.1)
named tables (ext_header index script) h = named_ext tables (decimal_number index) script h
named tables (short_header name) h = let p = named_texts tables.short (text_number name) h in (short_table p.0, ap (λ (s : Option ℕ). option_map short_table s) p.1)

-- what the nearest section says comes first
first_says : {A : Type 0} (b : Bool) (x : A) (y : Option A) → option_or (cond b (Some x) None) y ≡ cond b (Some x) y
first_says true x y = refl
first_says false x y = refl

-- a section without rows
tables_of_sections-begun : (t : Table) (ss : List Section) → tables_of_sections ((t, []) ∷ ss) ≡ tables_begun (Some t) (tables_of_sections ss)
tables_of_sections-begun (set_table n) ss = sets_told _ _ (λ t. first_says (nat_eq n t) _ _)
tables_of_sections-begun (map_table n default) ss = maps_told _ _ (λ t. first_says (nat_eq n t) _ _)
tables_of_sections-begun (names_table n) ss = names_told _ _ (λ t. first_says (nat_eq n t) _ _)
tables_of_sections-begun (long_table n) ss = long_told _ _ (λ t. first_says (nat_eq n t) _ _)
tables_of_sections-begun (short_table n) ss = short_told _ _ (λ t. first_says (nat_eq n t) _ _)
tables_of_sections-begun (emoji_table n) ss = emoji_told _ _ (λ t. first_says (nat_eq n t) _ _)
tables_of_sections-begun (scx_table default) ss = refl
tables_of_sections-begun (ext_table n script) ss = extensions_told _ _ (λ t. first_says (nat_eq n t) _ _)

-- what the nearest section says, with a row more
first_grows : {A : Type 0} (f : A → A) (b : Bool) (x : A) (y : Option A) →
    option_or (cond b (Some (f x)) None) y ≡ cond b (option_map f (option_or (cond b (Some x) None) y)) (option_or (cond b (Some x) None) y)
first_grows f true x y = refl
first_grows f false x y = refl

-- a section with a row more
tables_of_sections-grown : (t : Table) (r : Row) (rows : List Row) (ss : List Section) →
    tables_of_sections ((t, r ∷ rows) ∷ ss) ≡ tables_grown (Some t) r (tables_of_sections ((t, rows) ∷ ss))
tables_of_sections-grown (set_table n) r rows ss =
    sets_told _ _ (λ t. first_grows (λ (m : ℕ → Bool) (c : ℕ). m c || holds (range r.0) c) (nat_eq n t) (members rows) (found (set_at t) ss))
tables_of_sections-grown (map_table n default) r rows ss =
    maps_told _ _ (λ t. first_grows (λ (v : ℕ → ℕ) (c : ℕ). cond (holds (range r.0) c) (value_of r.1) (v c)) (nat_eq n t) (value n default rows) (found (map_at t) ss))
tables_of_sections-grown (names_table n) r rows ss =
    names_told _ _ (λ t. first_grows (λ (names : Names). with_name names (text_of r.1) (value_of (Some r.0))) (nat_eq n t) (names_in rows) (found (names_at t) ss))
tables_of_sections-grown (long_table n) r rows ss =
    long_told _ _ (λ t. first_grows (with_text false r) (nat_eq n t) (texts_in false rows) (found (long_at t) ss))
tables_of_sections-grown (short_table n) r rows ss =
    short_told _ _ (λ t. first_grows (with_text (is_subtags n) r) (nat_eq n t) (texts_in (is_subtags n) rows) (found (short_at t) ss))
tables_of_sections-grown (emoji_table n) r rows ss =
    emoji_told _ _ (λ t. first_grows (emoji_with r) (nat_eq n t) (emoji_members rows) (found (emoji_at t) ss))
tables_of_sections-grown (scx_table default) r rows ss = refl
tables_of_sections-grown (ext_table n script) r rows ss =
    extensions_told _ _ (λ t. first_grows (list_with r) (nat_eq n t) (extension_list script rows) (found (ext_at t) ss))

-- a header without a fault begins its table
begun : (ls : List Line) (h : Header) (t : Table) → table_of h ≡ Some t → is_closed ls ≡ false → above (header h ∷ ls) ≡ after (above ls) (header h)
begun ls h t is open_still = rw (is, open_still) (same_above _ _ refl refl refl (tables_of_sections-begun t (sections ls)))

-- what stands above a line, by the sections
abbrev above_sections : Bool → List Section → Above
above_sections closed ss = record { closed = closed; table = unless closed (table_of_row ss); last = unless closed (last_in_table ss); tables = tables_of_sections ss }

-- a row without a fault joins those of its table
grown : (closed : Bool) (ss : List Section) (r : Row) → line_fault (above_sections closed ss) (row r) ≡ None → above_sections closed (with_row r ss) ≡ after (above_sections closed ss) (row r)
grown true ss r h = absurd (cc)
grown false [] r h = absurd (cc)
grown false (s ∷ ss) r h = same_above _ _ refl refl refl (tables_of_sections-grown s.0 r s.1 ss)

-- nothing but lines without fields may follow `end`
not_closed : (x : Option TableErrorKind) (closed : Bool) → option_or x (after_end closed) ≡ None → closed ≡ false
not_closed None true h = absurd (cc)
not_closed None false h = refl
not_closed (Some e) closed h = absurd (cc)

-- a line without a fault joins those above
pub above-line : (ls : List Line) (l : Line) → line_fault (above ls) l ≡ None → above (l ∷ ls) ≡ after (above ls) l
above-line ls blank h = refl
above-line ls closing h = refl
above-line ls other h = absurd (cc)
above-line ls (header h) fine =
    let t = named (tables_of_lines ls) h (no_fault_first (header_fault (tables_of_lines ls) h) (after_end (is_closed ls)) fine) in
    begun ls h t.0 t.1 (not_closed (header_fault (tables_of_lines ls) h) (is_closed ls) fine)
above-line ls (row r) fine = grown (is_closed ls) (sections ls) r fine
