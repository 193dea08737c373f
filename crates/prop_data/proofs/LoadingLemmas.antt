-- An open table and the tables beside it.
use Rattle.std.specs.Option.{option_or}
use Rattle.std.proofs.Common.{is_some, ap₂, ◌∷◌, ◌++◌, ◌≡◌, ℕ, Bool, true, false, ◌||◌, nat_lt, nat_eq, List, [], [], Option, Some, None, option_map, cond, refl, sym, ap, ◌∙◌, Result, Ok, Err}
use mathlib.Core.Path.{fun_ext}
use Rattle.cp_invlist.specs.InversionList.{contains}
use Rattle.cp_trie.specs.Runs.{value_in}
use Rattle.prop_names.specs.Names.{Names as NamesTable, with_name}
use Rattle.prop_values.specs.Tables.{default_number}
use Rattle.prop_data.specs.declared.load.emoji.OpenEmoji.{OpenEmoji}
use Rattle.prop_data.specs.declared.load.extensions.OpenList.{OpenList}
use Rattle.prop_data.specs.declared.load.map.OpenMap.{OpenMap}
use Rattle.prop_data.specs.declared.load.scripts.OpenScripts.{OpenScripts}
use Rattle.cp_trie.specs.declared.ranges.CodePointMapRange.{CodePointMapRange}
use Rattle.prop_data.specs.declared.load.names.OpenNames.{OpenNames}
use Rattle.prop_data.specs.declared.load.set.OpenSet.{OpenSet}
use Rattle.prop_data.specs.declared.load.OpenTable.{OpenTable}
use Rattle.prop_data.specs.declared.load.OpenTable.TheVariants.{Set, Map, Names, Texts, Emoji, Scripts, List as Listed}
use Rattle.prop_data.specs.declared.load.texts.Length.{Length}
use Rattle.prop_data.specs.declared.load.texts.Length.TheVariants.{Long, Short}
use Rattle.prop_data.specs.Lengths.{has_subtags}
use Rattle.prop_data.specs.Loading.{table_seen, last_seen, values_of, tables_with, tables_begun, tables_grown, with_text, table_of_length, emoji_read, emoji_with, scripts_read, list_read, list_with, IsNew, TakesRow, TakesEmoji}
use Rattle.prop_names.specs.ValueNameTables.{name_at}
use Rattle.prop_data.specs.Changes.{with_set, with_map, with_names, with_texts, with_emoji, with_scripts, with_list}
use Rattle.prop_data.specs.Headers.{set_table, map_table, names_table, emoji_table, scx_table, ext_table}
use Rattle.prop_data.specs.Line.{Row}
use Rattle.prop_data.specs.Numbers.{range}
use Rattle.prop_data.specs.Rows.{holds, value_of, text_of, value_outside, is_subtags, first_scripts}
use Rattle.prop_data.specs.Tables.{EmojiMembers, Tables}
use Rattle.prop_data.specs.LineFault.{row_fault, no_text, no_emoji}
use Rattle.prop_data.specs.declared.error.LineError.{LineError}
use Rattle.prop_data.specs.declared.error.LineError.TheVariants.{Fault, NoMemory}
use Rattle.prop_data.specs.declared.error.TableErrorKind.{TableErrorKind}
use Rattle.prop_data.specs.Strings.{is_text, string_in, range_in}
use Rattle.std.specs.BTreeSet.{contains_text}
use Rattle.prop_data.proofs.AboveLemmas.{sets_told, maps_told, names_told, long_told, short_told, emoji_told, extensions_told}

tables_with-new_texts : (l : Length) (t : ℕ) (texts : ℕ → Option (List ℕ)) (base tables : Tables) → ((n : ℕ) → texts n ≡ None) → base ≡ tables →
    with_texts l t texts base ≡ tables_begun (Some (table_of_length l t)) tables
tables_with-new_texts Long t texts base tables new same = ap (λ x. with_texts Long t x base) (fun_ext new) ∙ ap (with_texts Long t no_text) same
tables_with-new_texts Short t texts base tables new same = ap (λ x. with_texts Short t x base) (fun_ext new) ∙ ap (with_texts Short t no_text) same

same_members : (a b : EmojiMembers) → ((c : ℕ) → a.code_points c ≡ b.code_points c) → ((bytes : List ℕ) → a.strings bytes ≡ b.strings bytes) → a ≡ b
same_members a b points strings =
    let p = fun_ext points in let s = fun_ext strings in
    λ i. record { code_points = p i; strings = s i }

pub same_emoji : (old new : EmojiMembers) (t : ℕ) (tables : Tables) → ((c : ℕ) → new.code_points c ≡ old.code_points c) → ((bytes : List ℕ) → new.strings bytes ≡ old.strings bytes) → with_emoji t new tables ≡ with_emoji t old tables
same_emoji old new t tables points strings = ap (λ m. with_emoji t m tables) (same_members new old points strings)

-- an open table without rows
pub tables_with-new : (o : OpenTable) (base tables : Tables) → IsNew o → base ≡ tables → tables_with o base ≡ tables_begun (Some (table_seen o)) tables
tables_with-new (Set o) base tables new same = ap (λ b. with_set o.table (contains b) base) new.0 ∙ ap (with_set o.table (λ c. false)) same
tables_with-new (Map o) base tables new same =
    ap (λ rs. with_map o.table (λ c. cond (nat_lt 0x10_FFFF c) (default_number o.table) (value_in rs o.builder.default c)) base) new.0
    ∙ ap (with_map o.table (value_outside o.table o.builder.default)) same
tables_with-new (Names o) base tables new same = ap (λ b. with_names o.table b base) new ∙ ap (with_names o.table []) same
tables_with-new (Texts o) base tables new same = tables_with-new_texts o.length o.table (name_at o.texts) base tables new same
tables_with-new (Scripts o) base tables new same =
    ap₂ (λ (rs : List (CodePointMapRange ℕ)) (xs : List ℕ). with_scripts (record { values = λ c. cond (nat_lt 0x10_FFFF c) (default_number 4) (value_in rs o.builder.default c); named = xs }) base) new.0 new.2
    ∙ ap (with_scripts (record { values = value_outside 4 o.builder.default; named = o.builder.default ∷ [] })) same
tables_with-new (Listed o) base tables new same =
    ap (λ (xs : List ℕ). with_list o.index (record { has_script = is_some o.script; scripts = xs }) base) new.0
    ∙ ap (with_list o.index (record { has_script = is_some o.script; scripts = first_scripts o.script })) same
tables_with-new (Emoji o) base tables new same =
    same_emoji no_emoji (emoji_read o) o.table base (λ c. ap (λ (b : List ℕ). contains b c) new.0) new.2 ∙ ap (with_emoji o.table no_emoji) same

pub last_seen-new : (o : OpenTable) → IsNew o → last_seen o ≡ None
last_seen-new (Set o) new = new.1
last_seen-new (Map o) new = new.1
last_seen-new (Names o) new = refl
last_seen-new (Texts o) new = refl
last_seen-new (Scripts o) new = new.1
last_seen-new (Listed o) new = new.1
last_seen-new (Emoji o) new = new.1

-- the table of a number, with a part more
number_grown : {A : Type 0} (f : A → A) (b : Bool) (x new : A) (y : Option A) → new ≡ f x → cond b (Some new) y ≡ cond b (option_map f (cond b (Some x) y)) (cond b (Some x) y)
number_grown f true x new y is = ap Some is
number_grown f false x new y is = refl

-- a set with a row more
pub set_grown : (old new : OpenSet) (r : Row) → new.table ≡ old.table → ((c : ℕ) → contains new.builder c ≡ (contains old.builder c || holds (range r.0) c)) →
    (tables : Tables) → tables_with (Set new) tables ≡ tables_grown (Some (set_table old.table)) r (tables_with (Set old) tables)
set_grown old new r same adds tables = sets_told _ _ (λ t.
    ap (λ n. cond (nat_eq n t) (Some (contains new.builder)) (tables.sets t)) same
    ∙ number_grown (λ (m : ℕ → Bool) (c : ℕ). m c || holds (range r.0) c) (nat_eq old.table t) (contains old.builder) (contains new.builder) (tables.sets t) (fun_ext adds))

-- a map with a row more
pub map_grown : (old new : OpenMap) (r : Row) → new.table ≡ old.table → ((c : ℕ) → values_of new c ≡ cond (holds (range r.0) c) (value_of r.1) (values_of old c)) →
    (tables : Tables) → tables_with (Map new) tables ≡ tables_grown (Some (map_table old.table old.builder.default)) r (tables_with (Map old) tables)
map_grown old new r same adds tables = maps_told _ _ (λ t.
    ap (λ n. cond (nat_eq n t) (Some (values_of new)) (tables.maps t)) same
    ∙ number_grown (λ (v : ℕ → ℕ) (c : ℕ). cond (holds (range r.0) c) (value_of r.1) (v c)) (nat_eq old.table t) (values_of old) (values_of new) (tables.maps t) (fun_ext adds))

-- a table of names with a row more
pub names_grown : (old new : OpenNames) (r : Row) → new.table ≡ old.table → new.builder ≡ with_name old.builder (text_of r.1) (value_of (Some r.0)) →
    (tables : Tables) → tables_with (Names new) tables ≡ tables_grown (Some (names_table old.table)) r (tables_with (Names old) tables)
names_grown old new r same adds tables = names_told _ _ (λ t.
    ap (λ n. cond (nat_eq n t) (Some new.builder) (tables.names t)) same
    ∙ number_grown (λ (names : NamesTable). with_name names (text_of r.1) (value_of (Some r.0))) (nat_eq old.table t) old.builder new.builder (tables.names t) adds)

-- a table of one name for each value with a row more
pub texts_grown : (l : Length) (t : ℕ) (old new : ℕ → Option (List ℕ)) (r : Row) → ((n : ℕ) → new n ≡ with_text (has_subtags l t) r old n) →
    (tables : Tables) → with_texts l t new tables ≡ tables_grown (Some (table_of_length l t)) r (with_texts l t old tables)
texts_grown Long t old new r adds tables = long_told _ _ (λ k. number_grown (with_text false r) (nat_eq t k) old new (tables.long k) (fun_ext adds))
texts_grown Short t old new r adds tables = short_told _ _ (λ k. number_grown (with_text (is_subtags t) r) (nat_eq t k) old new (tables.short k) (fun_ext adds))

-- an emoji table with a row more
pub emoji_grown : (old new : OpenEmoji) (r : Row) → new.table ≡ old.table → ((c : ℕ) → contains new.builder c ≡ (contains old.builder c || holds (range_in r.0) c)) →
    ((bytes : List ℕ) → contains_text new.strings bytes ≡ (contains_text old.strings bytes || is_text (string_in r.0) bytes)) →
    (tables : Tables) → tables_with (Emoji new) tables ≡ tables_grown (Some (emoji_table old.table)) r (tables_with (Emoji old) tables)
emoji_grown old new r same points strings tables = emoji_told _ _ (λ t.
    ap (λ n. cond (nat_eq n t) (Some (emoji_read new)) (tables.emoji t)) same
    ∙ number_grown (emoji_with r) (nat_eq old.table t) (emoji_read old) (emoji_read new) (tables.emoji t) (same_members (emoji_read new) (emoji_with r (emoji_read old)) points strings))

-- an open emoji table took a row that is a range or a string
pub takes_emoji : (old new : OpenEmoji) (row : Row) (found : Option TableErrorKind) (r : Option (ℕ × ℕ)) (text : Option (List ℕ)) (result : Result (Unit {0}) LineError) →
    ((tables : Tables) → row_fault (tables_with (Emoji old) tables) (Some (emoji_table old.table)) old.last row ≡ found) → range_in row.0 ≡ r → string_in row.0 ≡ text →
    TakesEmoji old found r text result new → TakesRow (Emoji old) row result (Emoji new)
takes_emoji old new row found r text (Ok u) fault_is range_is text_is h = (
  λ tables. fault_is tables ∙ h.0,
  ap emoji_table h.1,
  h.2 ∙ ap (λ (o : Option (ℕ × ℕ)). option_or (option_map (λ (x : ℕ × ℕ). x.1) o) old.last) (sym range_is),
  emoji_grown old new row h.1 (λ c. h.3 c ∙ ap (λ (o : Option (ℕ × ℕ)). contains old.builder c || holds o c) (sym range_is))
      (λ bytes. h.4 bytes ∙ ap (λ (o : Option (List ℕ)). contains_text old.strings bytes || is_text o bytes) (sym text_is)),
)
takes_emoji old new row found r text (Err (Fault kind)) fault_is range_is text_is h = λ tables. fault_is tables ∙ h
takes_emoji old new row found r text (Err NoMemory) fault_is range_is text_is h = tt

-- scripts with extensions with a row more
pub scripts_grown : (old new : OpenScripts) (r : Row) → ((c : ℕ) → (scripts_read new).values c ≡ cond (holds (range r.0) c) (value_of r.1) ((scripts_read old).values c)) →
    new.named.items ≡ old.named.items ++ value_of r.1 ∷ [] →
    (tables : Tables) → tables_with (Scripts new) tables ≡ tables_grown (Some (scx_table old.builder.default)) r (tables_with (Scripts old) tables)
scripts_grown old new r adds named tables = let values = fun_ext adds in λ i. with_scripts (record { values = values i; named = named i }) tables

-- an extension list with a row more
pub list_grown : (old new : OpenList) (r : Row) → new.index ≡ old.index → new.script ≡ old.script → new.scripts.items ≡ old.scripts.items ++ value_of (Some r.0) ∷ [] →
    (tables : Tables) → tables_with (Listed new) tables ≡ tables_grown (Some (ext_table old.index old.script)) r (tables_with (Listed old) tables)
list_grown old new r index script adds tables = extensions_told _ _ (λ t.
    ap (λ n. cond (nat_eq n t) (Some (list_read new)) (tables.extensions t)) index
    ∙ number_grown (list_with r) (nat_eq old.index t) (list_read old) (list_read new) (tables.extensions t) (λ i. record { has_script = is_some (script i); scripts = adds i }))
