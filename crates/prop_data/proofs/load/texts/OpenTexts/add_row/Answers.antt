use Rattle.std.proofs.Common.{◌≡◌, ℕ, Bool, List, Option, Some, None, is_some, option_map, unwrap_or, nat_eq, cond, ap, ap₂, sym, ◌∙◌, rules}
use Rattle.std.specs.Option.{option_copied}
use Rattle.std.specs.String.{string_bytes}
use Rattle.prop_names.specs.ValueNameTables.{name_at}
use Rattle.prop_data.specs.Lengths.{has_subtags}
use Rattle.prop_data.specs.declared.error.TableErrorKind.TheVariants.{BadName}
use Rattle.prop_data.specs.declared.load.OpenTable.TheVariants.{Texts}
use Rattle.prop_data.specs.Tables.{Tables}
use Rattle.prop_data.specs.Loading.{last_seen, row_seen, table_of_length, table_seen, tables_with, with_text}
use Rattle.prop_data.specs.Changes.{with_texts}
use Rattle.prop_data.specs.Rows.{as_kept, text_of, value_of}
use Rattle.prop_data.specs.LineFault.{kept_of, row_fault}
use Rattle.prop_data.proofs.LoadingLemmas.{texts_grown}
use Rattle.prop_data.proofs.NameLemmas.{text_row, text_fault-none, text_fault-bad_name, text_fault-clash, accepted-taken, kept_of-as_kept, kept_of-filled, last_after-texts}
use Rattle.prop_data.proofs.load.texts.OpenTexts.add_row.Goals as goal

pub returns-in_err-name : goal.returns-in_err-name
returns-in_err-name c =
    let old = c.args.self.now in
    let number = c.in_ok-spelled.spelled in
    let text = c.in_ok-text.text.now in
    let s = has_subtags old.length old.table in
    let takes = accepted-taken old.table number c.in_ok-value.value (sym c.in_ok-value.ensures.ok_part ∙ c.accepted.ensures) in
    let bad : kept_of s text ≡ None =
    ap (λ (b : Bool). kept_of b text) (sym c.has_subtags-is_subtag.ensures) ∙ (sym c.in_ok-kept_name.ensures.kept ∙ ap (option_map string_bytes) c.in_err-name.ensures.ok_part) in
    let told : (tables : Tables) → row_fault (tables_with (Texts old) tables) (Some (table_seen (Texts old))) (last_seen (Texts old)) (row_seen c.args.row) ≡ Some BadName = λ tables.
    text_row old.length old.table number c.args.row.first.now text (option_copied c.args.row.second) (name_at old.texts) tables (ap option_copied c.in_ok-text.ensures.ok_part) (sym c.in_ok-spelled.ensures.ok_part ∙ c.decimal_number.ensures)
    ∙ text_fault-bad_name s old.table number (name_at old.texts) text takes.1 bad in
    search (rules, told)

pub returns-then-has : goal.returns-then-has
returns-then-has c =
    let old = c.args.self.now in
    let number = c.in_ok-spelled.spelled in
    let text = c.in_ok-text.text.now in
    let s = has_subtags old.length old.table in
    let takes = accepted-taken old.table number c.in_ok-value.value (sym c.in_ok-value.ensures.ok_part ∙ c.accepted.ensures) in
    let kept_is : Some (string_bytes c.in_ok-name.name) ≡ kept_of s text =
    ap (option_map string_bytes) (sym c.in_ok-name.ensures.ok_part) ∙ (c.in_ok-kept_name.ensures.kept ∙ ap (λ (b : Bool). kept_of b text) c.has_subtags-is_subtag.ensures) in
    let there : is_some (name_at old.texts number) ≡ c.has.result = ap (λ n. is_some (name_at old.texts n)) (sym takes.0) ∙ sym c.has.ensures in
    λ tables.
    text_row old.length old.table number c.args.row.first.now text (option_copied c.args.row.second) (name_at old.texts) tables (ap option_copied c.in_ok-text.ensures.ok_part) (sym c.in_ok-spelled.ensures.ok_part ∙ c.decimal_number.ensures)
    ∙ text_fault-clash s old.table number (name_at old.texts) text (string_bytes c.in_ok-name.name) takes.1 kept_is (there ∙ c.if-has.true)

pub keep-requires-clause-filled : goal.keep-requires-clause-filled
keep-requires-clause-filled c =
    let old = c.args.self.now in
    let text = c.in_ok-text.text.now in
    let s = has_subtags old.length old.table in
    let kept_is : Some (string_bytes c.in_ok-name.name) ≡ kept_of s text =
    ap (option_map string_bytes) (sym c.in_ok-name.ensures.ok_part) ∙ (c.in_ok-kept_name.ensures.kept ∙ ap (λ (b : Bool). kept_of b text) c.has_subtags-is_subtag.ensures) in
    kept_of-filled s text (string_bytes c.in_ok-name.name) kept_is

pub returns : goal.returns
returns c =
    let old = c.args.self.now in
    let number = c.in_ok-spelled.spelled in
    let text = c.in_ok-text.text.now in
    let s = has_subtags old.length old.table in
    let r = row_seen c.args.row in
    let second_is = ap option_copied c.in_ok-text.ensures.ok_part in
    let number_is = (sym c.in_ok-spelled.ensures.ok_part ∙ c.decimal_number.ensures) in
    let takes = accepted-taken old.table number c.in_ok-value.value (sym c.in_ok-value.ensures.ok_part ∙ c.accepted.ensures) in
    let kept_is : Some (string_bytes c.in_ok-name.name) ≡ kept_of s text =
    ap (option_map string_bytes) (sym c.in_ok-name.ensures.ok_part) ∙ (c.in_ok-kept_name.ensures.kept ∙ ap (λ (b : Bool). kept_of b text) c.has_subtags-is_subtag.ensures) in
    let there : is_some (name_at old.texts number) ≡ c.has.result = ap (λ n. is_some (name_at old.texts n)) (sym takes.0) ∙ sym c.has.ensures in
    let kept : string_bytes c.in_ok-name.name ≡ as_kept s (text_of r.1) = kept_of-as_kept s text (string_bytes c.in_ok-name.name) kept_is ∙ ap (λ o. as_kept s (text_of o)) (sym second_is) in
    let value_is : c.in_ok-value.value ≡ value_of (Some r.0) = takes.0 ∙ ap (λ (o : Option ℕ). unwrap_or o 0) number_is in
    let grown : (n : ℕ) → name_at c.keep.new.self.texts n ≡ with_text s r (name_at old.texts) n =
    λ n. c.in_ok-keep.ensures.texts n ∙ ap₂ (λ (v : ℕ) (k : List ℕ). cond (nat_eq v n) (Some k) (name_at old.texts n)) value_is kept in (
      λ tables.
          text_row old.length old.table number c.args.row.first.now text (option_copied c.args.row.second) (name_at old.texts) tables second_is number_is
          ∙ text_fault-none s old.table number (name_at old.texts) text (string_bytes c.in_ok-name.name) takes.1 kept_is (there ∙ c.if-has.false),
      ap₂ table_of_length c.in_ok-keep.ensures.length c.in_ok-keep.ensures.table,
      last_after-texts old.length old.table r,
      λ tables.
          ap₂ (λ l t. with_texts l t (name_at c.keep.new.self.texts) tables) c.in_ok-keep.ensures.length c.in_ok-keep.ensures.table
          ∙ texts_grown old.length old.table (name_at old.texts) (name_at c.keep.new.self.texts) r grown tables,
    )
