use Rattle.std.proofs.Common.{◌≡◌, ℕ, Option, unwrap_or, refl, ap, ap₂, sym, ◌∙◌}
use Rattle.std.specs.Option.{option_copied}
use Rattle.prop_names.specs.Names.{value_of_folding, with_name}
use Rattle.prop_data.specs.Loading.{row_seen}
use Rattle.prop_data.specs.Rows.{text_of}
use Rattle.prop_data.specs.LineFault.{is_other, clashes}
use Rattle.prop_data.proofs.LoadingLemmas.{names_grown}
use Rattle.prop_data.proofs.NameLemmas.{names_row, name_fault-none, name_fault-clash, accepted_name-some}
use Rattle.prop_data.proofs.load.names.OpenNames.add_row.Goals as goal

pub returns-then-is_other : goal.returns-then-is_other
returns-then-is_other c =
    let old = c.args.self.now in
    let second_is = ap option_copied c.in_ok-text.ensures.ok_part in
    let number_is = (sym c.in_ok-spelled.ensures.ok_part ∙ c.decimal_number.ensures) in
    let takes = accepted_name-some old.table c.in_ok-spelled.spelled c.in_ok-value.value (sym c.in_ok-value.ensures.ok_part ∙ c.accepted_name.ensures) in
    let folding_is = c.as_str.ensures.value ∙ c.in_ok-folding.ensures in
    let clash : clashes old.builder c.in_ok-text.text.now c.in_ok-spelled.spelled ≡ c.is_other.result =
    sym (c.is_other.ensures ∙ ap₂ is_other (c.value_of_folding.ensures ∙ ap (value_of_folding old.builder) folding_is) takes.0) in
    λ tables.
    names_row old.table c.in_ok-spelled.spelled c.args.row.first.now c.in_ok-text.text.now (option_copied c.args.row.second) old.builder tables second_is number_is
    ∙ name_fault-clash old.table c.in_ok-spelled.spelled old.builder c.in_ok-text.text.now takes.1 (sym c.is_name.ensures ∙ c.if-not-is_name.false) (clash ∙ c.if-is_other.true)

pub returns : goal.returns
returns c =
    let old = c.args.self.now in
    let second_is = ap option_copied c.in_ok-text.ensures.ok_part in
    let number_is = (sym c.in_ok-spelled.ensures.ok_part ∙ c.decimal_number.ensures) in
    let takes = accepted_name-some old.table c.in_ok-spelled.spelled c.in_ok-value.value (sym c.in_ok-value.ensures.ok_part ∙ c.accepted_name.ensures) in
    let folding_is = c.as_str.ensures.value ∙ c.in_ok-folding.ensures in
    let clash : clashes old.builder c.in_ok-text.text.now c.in_ok-spelled.spelled ≡ c.is_other.result =
    sym (c.is_other.ensures ∙ ap₂ is_other (c.value_of_folding.ensures ∙ ap (value_of_folding old.builder) folding_is) takes.0) in (
      λ tables.
          names_row old.table c.in_ok-spelled.spelled c.args.row.first.now c.in_ok-text.text.now (option_copied c.args.row.second) old.builder tables second_is number_is
          ∙ name_fault-none old.table c.in_ok-spelled.spelled old.builder c.in_ok-text.text.now takes.1 (sym c.is_name.ensures ∙ c.if-not-is_name.false) (clash ∙ c.if-is_other.false),
      refl,
      refl,
      names_grown old (record { alloc = old.alloc; table = old.table; builder = c.insert.new.self }) (row_seen c.args.row) refl
          (c.in_ok-insert.ensures.ok ∙ ap₂ (with_name old.builder) (c.in_ok-name.ensures ∙ ap text_of (sym second_is)) (takes.0 ∙ ap (λ (o : Option ℕ). unwrap_or o 0) number_is)),
    )
