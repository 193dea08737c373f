use Rattle.std.proofs.Common.{ℕ, Option, Some, [], ◌∷◌, ◌++◌, unwrap_or, refl, ap, sym, ◌∙◌}
use Rattle.std.specs.Option.{option_copied, option_or}
use Rattle.prop_data.specs.Headers.{ext_table}
use Rattle.prop_data.specs.declared.load.OpenTable.TheVariants.{List as Listed}
use Rattle.prop_data.specs.Loading.{tables_with, row_seen}
use Rattle.prop_data.specs.LineFault.{row_fault, ext_row_fault, order_fault}
use Rattle.prop_data.proofs.LoadingLemmas.{list_grown}
use Rattle.prop_data.proofs.RowLemmas.{accepted-some, order_fault-none}
use Rattle.prop_data.proofs.load.extensions.OpenList.add_row.Goals as goal

pub returns : goal.returns
returns c =
    let old = c.args.self.now in
    let number_is = (sym c.in_ok-spelled.ensures.ok_part ∙ c.decimal_number.ensures) in
    let takes = accepted-some 4 _ _ (sym c.in_ok-script.ensures.ok_part ∙ c.accepted_script.ensures) in
    let script_is = takes.0 in (
      λ tables.
          ap (λ s. row_fault (tables_with (Listed old) tables) (Some (ext_table old.index old.script)) old.last (c.args.row.first.now, s)) (ap option_copied c.in-None.is)
          ∙ (ap (ext_row_fault old.last) (sym number_is)
          ∙ (ap (λ o. option_or o (order_fault old.last c.in_ok-spelled.spelled)) takes.1 ∙ order_fault-none old.last c.from.result _ (c.from.ensures ∙ script_is) (sym c.is_not_above.ensures ∙ c.if-is_not_above.false))),
      refl,
      ap Some (c.from-2.ensures ∙ script_is) ∙ number_is,
      list_grown old (record { index = old.index; script = old.script; scripts = c.push_script.new.scripts; last = Some c.from-2.result }) (row_seen c.args.row) refl refl
          (c.in_ok-push_script.ensures ∙ ap (λ (n : ℕ). old.scripts.items ++ n ∷ []) (script_is ∙ ap (λ (o : Option ℕ). unwrap_or o 0) number_is)),
    )
