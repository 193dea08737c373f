use Rattle.std.proofs.Common.{[], ◌∷◌, ◌++◌, unwrap_or, ℕ, Option, Some, option_map, cond, ap, sym, ◌∙◌}
use Rattle.std.specs.Option.{option_copied}
use Rattle.prop_data.specs.Headers.{scx_table}
use Rattle.prop_data.specs.declared.load.OpenTable.TheVariants.{Scripts}
use Rattle.prop_data.specs.Loading.{tables_with, row_seen, scripts_read}
use Rattle.prop_data.specs.Numbers.{range}
use Rattle.prop_data.specs.Rows.{holds, value_of}
use Rattle.prop_data.specs.LineFault.{range_fault, row_fault}
use Rattle.prop_data.proofs.LoadingLemmas.{scripts_grown}
use Rattle.prop_data.proofs.RowLemmas.{range_fault-none, map_row_fault-none, accepted-some, values-grown}
use Rattle.prop_data.proofs.load.scripts.OpenScripts.add_row.Goals as goal

pub returns : goal.returns
returns c =
    let old = c.args.self.now in
    let first = c.args.row.first.now in
    let second_is = ap option_copied c.in_ok-second.ensures.ok_part in
    let range_fine = ap (λ (l : Option ℕ). range_fault l (c.in_ok-range.range.start, c.in_ok-range.range.end)) (sym c.last.ensures) ∙ sym c.in_ok-check_range.ensures in
    let is = ap (option_map (λ r. (r.start, r.end))) (sym c.in_ok-range.ensures.ok_part) ∙ c.range.ensures in
    let number_is = (sym c.in_ok-spelled.ensures.ok_part ∙ c.decimal_number.ensures) in
    let takes = accepted-some 4 _ _ (sym c.in_ok-value.ensures.ok_part ∙ c.accepted_script.ensures) in (
      λ tables.
          ap (λ s. row_fault (tables_with (Scripts old) tables) (Some (scx_table old.builder.default)) old.builder.last (first, s)) second_is
          ∙ map_row_fault-none _ _ _ _ _ _ is number_is range_fine takes.1,
      ap scx_table c.in_ok-add.ensures.default,
      c.in_ok-add.ensures.last ∙ ap (option_map (λ (x : ℕ × ℕ). x.1)) is,
      scripts_grown old (record { builder = c.add.new.self; named = c.push_number.new.numbers }) (row_seen c.args.row)
          (λ d.
          values-grown _ _ _ _ _ _ _ _ d is number_is takes.0 (range_fault-none _ _ range_fine).within (c.in_ok-add.ensures.values d)
          ∙ ap (λ s. cond (holds (range first) d) (value_of s) ((scripts_read old).values d)) (sym second_is))
          (c.in_ok-push_number.ensures ∙ ap (λ (n : ℕ). old.named.items ++ n ∷ []) (takes.0 ∙ (ap (λ (o : Option ℕ). unwrap_or o 0) number_is ∙ ap value_of (sym second_is)))),
    )
