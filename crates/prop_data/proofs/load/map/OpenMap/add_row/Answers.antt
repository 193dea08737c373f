use Rattle.std.proofs.Common.{ℕ, Option, Some, option_map, cond, refl, ap, sym, ◌∙◌}
use Rattle.std.specs.Option.{option_copied}
use Rattle.cp_invlist.specs.Ranges.{in_range}
use Rattle.cp_trie.specs.Runs.{value_in}
use Rattle.prop_data.specs.Headers.{map_table}
use Rattle.prop_data.specs.declared.load.OpenTable.TheVariants.{Map}
use Rattle.prop_data.specs.Loading.{tables_with, row_seen, values_of}
use Rattle.prop_data.specs.Numbers.{range}
use Rattle.prop_data.specs.Rows.{holds, value_of}
use Rattle.prop_data.specs.LineFault.{range_fault, row_fault}
use Rattle.prop_data.proofs.LoadingLemmas.{map_grown}
use Rattle.prop_data.proofs.RowLemmas.{range_fault-none, map_row_fault-none, accepted-some, accepted-takes, either_way, AreAccepted-grown, AreAccepted-same, values-grown}
use Rattle.prop_data.proofs.load.map.OpenMap.add_row.Goals as goal

pub returns : goal.returns
returns c =
    let old = c.args.self.now in
    let first = c.args.row.first.now in
    let second_is = ap option_copied c.in_ok-second.ensures.ok_part in
    let range_fine = ap (λ (l : Option ℕ). range_fault l (c.in_ok-range.range.start, c.in_ok-range.range.end)) (sym c.last.ensures) ∙ sym c.in_ok-check_range.ensures in
    let is = ap (option_map (λ r. (r.start, r.end))) (sym c.in_ok-range.ensures.ok_part) ∙ c.range.ensures in
    let number_is = (sym c.in_ok-spelled.ensures.ok_part ∙ c.decimal_number.ensures) in
    let takes = accepted-some _ _ _ (sym c.in_ok-value.ensures.ok_part ∙ c.accepted.ensures) in
    let value = c.in_ok-value.value in
    let accepted = AreAccepted-grown old.table value (in_range c.in_ok-range.range) (value_in old.builder.runs.items old.builder.default) (value_in c.add.new.self.runs.items c.add.new.self.default) (accepted-takes old.table c.in_ok-spelled.spelled value (sym c.in_ok-value.ensures.ok_part ∙ c.accepted.ensures)) old.accepted c.in_ok-add.ensures.values in (
      λ tables.
          ap (λ s. row_fault (tables_with (Map old) tables) (Some (map_table old.table old.builder.default)) old.builder.last (first, s)) second_is
          ∙ map_row_fault-none _ _ _ _ _ _ is number_is range_fine takes.1,
      ap (map_table old.table) c.in_ok-add.ensures.default,
      c.in_ok-add.ensures.last ∙ ap (option_map (λ (x : ℕ × ℕ). x.1)) is,
      map_grown old (record { table = old.table; builder = c.add.new.self; accepted = accepted }) (row_seen c.args.row) refl (λ d.
          values-grown _ _ _ _ _ _ _ _ d is number_is takes.0 (range_fault-none _ _ range_fine).within (c.in_ok-add.ensures.values d)
          ∙ ap (λ s. cond (holds (range first) d) (value_of s) (values_of old d)) (sym second_is)),
    )

pub invariant_of-self : goal.invariant_of-self
invariant_of-self c =
    let old = c.args.self.now in
    let values = value_in old.builder.runs.items old.builder.default in
    let grown = value_in c.add.new.self.runs.items c.add.new.self.default in
    let value = c.in_ok-value.value in
    let takes = accepted-takes old.table c.in_ok-spelled.spelled value (sym c.in_ok-value.ensures.ok_part ∙ c.accepted.ensures) in
    record {
      accepted =
          either_way c.add.result (AreAccepted-grown old.table value (in_range c.in_ok-range.range) values grown takes old.accepted)
          (AreAccepted-same old.table values grown old.accepted) c.add.ensures.values c.add.ensures.kept;
    }
