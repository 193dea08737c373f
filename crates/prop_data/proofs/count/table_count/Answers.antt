use Rattle.std.proofs.Common.{ℕ, ◌+◌, sym, ap, ap₂, ◌∙◌, arith}
use Rattle.prop_data.specs.Counts.{is_table, one_if}
use Rattle.prop_data.specs.Database.{tables_of}
use Rattle.prop_data.proofs.CountLemmas.{count_below-none, count_below-next, from_bool-one_if, one_if-small}
use Rattle.prop_data.proofs.count.table_count.Goals as goal

pub loop-number-init : goal.loop-number-init
loop-number-init c = (omega arith, sym (count_below-none (is_table c.args.kind (tables_of c.args.database.now))))

pub loop-number-preserved : goal.loop-number-preserved
loop-number-preserved c =
    let test = is_table c.args.kind (tables_of c.args.database.now) in
    let small = one_if-small c.is_table.result in
    let counted = c.from-count.ensures ∙ from_bool-one_if c.is_table.result in (
      omega (arith, small, counted, c.loop-number.invariant.0),
      ap₂ (λ (m k : ℕ). m + k) c.loop-number.invariant.1 (counted ∙ ap one_if c.is_table.ensures) ∙ sym (count_below-next c.loop-number.number test),
    )
