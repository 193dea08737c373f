use Rattle.std.proofs.Common.{arith}
use Rattle.prop_binary.specs.Tables.{properties}
use Rattle.prop_binary.proofs.PositionLemmas.{long_name_at, row_count}
use Rattle.prop_binary.proofs.table.SetTable.name.Goals as goal

pub bounds-property_names-from : goal.bounds-property_names-from
bounds-property_names-from c = omega (arith, row_count c.property_names.result.now c.property_names.ensures, c.self.invariant)

pub returns : goal.returns
returns c =
    rw (← c.self.view_is, ← c.from.ensures, c.as_bytes.ensures.value)
    (long_name_at c.property_names.result.now properties c.from.result _ c.property_names.ensures (omega (arith, row_count c.property_names.result.now c.property_names.ensures, c.self.invariant)))
