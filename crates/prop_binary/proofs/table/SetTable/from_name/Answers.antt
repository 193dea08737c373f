use Rattle.std.proofs.Common.{Some, ap, ◌∙◌, arith}
use Rattle.std.specs.Str.{bytes_eq}
use Rattle.prop_binary.specs.Tables.{properties}
use Rattle.prop_binary.proofs.PositionLemmas.{place_of_long_name, row_count}
use Rattle.prop_binary.proofs.table.SetTable.from_name.Goals as goal

pub returns : goal.returns
returns c =
    ap Some c.of_number.ensures
    ∙ (c.in_ok-number.ensures.place ∙ place_of_long_name c.property_names.result.now properties (λ known. bytes_eq known c.args.name.now) c.property_names.ensures)

pub returns-in_err-number : goal.returns-in_err-number
returns-in_err-number c =
    c.from_residual.ensures
    ∙ (c.in_err-number.ensures.place ∙ place_of_long_name c.property_names.result.now properties (λ known. bytes_eq known c.args.name.now) c.property_names.ensures)

pub of_number-requires : goal.of_number-requires
of_number-requires c = omega (arith, row_count c.property_names.result.now c.property_names.ensures, c.in_ok-number.ensures.within)

pub overflow_cast-number : goal.overflow_cast-number
overflow_cast-number c = omega (arith, row_count c.property_names.result.now c.property_names.ensures, c.in_ok-number.ensures.within)
