use Rattle.std.proofs.Common.{Some, ap, sym, subst, ◌∙◌, arith}
use Rattle.prop_binary.specs.Tables.{properties}
use Rattle.prop_binary.specs.Ecma262.{is_ecma262_name, IsOnlyNumber}
use Rattle.prop_binary.proofs.PositionLemmas.{place_of_row, row_count}
use Rattle.prop_binary.proofs.Ecma262Lemmas.{only_number}
use Rattle.prop_binary.proofs.ecma262.ecma262_table.Goals as goal

pub returns-clause-found : goal.returns-clause-found
returns-clause-found c =
    ap Some c.of_number.ensures
    ∙ (c.in_ok-number.ensures.place ∙ place_of_row c.property_names.result.now properties (λ property. is_ecma262_name c.args.name.now property) c.property_names.ensures)

pub returns-clause-only : goal.returns-clause-only
returns-clause-only c = subst (λ number. IsOnlyNumber c.args.name.now number) (sym (returns-clause-found c)) (only_number c.args.name.now)

pub returns-in_err-number-clause-found : goal.returns-in_err-number-clause-found
returns-in_err-number-clause-found c =
    c.from_residual.ensures
    ∙ (c.in_err-number.ensures.place ∙ place_of_row c.property_names.result.now properties (λ property. is_ecma262_name c.args.name.now property) c.property_names.ensures)

pub returns-in_err-number-clause-only : goal.returns-in_err-number-clause-only
returns-in_err-number-clause-only c = subst (λ number. IsOnlyNumber c.args.name.now number) (sym (returns-in_err-number-clause-found c)) (only_number c.args.name.now)

pub of_number-requires : goal.of_number-requires
of_number-requires c = omega (arith, row_count c.property_names.result.now c.property_names.ensures, c.in_ok-number.ensures.within)

pub overflow_cast-number : goal.overflow_cast-number
overflow_cast-number c = omega (arith, row_count c.property_names.result.now c.property_names.ensures, c.in_ok-number.ensures.within)
