use Rattle.std.proofs.Common.{◌≡◌, ◌<◌, Some, [], sym, ◌∙◌, arith}
use Rattle.std.specs.List.{position}
use Rattle.std.specs.Str.{bytes_eq}
use Rattle.std.proofs.lemmas.List.Quantifiers.{position-Some}
use Rattle.prop_values.specs.Tables.{names_table_names}
use Rattle.prop_values.proofs.tables.NamesTable.from_name.Goals as goal

pub overflow_cast-result : goal.overflow_cast-result
overflow_cast-result c =
    let found : position (λ known. bytes_eq known c.args.name.now) names_table_names ≡ Some c.in_ok-number.number = sym c.place_of.ensures ∙ c.in_ok-number.was in
    let small : c.in_ok-number.number < 18 = (position-Some (λ known. bytes_eq known c.args.name.now) names_table_names c.in_ok-number.number [] found).0 in
    omega arith

pub invariant_of-result : goal.invariant_of-result
invariant_of-result c =
    let found : position (λ known. bytes_eq known c.args.name.now) names_table_names ≡ Some c.in_ok-number.number = sym c.place_of.ensures ∙ c.in_ok-number.was in
    (position-Some (λ known. bytes_eq known c.args.name.now) names_table_names c.in_ok-number.number [] found).0

pub returns : goal.returns
returns c = sym c.in_ok-number.was ∙ c.place_of.ensures
