use Rattle.std.proofs.lemmas.Result.{err_from_is_err_and}
use Rattle.prop_data.specs.Database.{names_of}
use Rattle.prop_data.specs.declared.table.TableName.TheVariants.{Names}
use Rattle.prop_query.specs.Lookups.{script_or_unknown}
use Rattle.prop_query.proofs.AnswersLemmas.{answer_of-error}
use Rattle.prop_query.proofs.lookup.subtag_to_script.Goals as goal

pub returns-in_err-names : goal.returns-in_err-names
returns-in_err-names c =
    let is = err_from_is_err_and c.from_residual.result c.from_residual.ensures.1 in
    rw (is.1, is.2) (answer_of-error _ (Names 4) (names_of c.args.database.now 4) (λ names. script_or_unknown names c.args.subtag) c.in_err-names.field-0.0 c.in_err-names.ensures.needs)
