use Rattle.std.proofs.Common.{◌∙◌, sym, ap}
use Rattle.uset_variables.specs.Numbered.{value_in}
use Rattle.uset_variables.proofs.NumberLemmas.{grown_within}
use Rattle.uset_variables.proofs.index.Index.of.Goals as goal

pub returns-in_err-number-in-String-clause-grown : goal.returns-in_err-number-in-String-clause-grown
returns-in_err-number-in-String-clause-grown c =
    grown_within c.in_ok-set-in-String.set c.args.kept.now.value _ _ c.number-in-String.ensures.grown
    (λ m. c.in_ok-set-in-String.ensures m ∙ ap (λ v. value_in v m) (sym c.in-String.is ∙ c.as_value.ensures.value))

pub returns-in_ok-number-in-String-clause-grown : goal.returns-in_ok-number-in-String-clause-grown
returns-in_ok-number-in-String-clause-grown c =
    grown_within c.in_ok-set-in-String.set c.args.kept.now.value _ _ c.number-in-String.ensures.grown
    (λ m. c.in_ok-set-in-String.ensures m ∙ ap (λ v. value_in v m) (sym c.in-String.is ∙ c.as_value.ensures.value))
