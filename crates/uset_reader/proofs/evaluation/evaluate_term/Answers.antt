use Rattle.std.proofs.Common.{◌∙◌}
use Rattle.std.proofs.lemmas.Result.{IfOk-weaker}
use Rattle.uset_reader.specs.Named.{sets_of}
use Rattle.uset_reader.specs.Syntaxes.{language_seen}
use Rattle.uset_reader.proofs.EvaluationLemmas.{as_numbered}
use Rattle.uset_reader.proofs.evaluation.evaluate_term.Goals as goal

pub returns-clause-set : goal.returns-clause-set
returns-clause-set c =
    let meant = sets_of (language_seen c.args.syntax.now) in
    IfOk-weaker c.evaluate_steps.result _ _ (λ set h m. h m ∙ (as_numbered meant c.in_ok-sets.field-0 c.in_ok-found.found.items c.in_ok-found.ensures.found m ∙ c.in_ok-sets.ensures meant m))
    (rw (c.deref.ensures.value, c.deref-2.ensures.value) at c.evaluate_steps.ensures)
