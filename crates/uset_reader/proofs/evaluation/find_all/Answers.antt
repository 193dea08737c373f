use Rattle.std.proofs.Common.{[], ◌∷◌, ◌++◌, sym, ap, ◌∙◌, append_assoc}
use Rattle.std.proofs.lemmas.List.Elements.{All-push}
use Rattle.uset_variables.specs.Variables.{numbered_strings}
use Rattle.uset_reader.specs.Evaluation.{FoundFits}
use Rattle.uset_reader.specs.Named.{sets_of}
use Rattle.uset_reader.specs.Syntaxes.{language_seen}
use Rattle.uset_reader.proofs.EvaluationLemmas.{found_more}
use Rattle.uset_reader.proofs.evaluation.find_all.Goals as goal

pub loop-set-preserved : goal.loop-set-preserved
loop-set-preserved c = (
  append_assoc c.loop-set.yielded (c.in-Some.set ∷ []) c.next.new.self.rest.items ∙ (sym (ap (λ ss. c.loop-set.yielded ++ ss) c.in-Some.ensures.steps.0) ∙ c.loop-set.invariant.0),
  found_more (sets_of (language_seen c.args.syntax.now)) c.loop-set.yielded c.loop-set.found.items c.push.new.self.items c.in-Some.set c.in_ok-find.field-0 c.loop-set.invariant.1 c.in_ok-push.ensures.items c.in_ok-find.ensures.set,
  rw c.in_ok-push.ensures.items (All-push (FoundFits (numbered_strings c.args.syntax.now.variables.now)) c.loop-set.found.items c.in_ok-find.field-0 c.loop-set.invariant.2 c.in_ok-find.ensures.fits),
  c.in_ok-find.ensures.same ∙ c.loop-set.invariant.3,
)
