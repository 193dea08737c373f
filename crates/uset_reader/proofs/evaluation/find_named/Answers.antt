use Rattle.std.proofs.Common.{sym, ap}
use Rattle.std.proofs.lemmas.Result.{IfOk-weaker}
use Rattle.prop_data.specs.Database.{tables_of}
use Rattle.uset_resolve.specs.Resolution.{resolve}
use Rattle.uset_variables.specs.Variables.{numbered_strings}
use Rattle.uset_reader.specs.Syntaxes.{language_seen}
use Rattle.uset_reader.proofs.evaluation.find_named.Goals as goal

pub returns-in-Property-clause-set : goal.returns-in-Property-clause-set
returns-in-Property-clause-set c =
    rw c.in-Property.is (IfOk-weaker c.find_property.result _ _ (λ set h m. h (language_seen c.args.syntax.now) (ap (λ d. resolve (tables_of d)) (sym c.requires)) m) c.find_property.ensures.set)

pub returns-in-Property-clause-fits : goal.returns-in-Property-clause-fits
returns-in-Property-clause-fits c =
    IfOk-weaker c.find_property.result _ _ (λ found h. h (numbered_strings c.args.syntax.now.variables.now)) c.find_property.ensures.fits
