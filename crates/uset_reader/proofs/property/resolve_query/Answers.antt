use Rattle.std.proofs.Common.{sym}
use Rattle.std.proofs.lemmas.Result.{IfOk-weaker}
use Rattle.prop_data.specs.Database.{tables_of}
use Rattle.uset_reader.proofs.PropertyLemmas.{by_bytes}
use Rattle.uset_reader.proofs.property.resolve_query.Goals as goal

pub returns-in-Some-clause-resolved : goal.returns-in-Some-clause-resolved
returns-in-Some-clause-resolved c =
    IfOk-weaker c.resolve.result _ _ (λ r h. by_bytes (tables_of c.args.resolver.now) c.args.query.now r (rw (c.in-Some.is, sym c.deref.ensures, sym c.deref-in-Some.ensures) h)) c.resolve.ensures.resolved

pub returns-in-None-clause-resolved : goal.returns-in-None-clause-resolved
returns-in-None-clause-resolved c =
    IfOk-weaker c.resolve-in-None.result _ _ (λ r h. by_bytes (tables_of c.args.resolver.now) c.args.query.now r (rw (c.in-None.is, sym c.deref-in-None.ensures) h)) c.resolve-in-None.ensures.resolved
