use Rattle.std.proofs.Common.{refl, subst}
use Rattle.prop_data.specs.Database.{tables_of}
use Rattle.uset_read.specs.Queries.{query_seen}
use Rattle.uset_reader.specs.Resolution.{ResolvesTo}
use Rattle.uset_reader.specs.Units.{StopsBehind}
use Rattle.uset_reader.proofs.PropertyLemmas.{answered_err, misses, unclosed, closed}
use Rattle.uset_reader.proofs.property.resolve_named.Goals as goal

pub returns-in_err-rest-in-Ok-clause-stopped : goal.returns-in_err-rest-in-Ok-clause-stopped
returns-in_err-rest-in-Ok-clause-stopped c =
    let s = c.args.syntax.now in
    let resolved = subst (λ database. ResolvesTo (tables_of database) (query_seen c.args.query) c.in_ok-resolution.resolution) c.requires c.in_ok-resolution.ensures.resolved in
    let stop = c.in_err-rest-in-Ok.field-0.0 in
    answered_err c.from_residual-in_err-rest-in-Ok.result stop (StopsBehind s c.args.form c.args.query c.args.mark.now) c.from_residual-in_err-rest-in-Ok.ensures (λ text read.
    unclosed s text c.args.form c.args.query c.args.mark.now read c.in_ok-resolution.resolution resolved c.in-Ok.set stop c.in-Ok.ensures c.in_err-rest-in-Ok.ensures.parts)

pub returns-in-Ok-clause-read : goal.returns-in-Ok-clause-read
returns-in-Ok-clause-read c = λ text read.
    let resolved = subst (λ database. ResolvesTo (tables_of database) (query_seen c.args.query) c.in_ok-resolution.resolution) c.requires c.in_ok-resolution.ensures.resolved in
    closed c.args.syntax.now text c.args.form c.args.query c.args.mark.now read c.in_ok-resolution.resolution resolved
    c.in-Ok.set c.in_ok-rest-in-Ok.rest.now c.in-Ok.ensures c.in_ok-rest-in-Ok.ensures.parts

pub returns-clause-stopped : goal.returns-clause-stopped
returns-clause-stopped c = λ text read.
    let resolved = subst (λ database. ResolvesTo (tables_of database) (query_seen c.args.query) c.in_ok-resolution.resolution) c.requires c.in_ok-resolution.ensures.resolved in
    misses c.args.syntax.now text c.args.form c.args.query c.args.mark.now read c.in_ok-resolution.resolution resolved
    c.in-Err.kind c.args.mark refl c.in-Err.ensures
