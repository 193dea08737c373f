use Rattle.std.proofs.Common.{false}
use Rattle.uset_reader.proofs.PropertyLemmas.{has-found, is-found, differ-alike}
use Rattle.uset_reader.proofs.property.set_of.Goals as goal

pub returns-in-Found : goal.returns-in-Found
returns-in-Found c =
    λ resolved lacks is.
    let resolves = rw c.in-Found.is at is in
    (is-found resolves, has-found c.args.negated false resolves (differ-alike c.in-Found.falsy c.args.negated c.if-falsy-negated.true))
