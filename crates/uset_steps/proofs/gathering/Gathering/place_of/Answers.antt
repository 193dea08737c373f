use Rattle.std.proofs.Common.{sym, subst}
use Rattle.uset_read.specs.Queries.{query_seen}
use Rattle.uset_steps.specs.Names.{property}
use Rattle.uset_steps.specs.Gathering.{IsPlaceBehind, BehindFits}
use Rattle.uset_steps.proofs.GatheringLemmas.{if_none}
use Rattle.uset_steps.proofs.KeptLemmas.{stood}
use Rattle.uset_steps.proofs.gathering.Gathering.place_of.Goals as goal

pub returns-in_err-index-clause-absent : goal.returns-in_err-index-clause-absent
returns-in_err-index-clause-absent c =
    if_none c.from_residual.result (λ place at. (rw c.deref.ensures at c.in_err-index.ensures.absent) place (subst (λ later. IsPlaceBehind later (property (query_seen c.args.query.now)) place) c.in-Some.is at))

pub returns-clause-found : goal.returns-clause-found
returns-clause-found c =
    subst (λ later. IsPlaceBehind later (property (query_seen c.args.query.now)) c.in_ok-index.index) (sym c.in-Some.is) (rw c.deref.ensures at c.in_ok-index.ensures.found)

pub returns-clause-stands : goal.returns-clause-stands
returns-clause-stands c = λ sets fits.
    stood sets (property (query_seen c.args.query.now)) c.in-Some.later.value c.in_ok-index.index (subst (BehindFits sets) c.in-Some.is fits).kept
    (rw c.deref.ensures at c.in_ok-index.ensures.found)
