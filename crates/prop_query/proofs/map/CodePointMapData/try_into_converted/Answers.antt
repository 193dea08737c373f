use Rattle.std.proofs.lemmas.Result.{err_from_is_err_and}
use Rattle.prop_query.proofs.map.CodePointMapData.try_into_converted.Goals as goal

pub returns-in_err-try_into_converted-clause-refusal : goal.returns-in_err-try_into_converted-clause-refusal
returns-in_err-try_into_converted-clause-refusal g c rs maximal =
    let p = err_from_is_err_and c.from_residual.result c.from_residual.ensures.1 in
    rw (← c.self.view_is, p.1, p.2) (c.in_err-try_into_converted.ensures.refusal rs (rw c.self.view_is maximal))

pub returns-clause-values : goal.returns-clause-values
returns-clause-values g c n = rw (← c.self.view_is) (c.in_ok-try_into_converted.ensures.values n)

pub returns-clause-past_end : goal.returns-clause-past_end
returns-clause-past_end g c = rw (← c.self.view_is) c.in_ok-try_into_converted.ensures.past_end

pub returns-clause-refusal : goal.returns-clause-refusal
returns-clause-refusal g c rs maximal =
    rw (← c.self.view_is) (c.in_ok-try_into_converted.ensures.refusal rs (rw c.self.view_is maximal))
