use Rattle.std.proofs.lemmas.Result.{on_ok_weaker}
use Rattle.uset_steps.proofs.later.Later.put_off_set.Goals as goal

pub returns-clause-names : goal.returns-clause-names
returns-clause-names c = on_ok_weaker c.put_off.result (λ h sets f. h sets (record { kept = f.kept; own = f.own; within = f.within })) c.put_off.ensures.names
