use Rattle.std.proofs.Common.{rules}
use Rattle.uset_steps.specs.Names.{name_seen}
use Rattle.uset_steps.proofs.KeptLemmas.{kept_before, kept_now}
use Rattle.uset_steps.proofs.later.Later.keep.Goals as goal

pub returns-in-Some-clause-kept : goal.returns-in-Some-clause-kept
returns-in-Some-clause-kept c = λ sets is. kept_before sets (name_seen c.args.named.name) c.args.self.now c.in-Some.place c.in-Some.ensures.found

pub returns-clause-kept : goal.returns-clause-kept
returns-clause-kept c = λ sets is.
    kept_now sets c.args.named c.args.self.now _ c.len-place.result (search rules) c.in_ok-push_set.ensures (rw c.in_ok-name.ensures at c.in_ok-add.ensures) is
