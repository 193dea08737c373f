use Rattle.std.proofs.Common.{refl}
use Rattle.uset_steps.specs.Names.{name_seen, named_in}
use Rattle.uset_steps.proofs.KeptLemmas.{gathers}
use Rattle.uset_steps.proofs.later.Later.put_off_named.Goals as goal

pub returns-clause-gathers : goal.returns-clause-gathers
returns-clause-gathers c = λ sets fits is.
    gathers sets c.args.operation (name_seen c.args.named.name) (named_in c.args.named.set) c.in_ok-place.place c.args.self.now c.keep.new.self _ fits (c.in_ok-place.ensures.kept sets is) is c.in_ok-place.ensures.steps refl refl c.in_ok-push.ensures.items
