use Rattle.std.proofs.Common.{refl, subst}
use Rattle.std.proofs.lemmas.Result.{on_ok_weaker, on_err_weaker}
use Rattle.std.specs.Box.{with_value}
use Rattle.uset_steps.specs.Gathering.{IsPlaceBehind}
use Rattle.uset_steps.proofs.GatheringLemmas.{stayed, held, put_off_named}
use Rattle.uset_steps.proofs.gathering.Gathering.gather_again.Goals as goal

pub returns-in-Some-clause-gathers : goal.returns-in-Some-clause-gathers
returns-in-Some-clause-gathers c =
    let old = c.args.self.now in
    let before = c.in-Some.later in
    on_ok_weaker c.put_off_again.result (λ h sets name set fits at stands.
    let kept = held sets old.later before c.in-Some.is fits in
    put_off_named sets c.args.operation set old _ before.value c.put_off_again.new.self kept.same (λ m. refl) (λ f. f)
    (h sets name set kept.fits (subst (λ later. IsPlaceBehind later name c.args.place.index) c.in-Some.is at) stands))
    (rw c.deref_mut.ensures.value at c.put_off_again.ensures.gathers)

pub returns-in-Some-clause-err : goal.returns-in-Some-clause-err
returns-in-Some-clause-err c =
    let before = c.in-Some.later in
    on_err_weaker c.put_off_again.result (λ stays. stayed c.args.self.now _ before (with_value before c.put_off_again.new.self) c.in-Some.is refl refl stays)
    (rw c.deref_mut.ensures.value at c.put_off_again.ensures.err)
