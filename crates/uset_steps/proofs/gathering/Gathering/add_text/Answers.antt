use Rattle.std.proofs.Common.{Some, ◌||◌, refl, ap, ◌∙◌}
use Rattle.std.proofs.lemmas.Result.{on_err_weaker}
use Rattle.std.specs.Box.{with_value}
use Rattle.std.specs.String.{string_bytes}
use Rattle.uset_gather.specs.Gathered.{is_string}
use Rattle.uset_steps.specs.Later.{later_done}
use Rattle.uset_steps.proofs.GatheringLemmas.{on_both, put_off, stayed, same_places}
use Rattle.uset_steps.proofs.gathering.Gathering.add_text.Goals as goal

pub returns-in_ok-new-in-Some-clause-becomes : goal.returns-in_ok-new-in-Some-clause-becomes
returns-in_ok-new-in-Some-clause-becomes c =
    let before = c.in-Some.later in
    let same = ap (λ s. string_bytes s.text) c.in_ok-new-in-Some.ensures.ok ∙ c.new.ensures in
    on_both c.put_off.result (λ members fits.
    put_off c.args.self.now _ before (with_value before c.put_off.new.self) (λ sets m b. b || is_string (string_bytes c.args.text) m) c.in-Some.is refl refl
    (λ sets m b. members sets m b ∙ ap (λ bytes. later_done sets before.value m b || is_string bytes m) same) fits)
    (rw c.deref_mut.ensures.value at c.put_off.ensures.members) (rw c.deref_mut.ensures.value at c.put_off.ensures.names)

pub returns-in_ok-new-in-Some-clause-places : goal.returns-in_ok-new-in-Some-clause-places
returns-in_ok-new-in-Some-clause-places c =
    let before = c.in-Some.later in
    let after = with_value before c.put_off.new.self in
    same_places c.args.self.now (record { gathered = c.args.self.now.gathered; later = Some after }) before after c.in-Some.is refl (rw c.deref_mut.ensures.value at c.put_off.ensures.places)

pub returns-in_ok-new-in-Some-clause-err : goal.returns-in_ok-new-in-Some-clause-err
returns-in_ok-new-in-Some-clause-err c =
    let before = c.in-Some.later in
    on_err_weaker c.put_off.result (λ stays. stayed c.args.self.now _ before (with_value before c.put_off.new.self) c.in-Some.is refl refl stays)
    (rw c.deref_mut.ensures.value at c.put_off.ensures.err)
