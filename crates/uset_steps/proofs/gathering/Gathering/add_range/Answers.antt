use Rattle.std.proofs.Common.{Some, ◌||◌, refl, ap, ◌∙◌}
use Rattle.std.proofs.lemmas.Result.{on_err_weaker}
use Rattle.std.specs.Box.{with_value}
use Rattle.uset_grammar.specs.Tree.{in_range}
use Rattle.uset_steps.specs.Later.{later_done}
use Rattle.uset_steps.proofs.GatheringLemmas.{on_both, put_off, stayed, same_places}
use Rattle.uset_steps.proofs.gathering.Gathering.add_range.Goals as goal

pub returns-clause-becomes : goal.returns-clause-becomes
returns-clause-becomes c =
    let before = c.in-Some.later in
    on_both c.put_off.result (λ members fits.
    put_off c.args.self.now _ before (with_value before c.put_off.new.self) (λ sets m b. b || in_range c.args.range.start c.args.range.end m) c.in-Some.is refl refl
    (λ sets m b. members sets m b ∙ ap (λ r. later_done sets before.value m b || in_range r.start r.end m) c.new.ensures) fits)
    (rw c.deref_mut.ensures.value at c.put_off.ensures.members) (rw c.deref_mut.ensures.value at c.put_off.ensures.names)

pub returns-clause-places : goal.returns-clause-places
returns-clause-places c =
    let before = c.in-Some.later in
    let after = with_value before c.put_off.new.self in
    same_places c.args.self.now (record { gathered = c.args.self.now.gathered; later = Some after }) before after c.in-Some.is refl (rw c.deref_mut.ensures.value at c.put_off.ensures.places)

pub returns-clause-err : goal.returns-clause-err
returns-clause-err c =
    let before = c.in-Some.later in
    on_err_weaker c.put_off.result (λ stays. stayed c.args.self.now _ before (with_value before c.put_off.new.self) c.in-Some.is refl refl stays)
    (rw c.deref_mut.ensures.value at c.put_off.ensures.err)
