use Rattle.std.proofs.Common.{Some, refl, sym, ap, ◌∙◌}
use Rattle.uset_steps.specs.Names.{named_in}
use Rattle.std.proofs.lemmas.Result.{on_ok_weaker}
use Rattle.uset_gather.specs.Gathered.{gathered_in}
use Rattle.uset_steps.specs.Operations.{operated}
use Rattle.uset_steps.proofs.GatheringLemmas.{becomes_then, at_once, Holds, held, held_none, put_off_named, then_with}
use Rattle.uset_steps.proofs.gathering.Gathering.try_gather_named.Goals.{in-Some, in-None+in_ok-later-in-None}
use Rattle.uset_steps.proofs.gathering.Gathering.try_gather_named.Goals as goal

pub returns-clause-becomes : goal.returns-clause-becomes
returns-clause-becomes c = λ sets fits is.
    let old = c.make_way.new.self in
    let settled = c.in_ok-make_way.ensures sets fits in
    let still = settled.fits in
    let before : Holds sets old.later c.match-take.later.value = elim c.match-take.branch [
      | in-Some w ↦ held sets old.later c.match-take.later (sym c.take.ensures.value ∙ (w.in-Some.is ∙ ap Some (sym w.later-is))) still
      | in-None+in_ok-later-in-None w ↦
          held_none sets old.later c.match-take.later.value w.new.result (sym c.take.ensures.value ∙ w.in-None.is)
          (ap (λ later. later.value) w.later-is ∙ w.in_ok-later-in-None.ensures.ok) (w.new.ensures.members sets) (w.new.ensures.names sets)
    ] in
    then_with sets c.args.operation (named_in c.args.named.set) c.args.self.now old _ settled (put_off_named sets c.args.operation (named_in c.args.named.set) old _ c.match-take.later.value c.put_off_named.new.self before.same (λ m. refl) (λ f. f)
    ((rw c.deref_mut.ensures.value at c.in_ok-put_off_named.ensures.gathers) sets before.fits is))

pub returns-in-None-2-clause-becomes : goal.returns-in-None-2-clause-becomes
returns-in-None-2-clause-becomes c =
    let between = c.make_way.new.self in
    let none = sym c.take.ensures.value ∙ c.in-None.is in
    on_ok_weaker c.gather.result (λ h sets fits is.
    becomes_then c.args.self.now between _ (λ sets m b. operated c.args.operation (named_in c.args.named.set m) b) c.in_ok-make_way.ensures
    (at_once between _ (λ sets m b. operated c.args.operation (named_in c.args.named.set m) b) none (c.take.ensures.after ∙ sym none)
    (λ sets m. h m ∙ ap (λ has. operated c.args.operation has (gathered_in between.gathered m)) (c.operand.ensures m))) sets fits)
    c.gather.ensures
