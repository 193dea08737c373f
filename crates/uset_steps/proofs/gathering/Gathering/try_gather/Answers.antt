use Rattle.std.proofs.Common.{Bool, refl, sym, ap, ◌∙◌}
use Rattle.std.proofs.lemmas.Result.{on_ok_weaker}
use Rattle.std.specs.Box.{with_value}
use Rattle.uset_grammar.specs.Tree.{Member}
use Rattle.uset_gather.specs.Gathered.{gathered_in}
use Rattle.uset_steps.specs.Names.{Sets}
use Rattle.uset_steps.specs.Operations.{operated}
use Rattle.uset_steps.specs.Terms.{closed_in}
use Rattle.uset_steps.proofs.GatheringLemmas.{on_both, put_off, becomes_then, at_once}
use Rattle.uset_steps.proofs.gathering.Gathering.try_gather.Goals as goal

pub returns-in-Some-default : goal.returns-in-Some-default
returns-in-Some-default c =
    let between = c.make_way.new.self in
    let before = c.in-Some-default.later in
    let does : Sets → Member → Bool → Bool = λ sets m b. operated c.args.operation (closed_in sets c.args.set m) b in
    on_both c.put_off_set.result (λ members fits.
    becomes_then c.args.self.now between _ does c.in_ok-make_way.ensures
    (put_off between _ before (with_value before c.put_off_set.new.self) does c.in-Some-default.is-0 refl refl members fits))
    (rw c.deref_mut.ensures.value at c.put_off_set.ensures.members) (rw c.deref_mut.ensures.value at c.put_off_set.ensures.names)

pub returns-in-None-default : goal.returns-in-None-default
returns-in-None-default c =
    on_ok_weaker c.put_off_first.result (λ h.
    becomes_then c.args.self.now c.make_way.new.self _ (λ sets m b. operated c.args.operation (closed_in sets c.args.set m) b) c.in_ok-make_way.ensures h) c.put_off_first.ensures

pub returns-in-None-Plain : goal.returns-in-None-Plain
returns-in-None-Plain c =
    let between = c.make_way.new.self in
    on_ok_weaker c.gather.result (λ h.
    becomes_then c.args.self.now between _ (λ sets m b. operated c.args.operation (closed_in sets c.args.set m) b) c.in_ok-make_way.ensures
    (at_once between _ (λ sets m b. operated c.args.operation (closed_in sets c.args.set m) b) c.in-None-Plain.is-0 refl
    (λ sets m. h m ∙ ap (λ set. operated c.args.operation (closed_in sets set m) (gathered_in between.gathered m)) (sym c.in-None-Plain.is-1))))
    c.gather.ensures
