-- Sets in the making that put a step off.
use Rattle.std.proofs.Common.{◌≡◌, Bool, false, ◌||◌, Option, Some, None, Result, Ok, Err, OnOk, IfNone, Box, sym, ap, ◌∙◌, subst}
use Rattle.std.specs.Global.{Global}
use Rattle.uset_grammar.specs.Tree.{Member}
use Rattle.uset_gather.specs.Gathered.{gathered_in}
use Rattle.uset_steps.specs.declared.gathering.Gathering.{Gathering}
use Rattle.uset_steps.specs.declared.later.Later.{Later}
use Rattle.uset_steps.specs.declared.closed.Closed.{Closed}
use Rattle.uset_steps.specs.declared.step.Operation.{Operation}
use Rattle.uset_steps.specs.declared.step.Operation.TheVariants.{Join}
use Rattle.uset_steps.specs.Names.{Sets}
use Rattle.uset_steps.specs.Places.{IsPlaceIn}
use Rattle.uset_steps.specs.Operations.{operated}
use Rattle.uset_steps.specs.Terms.{closed_in}
use Rattle.uset_steps.specs.Later.{later_done, LaterFits, Gathers, Stays}
use Rattle.uset_steps.specs.Gathering.{behind, IsPlaceBehind, BehindFits, gathering_in, Fits, KeepsPlaces, Becomes, BecomesWith, Settles}

pub on_both : {A E : Type 0} (result : Result A E) {P Q R : Type 0} → (P → Q → R) → OnOk result P → OnOk result Q → OnOk result R
on_both (Ok x) f h k = f h k
on_both (Err e) f h k = tt

pub if_none : {A : Type 0} (result : Option A) {P : Type 0} → P → IfNone result P
if_none None h = h
if_none (Some x) h = tt

-- one step more was put off
pub put_off : (old new : Gathering) (before after : Box Later Global) (does : Sets → Member → Bool → Bool) → old.later ≡ Some before → new.later ≡ Some after → new.gathered ≡ old.gathered →
    ((sets : Sets) (m : Member) (b : Bool) → later_done sets after.value m b ≡ does sets m (later_done sets before.value m b)) → ((sets : Sets) → LaterFits sets before.value → LaterFits sets after.value) →
    Becomes old new (λ sets m. does sets m (gathering_in sets old m))
put_off old new before after does was is same members fits = λ sets h. record {
  has = λ m.
      (λ i. behind sets (is i) m (gathered_in (same i) m))
      ∙ (members sets m (gathered_in old.gathered m) ∙ ap (λ later. does sets m (behind sets later m (gathered_in old.gathered m))) (sym was));
  fits = subst (BehindFits sets) (sym is) (fits sets (subst (BehindFits sets) was h));
}

-- nothing was put off
pub stayed : (old new : Gathering) (before after : Box Later Global) → old.later ≡ Some before → new.later ≡ Some after → new.gathered ≡ old.gathered → Stays before.value after.value → Settles old new
stayed old new before after was is same stays = put_off old new before after (λ sets m b. b) was is same stays.members stays.fits

-- and all sets are kept where they were
pub same_places : (old new : Gathering) (before after : Box Later Global) → old.later ≡ Some before → new.later ≡ Some after → after.value.places ≡ before.value.places → KeepsPlaces old new
same_places old new before after was is kept name place h =
    subst (λ later. IsPlaceBehind later name place.index) (sym is) (subst (λ places. IsPlaceIn places name place.index) (sym kept) (subst (λ later. IsPlaceBehind later name place.index) was h))

-- members were gathered behind others
pub becomes_then : (old between new : Gathering) (does : Sets → Member → Bool → Bool) → Settles old between → Becomes between new (λ sets m. does sets m (gathering_in sets between m)) →
    Becomes old new (λ sets m. does sets m (gathering_in sets old m))
becomes_then old between new does h k = λ sets f.
    let settled = h sets f in
    let then = k sets settled.fits in
    record { has = λ m. then.has m ∙ ap (does sets m) (settled.has m); fits = then.fits }

-- nothing was put off, and a set is gathered at once
pub at_once : (old new : Gathering) (does : Sets → Member → Bool → Bool) → old.later ≡ None → new.later ≡ old.later → ((sets : Sets) (m : Member) → gathered_in new.gathered m ≡ does sets m (gathered_in old.gathered m)) →
    Becomes old new (λ sets m. does sets m (gathering_in sets old m))
at_once old new does none same has = λ sets f. record {
  has = λ m.
      ap (λ later. behind sets later m (gathered_in new.gathered m)) (same ∙ none)
      ∙ (has sets m ∙ ap (does sets m) (sym (ap (λ later. behind sets later m (gathered_in old.gathered m)) none)));
  fits = subst (BehindFits sets) (sym same) f;
}

-- the steps that were put off made a term, which is put off alone
pub settled_as_term : (old between new : Gathering) (later : Box Later Global) (set : Closed) → old.later ≡ Some later → between.later ≡ None → ((m : Member) → gathered_in between.gathered m ≡ false) →
    ((sets : Sets) → LaterFits sets later.value → (m : Member) → closed_in sets set m ≡ later_done sets later.value m (gathered_in old.gathered m)) →
    Becomes between new (λ sets m. operated Join (closed_in sets set m) (gathering_in sets between m)) → Settles old new
settled_as_term old between new later set was none empty is h = λ sets fits.
    let then = h sets (subst (BehindFits sets) (sym none) tt) in
    record {
      has = λ m.
          then.has m
          ∙ (ap (λ b. b || closed_in sets set m) (ap (λ l. behind sets l m (gathered_in between.gathered m)) none ∙ empty m)
          ∙ (is sets (subst (BehindFits sets) was fits) m ∙ sym (ap (λ l. behind sets l m (gathered_in old.gathered m)) was)));
      fits = then.fits;
    }

-- the set of a name was put off
pub put_off_named : (sets : Sets) (operation : Operation) (set : Member → Bool) (old new : Gathering) (before after : Later) → ((m : Member) (b : Bool) → behind sets old.later m b ≡ later_done sets before m b) →
    ((m : Member) → behind sets new.later m (gathered_in new.gathered m) ≡ later_done sets after m (gathered_in old.gathered m)) → (LaterFits sets after → Fits sets new) →
    Gathers sets operation set before after → BecomesWith sets new (λ m. operated operation (set m) (gathering_in sets old m))
put_off_named sets operation set old new before after was is fits g = record {
  has = λ m. is m ∙ (g.members m (gathered_in old.gathered m) ∙ ap (operated operation (set m)) (sym (was m (gathered_in old.gathered m))));
  fits = fits g.fits;
}

-- a set was gathered behind what was settled
pub then_with : (sets : Sets) (operation : Operation) (set : Member → Bool) (old between new : Gathering) → BecomesWith sets between (gathering_in sets old) → BecomesWith sets new (λ m. operated operation (set m) (gathering_in sets between m)) →
    BecomesWith sets new (λ m. operated operation (set m) (gathering_in sets old m))
then_with sets operation set old between new h k = record { has = λ m. k.has m ∙ ap (operated operation (set m)) (h.has m); fits = k.fits }

-- These steps are the ones that were put off, or there were none.
pub record Holds (sets : Sets) (o : Option (Box Later Global)) (later : Later) : Type 0 where
  pub same : (m : Member) (b : Bool) → behind sets o m b ≡ later_done sets later m b
  pub fits : LaterFits sets later

pub held : (sets : Sets) (o : Option (Box Later Global)) (later : Box Later Global) → o ≡ Some later → BehindFits sets o → Holds sets o later.value
held sets o later is fits = record { same = λ m b. ap (λ x. behind sets x m b) is; fits = subst (BehindFits sets) is fits }

pub held_none : (sets : Sets) (o : Option (Box Later Global)) (later new : Later) → o ≡ None → later ≡ new → ((m : Member) (b : Bool) → later_done sets new m b ≡ b) → LaterFits sets new → Holds sets o later
held_none sets o later new is same none fits = record {
  same = λ m b. ap (λ x. behind sets x m b) is ∙ sym (ap (λ x. later_done sets x m b) same ∙ none m b);
  fits = subst (LaterFits sets) (sym same) fits;
}
