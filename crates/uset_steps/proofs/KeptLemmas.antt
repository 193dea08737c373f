-- Sets that are kept under names, and steps over more of them.
use Rattle.std.proofs.Common.{◌≡◌, ◌⊎◌, inl, inr, ℕ, zero, suc, ◌<◌, ◌≤◌, Bool, true, false, List, [], ◌∷◌, ◌++◌, length, Option, Some, None, is_some, refl, sym, ap, ◌∙◌, subst, arith}
use Rattle.std.specs.Prelude.{All, slice_get}
use Rattle.std.proofs.lemmas.List.Elements.{All-nil, All-push, All-append}
use Rattle.std.proofs.lemmas.List.{append-nil, length-append}
use Rattle.std.proofs.lemmas.Option.{slice_get_within}
use Rattle.uset_grammar.specs.Tree.{Member}
use Rattle.uset_steps.specs.declared.later.Later.{Later}
use Rattle.uset_steps.specs.declared.named_set.Named.{Named as NamedSet}
use Rattle.uset_steps.specs.declared.step.Operation.{Operation}
use Rattle.uset_steps.specs.declared.step.Step.{Step}
use Rattle.uset_steps.specs.declared.step.Step.TheVariants.{Range, Text, Set, Named}
use Rattle.uset_steps.specs.Names.{Name, Sets, name_seen, named_in, StandsFor, IsSetOf}
use Rattle.uset_steps.specs.Places.{IsPlaceIn, Adds}
use Rattle.uset_steps.specs.Operations.{operated}
use Rattle.uset_steps.specs.Steps.{with_kept, step_done, steps_done, IsWithin, AreWithin, names_none}
use Rattle.uset_steps.specs.Later.{KeptFit, IsKept, IsKeptAt, LaterFits, Gathers, Stays}
use Rattle.uset_steps.proofs.ListLemmas.{get_grown, get_last}
use Rattle.uset_steps.proofs.StepsLemmas.{done_more}

pub none_within : (sets : List NamedSet) (place : ℕ) → place < length sets → slice_get sets place ≡ None → ⊥
none_within [] place h is = absurd (omega (arith, h))
none_within (set ∷ sets) zero h is = absurd (let e = is in cc)
none_within (set ∷ sets) (suc place) h is = none_within sets place (omega (arith, h)) is

-- more sets, which the steps don't name
step_grown : (meant : Sets) (sets more : List NamedSet) (s : Step) (m : Member) (b : Bool) → IsWithin (length sets) s → step_done meant (sets ++ more) s m b ≡ step_done meant sets s m b
step_grown meant sets more (Named operation place) m b h = ap (λ o. with_kept operation o m b) (get_grown sets more place h)
step_grown meant sets more (Range span) m b h = refl
step_grown meant sets more (Text spelled) m b h = refl
step_grown meant sets more (Set operation set) m b h = refl

done_grown : (meant : Sets) (sets more : List NamedSet) (ss : List Step) (m : Member) (b : Bool) → AreWithin (length sets) ss → steps_done meant (sets ++ more) ss m b ≡ steps_done meant sets ss m b
done_grown meant sets more [] m b h = refl
done_grown meant sets more (s ∷ ss) m b h = ap (steps_done meant (sets ++ more) ss m) (step_grown meant sets more s m b h.0) ∙ done_grown meant sets more ss m (step_done meant sets s m b) h.1

within_up : (n k : ℕ) (s : Step) → n ≤ k → IsWithin n s → IsWithin k s
within_up n k (Named operation place) le h = omega (arith, le, h)
within_up n k (Range span) le h = tt
within_up n k (Text spelled) le h = tt
within_up n k (Set operation set) le h = tt

all_within_up : (n k : ℕ) (ss : List Step) → n ≤ k → AreWithin n ss → AreWithin k ss
all_within_up n k [] le h = tt
all_within_up n k (s ∷ ss) le h = (within_up n k s le h.0, all_within_up n k ss le h.1)

within_more : (n : ℕ) (ss : List Step) (s : Step) → AreWithin n ss → IsWithin n s → AreWithin n (ss ++ s ∷ [])
within_more n [] s h k = (k, tt)
within_more n (t ∷ ss) s h k = (h.0, within_more n ss s h.1 k)

within_none : (n : ℕ) (s : Step) → names_none s ≡ true → IsWithin n s
within_none n (Range span) h = tt
within_none n (Text spelled) h = tt
within_none n (Set operation set) h = tt
within_none n (Named operation place) h = absurd (let e = h in cc)

-- other steps are put off
fits_with : (sets : Sets) (old new : Later) → new.places ≡ old.places → new.sets.items ≡ old.sets.items → AreWithin (length old.sets.items) new.steps.items → LaterFits sets old → LaterFits sets new
fits_with sets old new places same within fits = record {
  kept = λ name place is. subst (λ kept. IsKeptAt sets kept name place) (sym same) (fits.kept name place (subst (λ p. IsPlaceIn p name place) places is));
  own = subst (All (IsSetOf sets)) (sym same) fits.own;
  within = subst (λ kept. AreWithin (length kept) new.steps.items) (sym same) within;
}

-- the same steps, over the same sets
pub stays : (old new : Later) → new.places ≡ old.places → new.sets.items ≡ old.sets.items → new.steps.items ≡ old.steps.items → Stays old new
stays old new places same steps = record {
  members = λ sets m b i. steps_done sets (same i) (steps i) m b;
  fits = λ sets fits. fits_with sets old new places same (subst (AreWithin (length old.sets.items)) (sym steps) fits.within) fits;
}

-- a step that names none was put off
pub fits_more : (sets : Sets) (old new : Later) (s : Step) → new.places ≡ old.places → new.sets.items ≡ old.sets.items → new.steps.items ≡ old.steps.items ++ s ∷ [] → names_none s ≡ true → LaterFits sets old → LaterFits sets new
fits_more sets old new s places same more none fits =
    let within = within_more (length old.sets.items) old.steps.items s fits.within (within_none (length old.sets.items) s none) in
    fits_with sets old new places same (subst (AreWithin (length old.sets.items)) (sym more) within) fits

the_set : Option (Member → Bool) → Member → Bool
the_set None m = false
the_set (Some set) m = set m

-- a name stands for one set
alike : (sets : Sets) (name : Name) (set other : Member → Bool) → StandsFor sets name set → StandsFor sets name other → (m : Member) → set m ≡ other m
unfolding the_set
alike sets name set other h k m = h.same m ∙ (ap (λ o. the_set o m) (sym h.is ∙ k.is) ∙ sym (k.same m))

-- the set of a name was put off
pub gathers : (sets : Sets) (operation : Operation) (name : Name) (set : Member → Bool) (place : ℕ) (old between new : Later) → LaterFits sets old → IsKept sets name old between place →
    StandsFor sets name set → between.steps ≡ old.steps → new.places ≡ between.places → new.sets ≡ between.sets → new.steps.items ≡ between.steps.items ++ Named operation place ∷ [] → Gathers sets operation set old new
gathers sets operation name set place old between new fits in_place stands steps places same more = record {
  members = λ m b.
      let it = in_place.set fits.kept in
      let kept = between.sets.items in
      (λ i. steps_done sets (same i).items (more i) m b)
      ∙ (done_more sets kept between.steps.items (Named operation place) m b
      ∙ (ap (λ o. with_kept operation o m (steps_done sets kept between.steps.items m b)) it.1
      ∙ ((λ i. operated operation (alike sets name (named_in it.0.set) set it.2 stands m i) (steps_done sets (in_place.grown i) (steps i).items m b))
      ∙ ap (operated operation (set m)) (done_grown sets old.sets.items in_place.more old.steps.items m b fits.within))));
  fits = record {
    kept = λ n at is. subst (λ kept. IsKeptAt sets kept.items n at) (sym same) (in_place.fits fits.kept n at (subst (λ p. IsPlaceIn p n at) places is));
    own = subst (λ kept. All (IsSetOf sets) kept.items) (sym same) (subst (All (IsSetOf sets)) (sym in_place.grown) (All-append (IsSetOf sets) old.sets.items in_place.more fits.own in_place.own));
    within =
        let it = in_place.set fits.kept in
        let below : place < length between.sets.items = slice_get_within between.sets.items place it.0 it.1 in
        let longer : length old.sets.items ≤ length between.sets.items = omega (arith, ap length in_place.grown ∙ length-append old.sets.items in_place.more) in
        subst (λ kept. AreWithin (length kept.items) new.steps.items) (sym same)
        (subst (AreWithin (length between.sets.items)) (sym more ∙ refl)
        (within_more (length between.sets.items) between.steps.items (Named operation place)
        (subst (λ ss. AreWithin (length between.sets.items) ss.items) (sym steps) (all_within_up (length old.sets.items) (length between.sets.items) old.steps.items longer fits.within)) below));
  };
}

-- the name was told before
pub kept_before : (sets : Sets) (name : Name) (later : Later) (place : ℕ) → IsPlaceIn later.places name place → IsKept sets name later later place
kept_before sets name later place is = record {
  more = [];
  grown = sym (append-nil later.sets.items);
  fits = λ fits. fits;
  own = All-nil (IsSetOf sets);
  set = λ fits. fits name place is;
}

-- or it is told for the first time
pub kept_now : (sets : Sets) (named : NamedSet) (old new : Later) (place : ℕ) → place ≡ length old.sets.items → new.sets.items ≡ old.sets.items ++ named ∷ [] →
    Adds (name_seen named.name) place old.places new.places → IsSetOf sets named → IsKept sets (name_seen named.name) old new place
kept_now sets named old new place at more adds is =
    let it : IsKeptAt sets new.sets.items (name_seen named.name) place = (named, (λ i. slice_get (more i) (at i)) ∙ get_last old.sets.items named, is) in record {
      more = named ∷ [];
      grown = more;
      fits = λ fits other p h. fits_others fits other p (adds.others other p h) it;
      own = All-push (IsSetOf sets) [] named (All-nil (IsSetOf sets)) is;
      set = λ fits. it;
    }
  where
    fits_others : KeptFit sets old → (other : Name) (p : ℕ) → IsPlaceIn old.places other p ⊎ ((other ≡ name_seen named.name) × (p ≡ place)) → IsKeptAt sets new.sets.items (name_seen named.name) place → IsKeptAt sets new.sets.items other p
    fits_others fits other p (inl was) it =
        let kept = fits other p was in
        let below = slice_get_within old.sets.items p kept.0 kept.1 in
        (kept.0, ap (λ ss. slice_get ss p) more ∙ (get_grown old.sets.items (named ∷ []) p below ∙ kept.1), kept.2)
    fits_others fits other p (inr same) it = subst (λ n. IsKeptAt sets new.sets.items n p) (sym same.0) (subst (IsKeptAt sets new.sets.items (name_seen named.name)) (sym same.1) it)

-- a set that is kept under a name is one that the name stands for
pub stood : (sets : Sets) (name : Name) (later : Later) (place : ℕ) → KeptFit sets later → IsPlaceIn later.places name place → is_some (sets name) ≡ true
stood sets name later place fits is = ap is_some (fits name place is).2.is
