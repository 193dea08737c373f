-- Steps, one behind another, and those that have no effect.
use Rattle.std.proofs.Common.{◌≡◌, ℕ, Bool, true, false, not, ◌==◌, ◌⊎◌, inl, inr, if◌then◌else◌, List, [], ◌∷◌, ◌++◌, reverse, Option, Some, None, refl, sym, ap, ◌∙◌, subst}
use Rattle.std.specs.Prelude.{slice_get}
use Rattle.std.proofs.lemmas.Bool.{cases_Bool, eqb-true, and_parts, or_cases}
use Rattle.std.proofs.lemmas.List.{reverse-append}
use Rattle.uset_grammar.specs.Tree.{Member}
use Rattle.uset_steps.specs.declared.step.Operation.{Operation}
use Rattle.uset_steps.specs.declared.step.Operation.TheVariants.{Join, Remove, Retain}
use Rattle.uset_steps.specs.declared.step.Step.{Step}
use Rattle.uset_steps.specs.declared.step.Step.TheVariants.{Range, Text, Set, Named}
use Rattle.uset_steps.specs.declared.named_set.Named.{Named as NamedSet}
use Rattle.uset_steps.specs.Names.{Sets, named_in}
use Rattle.uset_steps.specs.Operations.{operated}
use Rattle.uset_steps.specs.Steps.{with_kept, step_done, steps_done, names_none, retains, is_side, is_about, occurs}

-- one more step
pub done_more : (meant : Sets) (sets : List NamedSet) (ss : List Step) (s : Step) (m : Member) (b : Bool) → steps_done meant sets (ss ++ s ∷ []) m b ≡ step_done meant sets s m (steps_done meant sets ss m b)
done_more meant sets [] s m b = refl
done_more meant sets (t ∷ ss) s m b = done_more meant sets ss s m (step_done meant sets t m b)

-- the last of the steps, which is the first of those from the last to the first
pub last_done : (meant : Sets) (sets : List NamedSet) (left next : List Step) (s : Step) (m : Member) (b c : Bool) → left ≡ next ++ s ∷ [] → c ≡ step_done meant sets s m b → steps_done meant sets (reverse next) m c ≡ steps_done meant sets (reverse left) m b
last_done meant sets left next s m b c is does = ap (steps_done meant sets (reverse next) m) does ∙ ap (λ ss. steps_done meant sets ss m b) (sym (ap reverse is ∙ reverse-append next (s ∷ [])))

pub done_append : (meant : Sets) (sets : List NamedSet) (xs ys : List Step) (m : Member) (b : Bool) → steps_done meant sets (xs ++ ys) m b ≡ steps_done meant sets ys m (steps_done meant sets xs m b)
done_append meant sets [] ys m b = refl
done_append meant sets (x ∷ xs) ys m b = done_append meant sets xs ys m (step_done meant sets x m b)

-- a step that names no set that is kept
pub none_named : (meant : Sets) (sets : List NamedSet) (s : Step) (m : Member) (b : Bool) → names_none s ≡ true → step_done meant sets s m b ≡ step_done meant [] s m b
none_named meant sets (Range span) m b h = refl
none_named meant sets (Text spelled) m b h = refl
none_named meant sets (Set operation set) m b h = refl
none_named meant sets (Named operation place) m b h = absurd (let e = h in cc)

-- what an operation has the last word on: what the set has, or what it lacks
touched : Bool → Bool → Bool
touched outside has = if outside then not has else has

idle : (operation : Operation) (outside has b : Bool) → is_side outside (retains operation) ≡ true → touched outside has ≡ false → operated operation has b ≡ b
unfolding touched
idle Join false false true side h = refl
idle Join false false false side h = refl
idle Join false true b side h = absurd (let e = h in cc)
idle Join true has b side h = absurd (let e = side in cc)
idle Remove false false true side h = refl
idle Remove false false false side h = refl
idle Remove false true b side h = absurd (let e = h in cc)
idle Remove true has b side h = absurd (let e = side in cc)
idle Retain true true true side h = refl
idle Retain true true false side h = refl
idle Retain true false b side h = absurd (let e = h in cc)
idle Retain false has b side h = absurd (let e = side in cc)

decides : (operation : Operation) (outside has b c : Bool) → is_side outside (retains operation) ≡ true → touched outside has ≡ true → operated operation has b ≡ operated operation has c
unfolding touched
decides Join false true true true side h = refl
decides Join false true true false side h = refl
decides Join false true false true side h = refl
decides Join false true false false side h = refl
decides Join false false b c side h = absurd (let e = h in cc)
decides Join true has b c side h = absurd (let e = side in cc)
decides Remove false true true true side h = refl
decides Remove false true true false side h = refl
decides Remove false true false true side h = refl
decides Remove false true false false side h = refl
decides Remove false false b c side h = absurd (let e = h in cc)
decides Remove true has b c side h = absurd (let e = side in cc)
decides Retain true false true true side h = refl
decides Retain true false true false side h = refl
decides Retain true false false true side h = refl
decides Retain true false false false side h = refl
decides Retain true true b c side h = absurd (let e = h in cc)
decides Retain false has b c side h = absurd (let e = side in cc)

-- a step is about one set, on one side
one_side : (outside other b : Bool) → is_side outside b ≡ true → is_side other b ≡ true → outside ≡ other
one_side true true b h k = refl
one_side false false b h k = refl
one_side true false true h k = absurd (let e = k in cc)
one_side true false false h k = absurd (let e = h in cc)
one_side false true true h k = absurd (let e = h in cc)
one_side false true false h k = absurd (let e = k in cc)

pub about_one : (s : Step) (outside other : Bool) (place elsewhere : ℕ) → is_about outside place s ≡ true → is_about other elsewhere s ≡ true → (outside ≡ other) × (place ≡ elsewhere)
about_one (Named operation p) outside other place elsewhere h k =
    let x = and_parts (is_side outside (retains operation)) (p == place) h in
    let y = and_parts (is_side other (retains operation)) (p == elsewhere) k in
    (one_side outside other (retains operation) x.0 y.0, sym (eqb-true p place x.1) ∙ eqb-true p elsewhere y.1)
about_one (Range span) outside other place elsewhere h k = absurd (let e = h in cc)
about_one (Text spelled) outside other place elsewhere h k = absurd (let e = h in cc)
about_one (Set operation set) outside other place elsewhere h k = absurd (let e = h in cc)

-- a step about a set that is kept: what it makes is what the operation makes with that set
record Acts (meant : Sets) (sets : List NamedSet) (s : Step) (outside : Bool) (place : ℕ) : Type 0 where
  operation : Operation
  side : is_side outside (retains operation) ≡ true
  does : (m : Member) (b : Bool) → step_done meant sets s m b ≡ with_kept operation (slice_get sets place) m b

acts : (meant : Sets) (sets : List NamedSet) (s : Step) (outside : Bool) (place : ℕ) → is_about outside place s ≡ true → Acts meant sets s outside place
acts meant sets (Named operation p) outside place h =
    let x = and_parts (is_side outside (retains operation)) (p == place) h in record {
      operation = operation;
      side = x.0;
      does = λ m b. ap (λ i. with_kept operation (slice_get sets i) m b) (eqb-true p place x.1);
    }
acts meant sets (Range span) outside place h = absurd (let e = h in cc)
acts meant sets (Text spelled) outside place h = absurd (let e = h in cc)
acts meant sets (Set operation set) outside place h = absurd (let e = h in cc)

module _ (meant : Sets) (sets : List NamedSet) (outside : Bool) (place : ℕ) (m : Member) (set : NamedSet) (is : slice_get sets place ≡ Some set) where
  does_with : (s : Step) (a : Acts meant sets s outside place) (b : Bool) → step_done meant sets s m b ≡ operated a.operation (named_in set.set m) b
  does_with s a b = a.does m b ∙ ap (λ e. with_kept a.operation e m b) is

  -- where a step behind decides, all that stands before is alike
  all_alike : (ss : List Step) → touched outside (named_in set.set m) ≡ true → occurs outside place ss ≡ true → (b c : Bool) → steps_done meant sets ss m b ≡ steps_done meant sets ss m c
  all_alike [] h there b c = absurd (let e = there in cc)
  all_alike (s ∷ ss) h there b c = elim (or_cases (is_about outside place s) (occurs outside place ss) there) [
    | inl here ↦ (
        let a = acts meant sets s outside place here in
        ap (steps_done meant sets ss m)
        (does_with s a b ∙ (decides a.operation outside (named_in set.set m) b c a.side h ∙ sym (does_with s a c))))
    | inr behind ↦ all_alike ss h behind (step_done meant sets s m b) (step_done meant sets s m c)
  ]

  passes : (s : Step) (ss : List Step) (b : Bool) → is_about outside place s ≡ true → occurs outside place ss ≡ true → steps_done meant sets ss m (step_done meant sets s m b) ≡ steps_done meant sets ss m b
  passes s ss b about there = elim (cases_Bool (touched outside (named_in set.set m))) [
    | inl it ↦ all_alike ss it there (step_done meant sets s m b) b
    | inr it ↦ (
        let a = acts meant sets s outside place about in
        ap (steps_done meant sets ss m) (does_with s a b ∙ idle a.operation outside (named_in set.set m) b a.side it))
  ]

-- a step has no effect where one behind it is about the same set, on the same side
pub no_effect : (meant : Sets) (sets : List NamedSet) (s : Step) (ss : List Step) (outside : Bool) (place : ℕ) (m : Member) (b : Bool) → is_about outside place s ≡ true → occurs outside place ss ≡ true →
    steps_done meant sets ss m (step_done meant sets s m b) ≡ steps_done meant sets ss m b
no_effect meant sets s ss outside place m b about there = by (slice_get sets place) refl
  where
    by : (o : Option NamedSet) → slice_get sets place ≡ o → steps_done meant sets ss m (step_done meant sets s m b) ≡ steps_done meant sets ss m b
    by (Some set) is = passes meant sets outside place m set is s ss b about there
    by None is =
        let a = acts meant sets s outside place about in
        ap (steps_done meant sets ss m) (a.does m b ∙ ap (λ e. with_kept a.operation e m b) is)

-- or it is passed over
pub passed_over : (meant : Sets) (sets : List NamedSet) (left kept : List Step) (s : Step) (outside : Bool) (place : ℕ) (m : Member) (b : Bool) → is_about outside place s ≡ true → occurs outside place (reverse kept) ≡ true →
    steps_done meant sets (left ++ reverse kept) m b ≡ steps_done meant sets ((left ++ s ∷ []) ++ reverse kept) m b
passed_over meant sets left kept s outside place m b about there =
    done_append meant sets left (reverse kept) m b
    ∙ (sym (no_effect meant sets s (reverse kept) outside place m (steps_done meant sets left m b) about there)
    ∙ (ap (steps_done meant sets (reverse kept) m) (sym (done_more meant sets left s m b)) ∙ sym (done_append meant sets (left ++ s ∷ []) (reverse kept) m b)))

-- a set that is marked by a step which is passed over was marked before
pub about_again : (s : Step) (outside other : Bool) (place elsewhere : ℕ) (P : Bool → ℕ → Type 0) → is_about other elsewhere s ≡ true → P other elsewhere → P outside place ⊎ (is_about outside place s ≡ true) → P outside place
about_again s outside other place elsewhere P about h (inl before) = before
about_again s outside other place elsewhere P about h (inr again) =
    let same = about_one s outside other place elsewhere again about in
    subst (λ o. P o place) (sym same.0) (subst (P other) (sym same.1) h)
