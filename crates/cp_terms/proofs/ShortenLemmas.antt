-- What keeps a shortened term in step with the term.
use Rattle.std.proofs.Common.{◌≡◌, ℕ, ◌+◌, ◌<◌, ◌≤◌, Bool, true, false, not, Option, None, Some, List, [], ◌∷◌, ◌++◌, length, take, reverse, refl, sym, ap, ap₂, ◌∙◌, arith, subst, length-append, get_or, ◌-◌, IfSome, IfNone}
use Rattle.std.specs.List.{slice_get}
use Rattle.std.proofs.Math.Bool.{beq}
use Rattle.std.proofs.lemmas.List.{take-append-le, take-take, take_all, take_more, reverse-append, length-take-le}
use Rattle.std.proofs.Math.Seq.{take-append_seam}
use Rattle.cp_terms.specs.declared.step.SetOperation.{SetOperation}
use Rattle.cp_terms.specs.declared.step.Step.{Step}
use Rattle.cp_terms.specs.declared.step.Step.TheVariants.{Push, Both, Complement}
use Rattle.cp_terms.specs.declared.shorten.Part.{Part}
use Rattle.cp_terms.specs.declared.shorten.Part.TheVariants.{Empty, Full, Mixed}
use Rattle.cp_terms.specs.Terms.{combined, both_done, complement_done, steps_done, top, value_of}
use Rattle.cp_terms.specs.Shorten.{Agree, AgreesAt, Fits, changed}
use Rattle.cp_invlist.specs.declared.window.Window.{Window}
use Rattle.cp_invlist.specs.Windows.{is_inside}
use Rattle.cp_terms.specs.ShortenParts.{constant_of}
use Rattle.cp_terms.specs.TermLaws.{steps_done-append}

pub reverse-push : {X : Type 0} → (xs ys : List X) (x : X) → xs ≡ ys ++ x ∷ [] → reverse xs ≡ x ∷ reverse ys
reverse-push xs ys x is = ap reverse is ∙ reverse-append ys (x ∷ [])

pub fits_under_constant : (w : ℕ → Bool) (ss : List Step) (part : Part) (c : Bool) (parts : List Part) (b : Bool) (stack : List Bool) → constant_of part ≡ Some c → Fits w ss (part ∷ parts) (b ∷ stack) →
    (b ≡ c) × Fits w ss parts stack
fits_under_constant w ss Empty c parts b stack is h = (h.0 ∙ (let e = is in cc), h.1)
fits_under_constant w ss Full c parts b stack is h = (h.0 ∙ (let e = is in cc), h.1)
fits_under_constant w ss (Mixed start) c parts b stack is h = absurd (let e = is in cc)

-- the steps of a set, with one more that changes it
pub fits_complement : (w : ℕ → Bool) (ss : List Step) (start : ℕ) (parts : List Part) (b : Bool) (stack : List Bool) → Fits w ss (Mixed start ∷ parts) (b ∷ stack) →
    Fits w (ss ++ Complement ∷ []) (Mixed start ∷ parts) (not b ∷ stack)
fits_complement w ss start parts b stack h =
    let same = take-append-le start ss (Complement ∷ []) h.0 in (
      omega (arith, length-append ss (Complement ∷ [])),
      steps_done-append w ss (Complement ∷ []) [] ∙ (ap complement_done h.1 ∙ ap (λ l. not b ∷ steps_done w l []) (sym same)),
      subst (λ l. Fits w l parts stack) (sym same) h.2,
    )

pub fits_pushed : (w : ℕ → Bool) (ss : List Step) (index : ℕ) (parts : List Part) (b : Bool) (stack : List Bool) → b ≡ w index → Fits w ss parts stack →
    Fits w (ss ++ Push index ∷ []) (Mixed (length ss) ∷ parts) (b ∷ stack)
fits_pushed w ss index parts b stack is h =
    let same = take-append_seam ss (Push index ∷ []) in (
      omega (arith, length-append ss (Push index ∷ [])),
      steps_done-append w ss (Push index ∷ []) [] ∙ ap₂ (λ (x : Bool) (l : List Step). x ∷ steps_done w l []) (sym is) (sym same),
      subst (λ l. Fits w l parts stack) (sym same) h,
    )

pub fits_both : (w : ℕ → Bool) (operation : SetOperation) (ss : List Step) (low high : ℕ) (parts : List Part) (a b : Bool) (stack : List Bool) → Fits w ss (Mixed high ∷ Mixed low ∷ parts) (b ∷ a ∷ stack) →
    Fits w (ss ++ Both operation ∷ []) (Mixed low ∷ parts) (combined operation a b ∷ stack)
fits_both w operation ss low high parts a b stack h =
    let within : low ≤ high = omega (arith, h.2.0, length-take-le high ss h.0) in
    let twice : take low (take high ss) ≡ take low ss = take-take low high ss within in
    let same : take low (ss ++ Both operation ∷ []) ≡ take low (take high ss) = take-append-le low ss (Both operation ∷ []) (omega (arith, within, h.0)) ∙ sym twice in (
      omega (arith, length-append ss (Both operation ∷ []), within, h.0),
      steps_done-append w ss (Both operation ∷ []) []
          ∙ (ap (both_done operation) (h.1 ∙ ap (λ l. b ∷ l) h.2.1) ∙ ap (λ l. combined operation a b ∷ steps_done w l []) (sym same)),
      subst (λ l. Fits w l parts stack) (sym same) h.2.2,
    )

-- a set under one that is made by the last steps
pub fits_over_constant : (w : ℕ → Bool) (ss : List Step) (high : ℕ) (lower : Part) (c : Bool) (parts : List Part) (a b : Bool) (stack : List Bool) → constant_of lower ≡ Some c →
    Fits w ss (Mixed high ∷ lower ∷ parts) (b ∷ a ∷ stack) → (a ≡ c) × Fits w ss (Mixed high ∷ parts) (b ∷ stack)
fits_over_constant w ss high lower c parts a b stack is h =
    let under = fits_under_constant w (take high ss) lower c parts a stack is h.2 in
    (under.0, (h.0, h.1, under.1))

-- what an operation makes where the lower is constant
pub changed-lower : (operation : SetOperation) (c b : Bool) → changed (combined operation c true) (combined operation c false) b ≡ combined operation c b
changed-lower operation c true = refl
changed-lower operation c false = refl

pub changed-same : (b : Bool) → changed true false b ≡ b
changed-same true = refl
changed-same false = refl

pub changed-not : (b : Bool) → changed false true b ≡ not b
changed-not true = refl
changed-not false = refl

-- the set on top
pub fits_top : (w : ℕ → Bool) (ss : List Step) (part : Part) (parts : List Part) (stack : List Bool) → constant_of part ≡ None → Fits w ss (part ∷ parts) stack → top stack ≡ value_of w ss
fits_top w ss Empty parts stack is h = absurd (let e = is in cc)
fits_top w ss Full parts stack is h = absurd (let e = is in cc)
fits_top w ss (Mixed start) parts [] is h = absurd h
fits_top w ss (Mixed start) parts (b ∷ stack) is h = ap top (sym h.1)

pub fits_top_constant : (w : ℕ → Bool) (ss : List Step) (part : Part) (c : Bool) (parts : List Part) (stack : List Bool) → constant_of part ≡ Some c → Fits w ss (part ∷ parts) stack → top stack ≡ c
fits_top_constant w ss Empty c parts [] is h = absurd h
fits_top_constant w ss Full c parts [] is h = absurd h
fits_top_constant w ss (Mixed start) c parts stack is h = absurd (let e = is in cc)
fits_top_constant w ss Empty c parts (b ∷ stack) is h = h.0 ∙ (let e = is in cc)
fits_top_constant w ss Full c parts (b ∷ stack) is h = h.0 ∙ (let e = is in cc)

-- a set whose two values differ is kept or complemented
pub kept_or_complemented : (x y b : Bool) → beq x y ≡ false → y ≡ false → changed x y b ≡ b
kept_or_complemented true false b ne e = changed-same b
kept_or_complemented false false b ne e = absurd (let e = ne in cc)
kept_or_complemented x true b ne e = absurd (let h = e in cc)

pub complemented : (x y b : Bool) → beq x y ≡ false → y ≡ true → changed x y b ≡ not b
complemented false true b ne e = changed-not b
complemented true true b ne e = absurd (let e = ne in cc)
complemented x false b ne e = absurd (let h = e in cc)

-- a lower set that is constant below one that is not
pub put_both_over : (w : ℕ → Bool) (operation : SetOperation) (ss : List Step) (upper lower : Part) (c at_member at_other : Bool) (parts : List Part) (a b : Bool) (stack : List Bool) (Goal : List Bool → Type 0) →
    constant_of upper ≡ None → constant_of lower ≡ Some c → at_member ≡ combined operation c true → at_other ≡ combined operation c false →
    (Fits w ss (upper ∷ parts) (b ∷ stack) → Goal (changed at_member at_other b ∷ stack)) → Fits w ss (upper ∷ lower ∷ parts) (b ∷ a ∷ stack) → Goal (combined operation a b ∷ stack)
put_both_over w operation ss Empty lower c at_member at_other parts a b stack Goal none is hm ho made h = absurd (let e = none in cc)
put_both_over w operation ss Full lower c at_member at_other parts a b stack Goal none is hm ho made h = absurd (let e = none in cc)
put_both_over w operation ss (Mixed high) lower c at_member at_other parts a b stack Goal none is hm ho made h =
    let under = fits_over_constant w ss high lower c parts a b stack is h in
    subst (λ x. Goal (x ∷ stack)) (ap₂ (λ x y. changed x y b) hm ho ∙ (changed-lower operation c b ∙ ap (λ x. combined operation x b) (sym under.0))) (made under.1)

-- two sets that are not constant
pub put_both_mixed : (w : ℕ → Bool) (operation : SetOperation) (ss new : List Step) (upper lower : Part) (parts news : List Part) (a b : Bool) (stack : List Bool) →
    constant_of upper ≡ None → constant_of lower ≡ None → new ≡ ss ++ Both operation ∷ [] → news ≡ lower ∷ parts → Fits w ss (upper ∷ lower ∷ parts) (b ∷ a ∷ stack) → Fits w new news (combined operation a b ∷ stack)
put_both_mixed w operation ss new Empty lower parts news a b stack hu hl is are h = absurd (let e = hu in cc)
put_both_mixed w operation ss new Full lower parts news a b stack hu hl is are h = absurd (let e = hu in cc)
put_both_mixed w operation ss new (Mixed high) Empty parts news a b stack hu hl is are h = absurd (let e = hl in cc)
put_both_mixed w operation ss new (Mixed high) Full parts news a b stack hu hl is are h = absurd (let e = hl in cc)
put_both_mixed w operation ss new (Mixed high) (Mixed low) parts news a b stack hu hl is are h = rw (is, are) (fits_both w operation ss low high parts a b stack h)

-- a set that is made by one step
pub put_one : (w : ℕ → Bool) (ss new : List Step) (index start : ℕ) (parts news : List Part) (stack : List Bool) → new ≡ ss ++ Push index ∷ [] → start ≡ length ss → news ≡ Mixed start ∷ parts → Fits w ss parts stack →
    Fits w new news (w index ∷ stack)
put_one w ss new index start parts news stack is at are h = rw (is, are, at) (fits_pushed w ss index parts (w index) stack refl h)

-- a set that is complemented by one step more
pub put_complement : (w : ℕ → Bool) (ss new : List Step) (start : ℕ) (parts news : List Part) (x y b : Bool) (stack : List Bool) → new ≡ ss ++ Complement ∷ [] → news ≡ Mixed start ∷ parts → beq x y ≡ false → y ≡ true →
    Fits w ss (Mixed start ∷ parts) (b ∷ stack) → Fits w new news (changed x y b ∷ stack)
put_complement w ss new start parts news x y b stack is are ne e h = rw (is, are, complemented x y b ne e) (fits_complement w ss start parts b stack h)

-- a set that is kept
pub put_kept : (w : ℕ → Bool) (ss new : List Step) (start : ℕ) (parts news : List Part) (x y b : Bool) (stack : List Bool) → new ≡ ss → news ≡ Mixed start ∷ parts → beq x y ≡ false → y ≡ false →
    Fits w ss (Mixed start ∷ parts) (b ∷ stack) → Fits w new news (changed x y b ∷ stack)
put_kept w ss new start parts news x y b stack is are ne e h = rw (is, are, kept_or_complemented x y b ne e) h

-- the last set is the one on top
pub reverse-last : (parts : List Part) (part : Part) → 0 < length parts → ((d : Part) → part ≡ get_or parts (length parts - 1) d) → reverse parts ≡ part ∷ reverse (take (length parts - 1) parts)
reverse-last parts part some is =
    let short : length parts - 1 + 1 ≡ length parts = omega arith in
    let below : length parts - 1 < length parts = omega arith in
    let whole : parts ≡ take (length parts - 1) parts ++ part ∷ [] =
    sym (take_all (length parts - 1 + 1) parts (omega arith)) ∙ (take_more parts (length parts - 1) Empty below ∙ ap (λ x. take (length parts - 1) parts ++ x ∷ []) (sym (is Empty))) in
    reverse-push parts (take (length parts - 1) parts) part whole

-- what is told of the set on top
pub if_constant : (o : Option Bool) (ss : List Step) (part : Part) (parts all : List Part) → o ≡ constant_of part → all ≡ part ∷ parts → IfSome o (λ inside. (w : ℕ → Bool) (stack : List Bool) → Fits w ss all stack → top stack ≡ inside)
if_constant None ss part parts all is are = tt
if_constant (Some inside) ss part parts all is are = λ w stack h. fits_top_constant w ss part inside parts stack (sym is) (subst (λ l. Fits w ss l stack) are h)

pub if_mixed : (o : Option Bool) (ss : List Step) (part : Part) (parts all : List Part) → o ≡ constant_of part → all ≡ part ∷ parts → IfNone o ((w : ℕ → Bool) (stack : List Bool) → Fits w ss all stack → top stack ≡ value_of w ss)
if_mixed None ss part parts all is are = λ w stack h. fits_top w ss part parts stack (sym is) (subst (λ l. Fits w ss l stack) are h)
if_mixed (Some inside) ss part parts all is are = tt

-- the first valuation at a set that there is not
pub agree_at_none : (windows : List Window) (end : ℕ) (v w : ℕ → Bool) (i : ℕ) → slice_get windows i ≡ None → Agree windows end v w → v i ≡ false
agree_at_none windows end v w i none agree = subst (λ (o : Option Window). AgreesAt o end (v i) (w i)) none (agree.at i)

-- at one that doesn't change before the end
pub agree_at_constant : (windows : List Window) (end : ℕ) (v w : ℕ → Bool) (i : ℕ) (window : Window) → slice_get windows i ≡ Some window → end ≤ window.next → Agree windows end v w → v i ≡ is_inside window
agree_at_constant windows end v w i window at late agree = (subst (λ (o : Option Window). AgreesAt o end (v i) (w i)) at (agree.at i)).0 late

-- and at one that does
pub agree_at_mixed : (windows : List Window) (end : ℕ) (v w : ℕ → Bool) (i : ℕ) (window : Window) → slice_get windows i ≡ Some window → window.next < end → Agree windows end v w → v i ≡ w i
agree_at_mixed windows end v w i window at early agree = (subst (λ (o : Option Window). AgreesAt o end (v i) (w i)) at (agree.at i)).1 early
