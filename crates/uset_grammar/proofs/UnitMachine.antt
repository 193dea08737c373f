-- Machines that read a text character by character, and what they say of the shapes of a unit.
use Rattle.std.proofs.Common.{◌≡◌, ℕ, [], ◌∷◌, ◌++◌, Option, Some, None, refl, sym, ap, ◌∙◌, subst, inl, inr, append_assoc, append-nil}
use Rattle.std.proofs.lemmas.Option.{same_Some}
use mathlib.Core.Logic.{◌⊎◌}
use Rattle.uset_grammar.specs.Text.{Text}
use Rattle.uset_grammar.specs.Outcome.{Kind, unexpected, Outcome, got, faulty, ended}

pub data Next (State V : Type 0) : Type 0 where
  goes : State → Next State V
  whole : V → Next State V
  refuses : Next State V

abbrev pub Slip : Type 0
Slip = Option (Kind × Text)

module _ {State V : Type 0} where
  abbrev pub turn : Slip → Next State V → (State → Outcome V) → Text → ℕ → Text → Outcome V
  turn (Some x) n go p c t = faulty x.0 x.1
  turn None (goes s) go p c t = go s
  turn None (whole v) go p c t = got v t
  turn None refuses go p c t = faulty (unexpected c) p

  abbrev pub onward : Slip → Next State V → (State → Option State) → Option State
  onward (Some x) n go = None
  onward None (goes s) go = go s
  onward None (whole v) go = None
  onward None refuses go = None

  -- the machine stops
  abbrev pub Halts : Slip → Next State V → Type 0
  Halts (Some x) n = Unit {0}
  Halts None (goes s) = ⊥
  Halts None (whole v) = Unit {0}
  Halts None refuses = Unit {0}

  -- where nothing follows, the machine has read a whole
  pub whole_from : (p : Text) (c : ℕ) (v : V) (n : Next State V) (go : State → Outcome V) → ((s : State) → go s ≡ ended) → turn None n go p c [] ≡ got v [] → n ≡ whole v
  whole_from p c v (goes s) go all e = absurd (let f : ended ≡ got v [] = sym (all s) ∙ e in cc)
  whole_from p c v (whole w) go all e = let f : w ≡ v = cc in ap (λ z. whole z) f
  whole_from p c v refuses go all e = absurd (let f = e in cc)

  -- what a step leads to is a state of one kind, or a value of another
  abbrev pub Keeps : (State → Type 0) → (V → Type 0) → Next State V → Type 0
  Keeps Fine Fits (goes s) = Fine s
  Keeps Fine Fits (whole v) = Fits v
  Keeps Fine Fits refuses = Unit {0}

module _ {State V : Type 0} (next : Text → State → ℕ → Next State V) where
  -- the outcome of a text behind p, from a state
  abbrev pub run : (Text → State → ℕ → Slip) → Text → State → Text → Outcome V
  run slip p s [] = ended
  run slip p s (c ∷ t) = turn (slip p s c) (next p s c) (λ s'. run slip (p ++ c ∷ []) s' t) p c t

  -- the state behind a text, where the machine hasn't stopped
  abbrev pub reach : (Text → State → ℕ → Slip) → Text → State → Text → Option State
  reach slip p s [] = Some s
  reach slip p s (c ∷ t) = onward (slip p s c) (next p s c) (λ s'. reach slip (p ++ c ∷ []) s' t)

  -- where the machine stops in a text
  pub record Stopped (slip : Text → State → ℕ → Slip) (p : Text) (s : State) (t : Text) : Type 0 where
    pub front : Text
    pub at : ℕ
    pub more : Text
    pub state : State
    pub parts : t ≡ front ++ at ∷ more
    pub reached : reach slip p s front ≡ Some state
    pub halts : Halts (slip (p ++ front) state at) (next (p ++ front) state at)

-- no character slips
abbrev pub free : {State : Type 0} → Text → State → ℕ → Slip
free p s c = None

one_more : (p t : Text) (c : ℕ) → (p ++ c ∷ []) ++ t ≡ p ++ c ∷ t
one_more p t c = append_assoc p (c ∷ []) t

module _ {State V : Type 0} (next : Text → State → ℕ → Next State V) (slip : Text → State → ℕ → Slip) where
  run_on_from : (p t u : Text) (c : ℕ) (e : State) (x : Slip) (n : Next State V) →
      ((s' : State) → reach next slip (p ++ c ∷ []) s' t ≡ Some e → run next slip (p ++ c ∷ []) s' (t ++ u) ≡ run next slip ((p ++ c ∷ []) ++ t) e u) →
      onward x n (λ s'. reach next slip (p ++ c ∷ []) s' t) ≡ Some e →
      turn x n (λ s'. run next slip (p ++ c ∷ []) s' (t ++ u)) p c (t ++ u) ≡ run next slip (p ++ c ∷ t) e u
  run_on_from p t u c e (Some x) n ih h = absurd (let k = h in cc)
  run_on_from p t u c e None (goes s') ih h = ih s' h ∙ ap (λ w. run next slip w e u) (one_more p t c)
  run_on_from p t u c e None (whole v) ih h = absurd (let k = h in cc)
  run_on_from p t u c e None refuses ih h = absurd (let k = h in cc)

  -- each step from a state of a kind leads to such a state, or to a value of a kind: so what is read is one
  module _ (Fine : State → Type 0) (Fits : V → Type 0) (keeps : (p : Text) (s : State) (c : ℕ) → Fine s → slip p s c ≡ None → Keeps Fine Fits (next p s c)) where
    fits_from : (p t : Text) (c : ℕ) (v : V) (r : Text) (x : Slip) (n : Next State V) → (x ≡ None → Keeps Fine Fits n) →
        ((s : State) → Fine s → run next slip (p ++ c ∷ []) s t ≡ got v r → Fits v) → turn x n (λ s. run next slip (p ++ c ∷ []) s t) p c t ≡ got v r → Fits v
    fits_from p t c v r (Some x) n f ih h = absurd (let e = h in cc)
    fits_from p t c v r None (goes s) f ih h = ih s (f refl) h
    fits_from p t c v r None (whole w) f ih h = let e : w ≡ v = cc in subst Fits e (f refl)
    fits_from p t c v r None refuses f ih h = absurd (let e = h in cc)

    pub read_fits : (p t : Text) (s : State) (v : V) (r : Text) → Fine s → run next slip p s t ≡ got v r → Fits v
    read_fits p [] s v r f h = absurd (let e = h in cc)
    read_fits p (c ∷ t) s v r f h = fits_from p t c v r (slip p s c) (next p s c) (keeps p s c f) (λ s' f' k. read_fits (p ++ c ∷ []) t s' v r f' k) h

  -- what holds at a state with the text in front of it, and is kept by each step, holds at each state that is reached
  module _ (At : State → Text → Type 0) (kept : (p : Text) (s e : State) (c : ℕ) → At s p → slip p s c ≡ None → next p s c ≡ goes e → At e (p ++ c ∷ [])) where
    holds_from : (p t : Text) (c : ℕ) (e : State) (x : Slip) (n : Next State V) → ((s : State) → x ≡ None → n ≡ goes s → At s (p ++ c ∷ [])) →
        ((s : State) → At s (p ++ c ∷ []) → reach next slip (p ++ c ∷ []) s t ≡ Some e → At e ((p ++ c ∷ []) ++ t)) →
        onward x n (λ s. reach next slip (p ++ c ∷ []) s t) ≡ Some e → At e (p ++ c ∷ t)
    holds_from p t c e (Some x) n at ih h = absurd (let k = h in cc)
    holds_from p t c e None (goes s) at ih h = subst (At e) (one_more p t c) (ih s (at s refl refl) h)
    holds_from p t c e None (whole v) at ih h = absurd (let k = h in cc)
    holds_from p t c e None refuses at ih h = absurd (let k = h in cc)

    pub holds_at : (p t : Text) (s e : State) → At s p → reach next slip p s t ≡ Some e → At e (p ++ t)
    holds_at p [] s e at h = subst (λ z. At z (p ++ [])) (same_Some s e h) (subst (At s) (sym (append-nil p)) at)
    holds_at p (c ∷ t) s e at h = holds_from p t c e (slip p s c) (next p s c) (λ s' x n. kept p s s' c at x n) (λ s' at' k. holds_at (p ++ c ∷ []) t s' e at' k) h

  pub run_on : (p t u : Text) (s e : State) → reach next slip p s t ≡ Some e → run next slip p s (t ++ u) ≡ run next slip (p ++ t) e u
  run_on p [] u s e h = (λ i. run next slip (sym (append-nil p) i) (same_Some s e h i) u)
  run_on p (c ∷ t) u s e h = run_on_from p t u c e (slip p s c) (next p s c) (λ s' k. run_on (p ++ c ∷ []) t u s' e k) h

  reach_on_from : (p t u : Text) (c : ℕ) (e : State) (x : Slip) (n : Next State V) →
      ((s' : State) → reach next slip (p ++ c ∷ []) s' t ≡ Some e → reach next slip (p ++ c ∷ []) s' (t ++ u) ≡ reach next slip ((p ++ c ∷ []) ++ t) e u) →
      onward x n (λ s'. reach next slip (p ++ c ∷ []) s' t) ≡ Some e →
      onward x n (λ s'. reach next slip (p ++ c ∷ []) s' (t ++ u)) ≡ reach next slip (p ++ c ∷ t) e u
  reach_on_from p t u c e (Some x) n ih h = absurd (let k = h in cc)
  reach_on_from p t u c e None (goes s') ih h = ih s' h ∙ ap (λ w. reach next slip w e u) (one_more p t c)
  reach_on_from p t u c e None (whole v) ih h = absurd (let k = h in cc)
  reach_on_from p t u c e None refuses ih h = absurd (let k = h in cc)

  pub reach_on : (p t u : Text) (s e : State) → reach next slip p s t ≡ Some e → reach next slip p s (t ++ u) ≡ reach next slip (p ++ t) e u
  reach_on p [] u s e h = (λ i. reach next slip (sym (append-nil p) i) (same_Some s e h i) u)
  reach_on p (c ∷ t) u s e h = reach_on_from p t u c e (slip p s c) (next p s c) (λ s' k. reach_on (p ++ c ∷ []) t u s' e k) h

  -- the machine stops in a text, or not
  stop_or_from : (p t : Text) (c : ℕ) (s : State) (x : Slip) (n : Next State V) → slip p s c ≡ x → next p s c ≡ n →
      ((s' : State) → Stopped next slip (p ++ c ∷ []) s' t ⊎ ((e : State) × (reach next slip (p ++ c ∷ []) s' t ≡ Some e))) →
      Stopped next slip p s (c ∷ t) ⊎ ((e : State) × (onward x n (λ s'. reach next slip (p ++ c ∷ []) s' t) ≡ Some e))
  stop_or_from p t c s (Some x) n ex en ih = inl (record { front = []; at = c; more = t; state = s; parts = refl; reached = refl; halts = rw (append-nil p, ex) tt })
  stop_or_from p t c s None (whole v) ex en ih = inl (record { front = []; at = c; more = t; state = s; parts = refl; reached = refl; halts = rw (append-nil p, ex, en) tt })
  stop_or_from p t c s None refuses ex en ih = inl (record { front = []; at = c; more = t; state = s; parts = refl; reached = refl; halts = rw (append-nil p, ex, en) tt })
  stop_or_from p t c s None (goes s') ex en ih = elim (ih s') [
    | inr on ↦ inr on
    | inl stop ↦ inl (record {
      front = c ∷ stop.front;
      at = stop.at;
      more = stop.more;
      state = stop.state;
      parts = ap (λ w. c ∷ w) stop.parts;
      reached = (λ i. onward (ex i) (en i) (λ s'. reach next slip (p ++ c ∷ []) s' stop.front)) ∙ stop.reached;
      halts = subst (λ w. Halts (slip w stop.state stop.at) (next w stop.state stop.at)) (one_more p stop.front c) stop.halts;
    })
  ]

  pub stop_or : (p t : Text) (s : State) → Stopped next slip p s t ⊎ ((e : State) × (reach next slip p s t ≡ Some e))
  stop_or p [] s = inr (s, refl)
  stop_or p (c ∷ t) s = stop_or_from p t c s (slip p s c) (next p s c) refl refl (λ s'. stop_or (p ++ c ∷ []) t s')

  halted : (x : Slip) (n : Next State V) (go : State → Option State) → Halts x n → onward x n go ≡ None
  halted (Some x) n go h = refl
  halted None (goes s) go h = absurd h
  halted None (whole v) go h = refl
  halted None refuses go h = refl

  -- behind where it stopped nothing is reached
  pub not_both : (p t : Text) (s e : State) (stop : Stopped next slip p s t) → reach next slip p s t ≡ Some e → ⊥
  not_both p t s e stop h =
      let on = reach_on p stop.front (stop.at ∷ stop.more) s stop.state stop.reached in
      let none = halted (slip (p ++ stop.front) stop.state stop.at) (next (p ++ stop.front) stop.state stop.at)
      (λ s'. reach next slip ((p ++ stop.front) ++ stop.at ∷ []) s' stop.more) stop.halts in
      let parts = ap (λ w. reach next slip p s w) stop.parts in
      let bad : Some e ≡ None = sym h ∙ (parts ∙ (on ∙ none)) in cc

  -- what the run of a text answers, where the machine stopped in it
  pub run_stopped : (p t : Text) (s : State) (stop : Stopped next slip p s t) →
      run next slip p s t ≡ turn (slip (p ++ stop.front) stop.state stop.at) (next (p ++ stop.front) stop.state stop.at)
      (λ s'. run next slip ((p ++ stop.front) ++ stop.at ∷ []) s' stop.more) (p ++ stop.front) stop.at stop.more
  run_stopped p t s stop = ap (λ w. run next slip p s w) stop.parts ∙ run_on p stop.front (stop.at ∷ stop.more) s stop.state stop.reached

  -- a state that is reached with slips is reached without
  free_from : (p t : Text) (c : ℕ) (e : State) (x : Slip) (n : Next State V) →
      ((s' : State) → reach next slip (p ++ c ∷ []) s' t ≡ Some e → reach next free (p ++ c ∷ []) s' t ≡ Some e) →
      onward x n (λ s'. reach next slip (p ++ c ∷ []) s' t) ≡ Some e → onward None n (λ s'. reach next free (p ++ c ∷ []) s' t) ≡ Some e
  free_from p t c e (Some x) n ih h = absurd (let k = h in cc)
  free_from p t c e None (goes s') ih h = ih s' h
  free_from p t c e None (whole v) ih h = absurd (let k = h in cc)
  free_from p t c e None refuses ih h = absurd (let k = h in cc)

  pub freely : (p t : Text) (s e : State) → reach next slip p s t ≡ Some e → reach next free p s t ≡ Some e
  freely p [] s e h = h
  freely p (c ∷ t) s e h = free_from p t c e (slip p s c) (next p s c) (λ s' k. freely (p ++ c ∷ []) t s' e k) h

  -- what was read whole, and what stands behind it
  longer_from : (p t r : Text) (c : ℕ) (v : V) (u : Text) (x : Slip) (n : Next State V) →
      ((s : State) → run next slip (p ++ c ∷ []) s t ≡ got v u → run next slip (p ++ c ∷ []) s (t ++ r) ≡ got v (u ++ r)) →
      turn x n (λ s. run next slip (p ++ c ∷ []) s t) p c t ≡ got v u → turn x n (λ s. run next slip (p ++ c ∷ []) s (t ++ r)) p c (t ++ r) ≡ got v (u ++ r)
  longer_from p t r c v u (Some x) n ih h = absurd (let k = h in cc)
  longer_from p t r c v u None (goes s) ih h = ih s h
  longer_from p t r c v u None (whole w) ih h = let e : w ≡ v = cc in let f : t ≡ u = cc in (λ i. got (e i) (f i ++ r))
  longer_from p t r c v u None refuses ih h = absurd (let k = h in cc)

  pub got_longer : (p t r : Text) (s : State) (v : V) (u : Text) → run next slip p s t ≡ got v u → run next slip p s (t ++ r) ≡ got v (u ++ r)
  got_longer p [] r s v u h = absurd (let k = h in cc)
  got_longer p (c ∷ t) r s v u h = longer_from p t r c v u (slip p s c) (next p s c) (λ s' k. got_longer (p ++ c ∷ []) t r s' v u k) h

  -- the part of a text that is read whole
  pub record Part (p : Text) (s : State) (t : Text) (v : V) (r : Text) : Type 0 where
    pub part : Text
    pub parts : t ≡ part ++ r
    pub read : run next slip p s part ≡ got v []

  part_from : (p t r : Text) (c : ℕ) (s : State) (v : V) (x : Slip) (n : Next State V) → slip p s c ≡ x → next p s c ≡ n →
      ((s : State) → run next slip (p ++ c ∷ []) s t ≡ got v r → Part (p ++ c ∷ []) s t v r) →
      turn x n (λ s. run next slip (p ++ c ∷ []) s t) p c t ≡ got v r → Part p s (c ∷ t) v r
  part_from p t r c s v (Some x) n ex en ih h = absurd (let k = h in cc)
  part_from p t r c s v None refuses ex en ih h = absurd (let k = h in cc)
  part_from p t r c s v None (goes e) ex en ih h = let more = ih e h in record {
    part = c ∷ more.part;
    parts = ap (λ z. c ∷ z) more.parts;
    read = (λ i. turn (ex i) (en i) (λ s. run next slip (p ++ c ∷ []) s more.part) p c more.part) ∙ more.read;
  }
  part_from p t r c s v None (whole w) ex en ih h = let e : w ≡ v = cc in record {
    part = c ∷ [];
    parts = let f : t ≡ r = cc in ap (λ z. c ∷ z) f;
    read = (λ i. turn (ex i) (en i) (λ s. run next slip (p ++ c ∷ []) s []) p c []) ∙ ap (λ z. got z []) e;
  }

  pub part_of : (p t r : Text) (s : State) (v : V) → run next slip p s t ≡ got v r → Part p s t v r
  part_of p [] r s v h = absurd (let k = h in cc)
  part_of p (c ∷ t) r s v h = part_from p t r c s v (slip p s c) (next p s c) refl refl (λ s' k. part_of (p ++ c ∷ []) t r s' v k) h
