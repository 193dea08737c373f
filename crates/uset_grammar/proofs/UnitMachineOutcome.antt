-- A machine that reads the shapes of a unit answers by its faults.
use Rattle.std.proofs.Common.{◌≡◌, ◌↔◌, ℕ, [], ◌∷◌, ◌++◌, Some, None, refl, sym, ap, ◌∙◌, subst, inl, inr, append_assoc, append-nil}
use Rattle.uset_grammar.specs.Text.{Text}
use Rattle.uset_grammar.specs.Outcome.{Kind, unexpected, Outcome, got, faulty, ended, Enough, Begins, NoSlip, Sound, FailsAt, slips, unfit, Faulty, HasOutcome}
use Rattle.uset_grammar.proofs.UnitMachine.{Next, goes, whole, refuses, Slip, turn, Halts, run, reach, Stopped, free, run_on, stop_or, not_both, run_stopped, freely, got_longer, part_of}

pub record Describes {State V : Type 0} (next : Text → State → ℕ → Next State V) (slip : Text → State → ℕ → Slip) (start : State)
    (Shape : Text → Type 0) (Slips : Text → ℕ → Kind → Text → Type 0) : Type 0 where
  pub read_shape : (t : Text) → Shape t → (v : V) × (run next free [] start t ≡ got v [])
  pub shape_read : (t : Text) (v : V) → run next free [] start t ≡ got v [] → Shape t
  pub completes : (p : Text) (s : State) → (u : Text) × (v : V) × (run next free p s u ≡ got v [])
  pub slip_at : (p : Text) (c : ℕ) (k : Kind) (b : Text) → Slips p c k b → (s : State) × (reach next free [] start p ≡ Some s) × (slip p s c ≡ Some (k, b))
  pub at_slip : (p : Text) (c : ℕ) (k : Kind) (b : Text) (s : State) → reach next free [] start p ≡ Some s → slip p s c ≡ Some (k, b) → Slips p c k b

-- what was read whole: a shape in which nothing slips
pub record ReadWhole {State V : Type 0} (next : Text → State → ℕ → Next State V) (start : State) (Slips : Text → ℕ → Kind → Text → Type 0) (q : Text) (v : V) (r : Text) : Type 0 where
  pub unit : Text
  pub parts : q ≡ unit ++ r
  pub read : run next free [] start unit ≡ got v []
  pub no_slip : NoSlip Slips unit

nothing_behind : (t u : Text) (c : ℕ) → t ++ c ∷ u ≡ [] → ⊥
nothing_behind [] u c h = cc
nothing_behind (d ∷ t) u c h = cc

module _ {State V : Type 0} where
  not_to_end : (x : Slip) (n : Next State V) (go : State → Outcome V) (p t u : Text) (c d : ℕ) (v : V) → Halts x n → turn x n go p c (t ++ d ∷ u) ≡ got v [] → ⊥
  not_to_end (Some x) n go p t u c d v h e = cc
  not_to_end None (goes s) go p t u c d v h e = h
  not_to_end None (whole w) go p t u c d v h e = nothing_behind t u d cc
  not_to_end None refuses go p t u c d v h e = cc

  not_ended : (x : Slip) (n : Next State V) (go : State → Outcome V) (p t : Text) (c : ℕ) → Halts x n → turn x n go p c t ≡ ended → ⊥
  not_ended (Some x) n go p t c h e = cc
  not_ended None (goes s) go p t c h e = h
  not_ended None (whole w) go p t c h e = cc
  not_ended None refuses go p t c h e = cc

  without : (x : Slip) (n : Next State V) → (((y : Kind × Text) → x ≡ Some y → ⊥)) → Halts x n → Halts None n
  without (Some x) n none h = absurd (none x refl)
  without None n none h = h

module _ {State V : Type 0} (next : Text → State → ℕ → Next State V) where
  longer : (slip : Text → State → ℕ → Slip) (p t u : Text) (s : State) → Stopped next slip p s t → Stopped next slip p s (t ++ u)
  longer slip p t u s stop = record {
    front = stop.front;
    at = stop.at;
    more = stop.more ++ u;
    state = stop.state;
    parts = ap (λ w. w ++ u) stop.parts ∙ append_assoc stop.front (stop.at ∷ stop.more) u;
    reached = stop.reached;
    halts = stop.halts;
  }

  -- what is read whole goes on in each of its proper prefixes
  pub goes_within : (slip : Text → State → ℕ → Slip) (start : State) (t u : Text) (c : ℕ) (v : V) → run next slip [] start (t ++ c ∷ u) ≡ got v [] → (e : State) × (reach next slip [] start t ≡ Some e)
  unfolding longer
  goes_within slip start t u c v h = elim (stop_or next slip [] t start) [
    | inr on ↦ on
    | inl stop ↦ absurd (not_to_end (slip stop.front stop.state stop.at) (next stop.front stop.state stop.at)
        (λ s'. run next slip (stop.front ++ stop.at ∷ []) s' (stop.more ++ c ∷ u)) stop.front stop.more u stop.at c v stop.halts
        (sym (run_stopped next slip [] (t ++ c ∷ u) start (longer slip [] t (c ∷ u) start stop)) ∙ h))
  ]

module _ {State V : Type 0} (next : Text → State → ℕ → Next State V) (slip : Text → State → ℕ → Slip) (start : State)
    (Shape : Text → Type 0) (Slips : Text → ℕ → Kind → Text → Type 0) (machine : Describes next slip start Shape Slips) where
  same_reached : (t : Text) (a b : State) → reach next free [] start t ≡ Some a → reach next free [] start t ≡ Some b → a ≡ b
  same_reached t a b h k = let e : Some a ≡ Some b = sym h ∙ k in cc

  slips_here : (p : Text) (c : ℕ) (s : State) (y : Kind × Text) → reach next slip [] start p ≡ Some s → slip p s c ≡ Some y → Slips p c y.0 y.1
  slips_here p c s y h e = machine.at_slip p c y.0 y.1 s (freely next slip [] p start s h) e

  pub sound_state : (t : Text) → Sound Shape Slips t → (e : State) × (reach next slip [] start t ≡ Some e)
  sound_state t sound = elim (stop_or next slip [] t start) [
    | inr on ↦ on
    | inl stop ↦
        (let shape = machine.read_shape (t ++ sound.begins.next ∷ sound.begins.more) sound.begins.shape in
        let on = goes_within next free start t sound.begins.more sound.begins.next shape.0 shape.1 in
        let stop_too : Stopped next free [] start t = record {
          front = stop.front;
          at = stop.at;
          more = stop.more;
          state = stop.state;
          parts = stop.parts;
          reached = freely next slip [] stop.front start stop.state stop.reached;
          halts = without (slip stop.front stop.state stop.at) (next stop.front stop.state stop.at)
              (λ y e. sound.no_slip stop.front stop.more stop.at y.0 y.1 stop.parts (slips_here stop.front stop.at stop.state y stop.reached e)) stop.halts;
        } in
        absurd (not_both next free [] t start on.0 stop_too on.1))
  ]

  shape_behind : (t u : Text) (e : State) (v : V) → reach next free [] start t ≡ Some e → run next free t e u ≡ got v [] → Shape (t ++ u)
  shape_behind t u e v on read = machine.shape_read (t ++ u) v (run_on next free [] t u start e on ∙ read)

  begins_from : (t u : Text) (e : State) (v : V) → reach next free [] start t ≡ Some e → run next free t e u ≡ got v [] → Begins Shape t
  begins_from t [] e v on read = absurd (let k : ended ≡ got v [] = read in cc)
  begins_from t (c ∷ u) e v on read = record { next = c; more = u; shape = shape_behind t (c ∷ u) e v on read }

  -- a text that slips stops the machine
  slip_stops : (p u : Text) (c : ℕ) (k : Kind) (b : Text) → Slips p c k b → Stopped next slip [] start (p ++ c ∷ u)
  slip_stops p u c k b s =
      let at = machine.slip_at p c k b s in
      elim (stop_or next slip [] p start) [
        | inl stop ↦ longer next slip [] p (c ∷ u) start stop
        | inr on ↦
            (let same = same_reached p at.0 on.0 at.1 (freely next slip [] p start on.0 on.1) in
            record { front = p; at = c; more = u; state = at.0; parts = refl; reached = on.1 ∙ ap (λ x. Some x) (sym same); halts = rw at.2 tt })
      ]

  pub state_sound : (t : Text) (e : State) → Enough t → reach next slip [] start t ≡ Some e → Sound Shape Slips t
  state_sound t e enough on =
      let full = machine.completes t e in
      record {
        enough = enough;
        begins = begins_from t full.0 e full.1 (freely next slip [] t start e on) full.2;
        no_slip = λ p u c k b parts s. not_both next slip [] (p ++ c ∷ u) start e (slip_stops p u c k b s) (ap (λ w. reach next slip [] start w) (sym parts) ∙ on);
      }

  -- the end: the whole text is sound
  pub ended_sound : (q : Text) → Enough q → run next slip [] start q ≡ ended → Sound Shape Slips q
  ended_sound q enough h = elim (stop_or next slip [] q start) [
    | inr on ↦ state_sound q on.0 enough on.1
    | inl stop ↦ absurd (not_ended (slip stop.front stop.state stop.at) (next stop.front stop.state stop.at)
        (λ s'. run next slip (stop.front ++ stop.at ∷ []) s' stop.more) stop.front stop.more stop.at stop.halts (sym (run_stopped next slip [] q start stop) ∙ h))
  ]

  pub sound_ended : (q : Text) → Sound Shape Slips q → run next slip [] start q ≡ ended
  sound_ended q sound =
      let on = sound_state q sound in
      ap (λ w. run next slip [] start w) (sym (append-nil q)) ∙ run_on next slip [] q [] start on.0 on.1

  -- a fault: where the machine stops, the character slips or begins no shape
  fails_here : (q : Text) (k : Kind) (b : Text) (stop : Stopped next slip [] start q) (x : Slip) (n : Next State V) (go : State → Outcome V) →
      slip stop.front stop.state stop.at ≡ x → next stop.front stop.state stop.at ≡ n → Halts x n →
      turn x n go stop.front stop.at stop.more ≡ faulty k b → FailsAt Shape Slips stop.front stop.at k b
  fails_here q k b stop (Some y) n go ex en h e =
      let k_is : y.0 ≡ k = cc in
      let b_is : y.1 ≡ b = cc in
      slips (λ' k_is b_is (slips_here stop.front stop.at stop.state y stop.reached ex))
    where
      λ' : y.0 ≡ k → y.1 ≡ b → Slips stop.front stop.at y.0 y.1 → Slips stop.front stop.at k b
      λ' f g s = subst (λ l. Slips stop.front stop.at l b) f (subst (λ a. Slips stop.front stop.at y.0 a) g s)
  fails_here q k b stop None (goes s) go ex en h e = absurd h
  fails_here q k b stop None (whole v) go ex en h e = absurd (let f = e in cc)
  fails_here q k b stop None refuses go ex en h e =
      let on = freely next slip [] stop.front start stop.state stop.reached in
      let none : (l : Kind) (a : Text) → Slips stop.front stop.at l a → ⊥ =
      λ l a s. (let at = machine.slip_at stop.front stop.at l a s in
      let same = same_reached stop.front at.0 stop.state at.1 on in
      let bad : ◌≡◌ {A = Slip} None (Some (l, a)) = sym ex ∙ (ap (λ z. slip stop.front z stop.at) (sym same) ∙ at.2) in cc) in
      let unshaped : (u : Text) → Shape (stop.front ++ stop.at ∷ u) → ⊥ =
      λ u shape. (let read = machine.read_shape (stop.front ++ stop.at ∷ u) shape in
      let goes_on = run_on next free [] stop.front (stop.at ∷ u) start stop.state on in
      let bad : faulty (unexpected stop.at) stop.front ≡ got read.0 [] =
      sym (ap (λ z. turn None z (λ s'. run next free (stop.front ++ stop.at ∷ []) s' u) stop.front stop.at u) en) ∙ (sym goes_on ∙ read.1) in cc) in
      let k_is : unexpected stop.at ≡ k = cc in
      let b_is : stop.front ≡ b = cc in
      subst (λ a. FailsAt Shape Slips stop.front stop.at k a) b_is (subst (λ l. FailsAt Shape Slips stop.front stop.at l stop.front) k_is (unfit none unshaped))

  pub faulty_faults : (q : Text) (k : Kind) (b : Text) → ((stop : Stopped next slip [] start q) → Enough stop.front) → run next slip [] start q ≡ faulty k b → Faulty Shape Slips q k b
  faulty_faults q k b early h = elim (stop_or next slip [] q start) [
    | inr on ↦ absurd (let e : run next slip [] start q ≡ ended = ap (λ w. run next slip [] start w) (sym (append-nil q)) ∙ run_on next slip [] q [] start on.0 on.1 in cc)
    | inl stop ↦ record {
      front = stop.front;
      next = stop.at;
      more = stop.more;
      parts = stop.parts;
      sound = state_sound stop.front stop.state (early stop) stop.reached;
      fails = fails_here q k b stop (slip stop.front stop.state stop.at) (next stop.front stop.state stop.at)
          (λ s'. run next slip (stop.front ++ stop.at ∷ []) s' stop.more) refl refl stop.halts (sym (run_stopped next slip [] q start stop) ∙ h);
    }
  ]

  fails_turn : (f u : Text) (c : ℕ) (k : Kind) (b : Text) (s : State) (x : Slip) (n : Next State V) (go : State → Outcome V) → reach next slip [] start f ≡ Some s →
      slip f s c ≡ x → next f s c ≡ n → FailsAt Shape Slips f c k b → turn x n go f c u ≡ faulty k b
  fails_turn f u c k b s x n go on ex en (slips found) =
      let at = machine.slip_at f c k b found in
      let same = same_reached f at.0 s at.1 (freely next slip [] f start s on) in
      let is : x ≡ Some (k, b) = sym ex ∙ (ap (λ z. slip f z c) (sym same) ∙ at.2) in
      ap (λ y. turn y n go f c u) is
  fails_turn f u c _ _ s (Some y) n go on ex en (unfit none unshaped) = absurd (none y.0 y.1 (slips_here f c s y on ex))
  fails_turn f u c _ _ s None (goes e) go on ex en (unfit none unshaped) =
      let full = machine.completes (f ++ c ∷ []) e in
      let free_on = freely next slip [] f start s on in
      absurd (unshaped full.0 (shape_behind f (c ∷ full.0) s full.1 free_on
      (ap (λ z. turn None z (λ s'. run next free (f ++ c ∷ []) s' full.0) f c full.0) en ∙ full.2)))
  fails_turn f u c _ _ s None (whole v) go on ex en (unfit none unshaped) =
      absurd (unshaped [] (shape_behind f (c ∷ []) s v (freely next slip [] f start s on)
      (ap (λ z. turn None z (λ s'. run next free (f ++ c ∷ []) s' []) f c []) en)))
  fails_turn f u c _ _ s None refuses go on ex en (unfit none unshaped) = refl

  pub faults_faulty : (q : Text) (k : Kind) (b : Text) → Faulty Shape Slips q k b → run next slip [] start q ≡ faulty k b
  faults_faulty q k b fault =
      let on = sound_state fault.front fault.sound in
      ap (λ w. run next slip [] start w) fault.parts ∙ (run_on next slip [] fault.front (fault.next ∷ fault.more) start on.0 on.1
      ∙ fails_turn fault.front fault.more fault.next k b on.0 (slip fault.front on.0 fault.next) (next fault.front on.0 fault.next)
      (λ s'. run next slip (fault.front ++ fault.next ∷ []) s' fault.more) on.1 refl refl fault.fails)

  -- read whole
  whole_here : (q : Text) (v : V) (r : Text) (stop : Stopped next slip [] start q) (x : Slip) (n : Next State V) (go : State → Outcome V) →
      slip stop.front stop.state stop.at ≡ x → next stop.front stop.state stop.at ≡ n → Halts x n →
      turn x n go stop.front stop.at stop.more ≡ got v r → (x ≡ None) × (n ≡ whole v) × (stop.more ≡ r)
  whole_here q v r stop (Some y) n go ex en h e = absurd (let f = e in cc)
  whole_here q v r stop None (goes s) go ex en h e = absurd h
  whole_here q v r stop None (whole w) go ex en h e = (refl, (let same : w ≡ v = cc in ap (λ z. whole z) same), cc)
  whole_here q v r stop None refuses go ex en h e = absurd (let f = e in cc)

  no_slip_whole : (t : Text) (v : V) → run next slip [] start t ≡ got v [] → NoSlip Slips t
  no_slip_whole t v h p u c k b parts s =
      let same = ap (λ w. run next slip [] start w) parts in
      let on = goes_within next slip start p u c v (sym same ∙ h) in
      let at = machine.slip_at p c k b s in
      let one = same_reached p at.0 on.0 at.1 (freely next slip [] p start on.0 on.1) in
      let turned = run_on next slip [] p (c ∷ u) start on.0 on.1 in
      let is : slip p on.0 c ≡ Some (k, b) = ap (λ z. slip p z c) (sym one) ∙ at.2 in
      let bad : faulty k b ≡ got v [] =
      sym (ap (λ x. turn x (next p on.0 c) (λ s'. run next slip (p ++ c ∷ []) s' u) p c u) is) ∙ (sym turned ∙ (sym same ∙ h)) in
      cc

  pub got_whole : (q : Text) (v : V) (r : Text) → run next slip [] start q ≡ got v r → ReadWhole next start Slips q v r
  got_whole q v r h = elim (stop_or next slip [] q start) [
    | inr on ↦ absurd (let e : run next slip [] start q ≡ ended = ap (λ w. run next slip [] start w) (sym (append-nil q)) ∙ run_on next slip [] q [] start on.0 on.1 in cc)
    | inl stop ↦
        (let is = whole_here q v r stop (slip stop.front stop.state stop.at) (next stop.front stop.state stop.at)
        (λ s'. run next slip (stop.front ++ stop.at ∷ []) s' stop.more) refl refl stop.halts (sym (run_stopped next slip [] q start stop) ∙ h) in
        let read : (sl : Text → State → ℕ → Slip) → reach next sl [] start stop.front ≡ Some stop.state → sl stop.front stop.state stop.at ≡ None →
        run next sl [] start (stop.front ++ stop.at ∷ []) ≡ got v [] =
        λ sl on none. run_on next sl [] stop.front (stop.at ∷ []) start stop.state on
        ∙ (λ i. turn (none i) (is.1 i) (λ s'. run next sl (stop.front ++ stop.at ∷ []) s' []) stop.front stop.at []) in
        record {
          unit = stop.front ++ stop.at ∷ [];
          parts = stop.parts ∙ (ap (λ w. stop.front ++ stop.at ∷ w) is.2 ∙ sym (append_assoc stop.front (stop.at ∷ []) r));
          read = read free (freely next slip [] stop.front start stop.state stop.reached) refl;
          no_slip = no_slip_whole (stop.front ++ stop.at ∷ []) v (read slip stop.reached is.0);
        })
  ]

  whole_turn : (t r : Text) (v : V) (stop : Stopped next slip [] start t) (x : Slip) (n : Next State V) (go : State → Outcome V) → slip stop.front stop.state stop.at ≡ x → Halts x n →
      NoSlip Slips t → turn None n go stop.front stop.at stop.more ≡ got v [] → (go' : State → Outcome V) → turn x n go' stop.front stop.at (stop.more ++ r) ≡ got v r
  whole_turn t r v stop (Some y) n go ex h none e go' =
      absurd (none stop.front stop.more stop.at y.0 y.1 stop.parts (slips_here stop.front stop.at stop.state y stop.reached ex))
  whole_turn t r v stop None (goes s) go ex h none e go' = absurd h
  whole_turn t r v stop None (whole w) go ex h none e go' = let same : w ≡ v = cc in let nil : stop.more ≡ [] = cc in (λ i. got (same i) (nil i ++ r))
  whole_turn t r v stop None refuses go ex h none e go' = absurd (let f = e in cc)

  pub whole_got : (q : Text) (v : V) (r : Text) → ReadWhole next start Slips q v r → run next slip [] start q ≡ got v r
  unfolding longer
  whole_got q v r w = elim (stop_or next slip [] w.unit start) [
    | inr on ↦ absurd (let e : run next free [] start w.unit ≡ ended = ap (λ z. run next free [] start z) (sym (append-nil w.unit)) ∙ run_on next free [] w.unit [] start on.0 (freely next slip [] w.unit start on.0 on.1) in
        let f = w.read in cc)
    | inl stop ↦
        (let free_on = freely next slip [] stop.front start stop.state stop.reached in
        let free_run = ap (λ z. run next free [] start z) stop.parts ∙ run_on next free [] stop.front (stop.at ∷ stop.more) start stop.state free_on in
        ap (λ z. run next slip [] start z) w.parts
        ∙ (run_stopped next slip [] (w.unit ++ r) start (longer next slip [] w.unit r start stop)
        ∙ whole_turn w.unit r v stop (slip stop.front stop.state stop.at) (next stop.front stop.state stop.at)
        (λ s'. run next free (stop.front ++ stop.at ∷ []) s' stop.more) refl stop.halts w.no_slip (sym free_run ∙ w.read)
        (λ s'. run next slip (stop.front ++ stop.at ∷ []) s' (stop.more ++ r))))
  ]

  -- What is read is what is read freely and fits, so that a text in front of which a unit stands has one outcome.
  module _ (Fits : V → Type 0) (fits : (q : Text) (v : V) (r : Text) → run next slip [] start q ≡ got v r → Fits v) (no_slip : (unit : Text) (v : V) → run next free [] start unit ≡ got v [] → Fits v → NoSlip Slips unit) where
    read_freely : (q : Text) (v : V) (r : Text) → run next slip [] start q ≡ got v r → run next free [] start q ≡ got v r
    read_freely q v r h =
        let unit = got_whole q v r h in
        ap (λ z. run next free [] start z) unit.parts ∙ got_longer next free [] unit.unit r start v [] unit.read

    fitting_read : (q : Text) (v : V) (r : Text) → run next free [] start q ≡ got v r → Fits v → run next slip [] start q ≡ got v r
    fitting_read q v r read fits =
        let part = part_of next free [] q r start v read in
        whole_got q v r (record { unit = part.part; parts = part.parts; read = part.read; no_slip = no_slip part.part v part.read fits })

    pub answered : (Read : Text → V → Text → Type 0) (q : Text) → ((v : V) (r : Text) → Read q v r ↔ ((run next free [] start q ≡ got v r) × Fits v)) → Enough q → ((stop : Stopped next slip [] start q) → Enough stop.front) →
        HasOutcome Read Shape Slips q (run next slip [] start q)
    answered Read q reads enough early = record {
      reads = λ v r. (λ h. (reads v r).1 (read_freely q v r h, fits q v r h), λ h. let (read, fitting) = (reads v r).0 h in fitting_read q v r read fitting);
      faults = λ k b. (faulty_faults q k b early, faults_faulty q k b);
      ends = (ended_sound q enough, sound_ended q);
    }
