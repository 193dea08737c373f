-- What begins as a string has one outcome.
use Rattle.std.proofs.Common.{◌≡◌, ℕ, Bool, true, false, ◌&&◌, cond, List, [], ◌∷◌, ◌++◌, Some, None, refl, sym, ap, ◌∙◌, subst, append_assoc, append-nil, arith}
use Rattle.std.specs.Prelude.{◌==◌}
use Rattle.std.specs.List.{list_all}
use Rattle.std.proofs.lemmas.Bool.{eqb-true, and_parts}
use Rattle.std.proofs.lemmas.List.Folds.{list_all-append}
use Rattle.std.proofs.lemmas.List.Folds.{list_all-append}
use Rattle.uset_grammar.specs.Text.{Text}
use Rattle.uset_grammar.specs.Outcome.{HasOutcome, Kind, Outcome, got, Enough, NoSlip}
use Rattle.uset_grammar.specs.EscapeSlips.{in_string, allowed}
use Rattle.uset_grammar.proofs.UnitMachineOutcome.{Describes, goes_within, answered}
use Rattle.uset_grammar.specs.Escape.{Apart, Spelled, itself}
use Rattle.uset_grammar.specs.BracedString.{StringShape, StringRead, StringSlips, in_escape}
use Rattle.uset_grammar.proofs.UnitMachine.{Next, goes, whole, refuses, Slip, turn, onward, Halts, run, reach, Stopped, free, run_on, reach_on, whole_from, Keeps, read_fits, holds_at}
use Rattle.uset_grammar.proofs.EscapeMachine as E
use Rattle.uset_grammar.proofs.EscapeMachine.{read_whole}
use Rattle.uset_grammar.proofs.EscapeMachineSlips as S
use Rattle.uset_grammar.proofs.EscapeMachineMeaning as F
use Rattle.uset_grammar.proofs.EscapeOutcome as L
use Rattle.uset_grammar.proofs.StringMachine.{State, start, pieces, inside, lift, behind_text, next, slip, shape_is_read}

module _ (white_space : ℕ → Bool) where
  -- a state of an escape in a string is reached as it is in the escape
  inside_goes : (p t b q : Text) (c : ℕ) (ps : List Spelled) (e : E.State) (m : Next E.State Spelled) →
      ((e' : E.State) → reach (E.next white_space) free (q ++ c ∷ []) e' t ≡ Some e → reach (next white_space) free (p ++ c ∷ []) (inside ps b (q ++ c ∷ []) e') t ≡ Some (inside ps b ((q ++ c ∷ []) ++ t) e)) →
      onward None m (λ s'. reach (E.next white_space) free (q ++ c ∷ []) s' t) ≡ Some e →
      onward None (lift ps b (q ++ c ∷ []) m) (λ s'. reach (next white_space) free (p ++ c ∷ []) s' t) ≡ Some (inside ps b (q ++ c ∷ t) e)
  inside_goes p t b q c ps e (goes e') ih h = ih e' h ∙ ap (λ z. Some (inside ps b z e)) (append_assoc q (c ∷ []) t)
  inside_goes p t b q c ps e (whole v) ih h = absurd (let k = h in cc)
  inside_goes p t b q c ps e refuses ih h = absurd (let k = h in cc)

  pub inside_reach : (t p b q : Text) (ps : List Spelled) (d e : E.State) → reach (E.next white_space) free q d t ≡ Some e → reach (next white_space) free p (inside ps b q d) t ≡ Some (inside ps b (q ++ t) e)
  inside_reach [] p b q ps d e h = let same : d ≡ e = cc in (λ i. Some (inside ps b (sym (append-nil q) i) (same i)))
  inside_reach (c ∷ t) p b q ps d e h = inside_goes p t b q c ps e (E.next white_space q d c) (λ e' k. inside_reach t (p ++ c ∷ []) b (q ++ c ∷ []) ps e' e k) h

  -- each state goes on to a whole string
  abbrev Completes : Text → State → Type 0
  Completes p s = (u : Text) × (v : List Spelled) × (run (next white_space) free p s u ≡ got v [])

  inside_by : (p t b q : Text) (c : ℕ) (ps : List Spelled) (s : Spelled) (m : Next E.State Spelled) →
      ((e : E.State) → run (E.next white_space) free (q ++ c ∷ []) e t ≡ got s [] → run (next white_space) free (p ++ c ∷ []) (inside ps b (q ++ c ∷ []) e) (t ++ 0x7D ∷ []) ≡ got (ps ++ s ∷ []) []) →
      turn None m (λ s'. run (E.next white_space) free (q ++ c ∷ []) s' t) q c t ≡ got s [] →
      turn None (lift ps b (q ++ c ∷ []) m) (λ s'. run (next white_space) free (p ++ c ∷ []) s' (t ++ 0x7D ∷ [])) p c (t ++ 0x7D ∷ []) ≡ got (ps ++ s ∷ []) []
  inside_by p t b q c ps s (goes e) ih h = ih e h
  inside_by p t b q c ps s refuses ih h = absurd (let k = h in cc)
  inside_by p t b q c ps s (whole w) ih h =
      let is : w ≡ s = cc in let nil : t ≡ [] = cc in
      ap (λ z. run (next white_space) free (p ++ c ∷ []) (pieces (ps ++ w ∷ [])) (z ++ 0x7D ∷ [])) nil ∙ ap (λ z. got (ps ++ z ∷ []) []) is

  inside_complete : (t p b q : Text) (ps : List Spelled) (e : E.State) (s : Spelled) → run (E.next white_space) free q e t ≡ got s [] →
      run (next white_space) free p (inside ps b q e) (t ++ 0x7D ∷ []) ≡ got (ps ++ s ∷ []) []
  inside_complete [] p b q ps e s h = absurd (let k = h in cc)
  inside_complete (c ∷ t) p b q ps e s h = inside_by p t b q c ps s (E.next white_space q e c) (λ e' k. inside_complete t (p ++ c ∷ []) b (q ++ c ∷ []) ps e' s k) h

  completes_law : (p : Text) (s : State) → Completes p s
  completes_law p start = (0x7B ∷ 0x7D ∷ [], [], refl)
  completes_law p (pieces ps) = (0x7D ∷ [], ps, refl)
  completes_law p (inside ps b q e) =
      let full = L.completes_law white_space q e in (full.0 ++ 0x7D ∷ [], ps ++ full.1 ∷ [], inside_complete full.0 p b q ps e full.1 full.2)

  -- what a state says of the text behind which it is reached
  abbrev Extra : State → Text → Type 0
  Extra start p = Unit {0}
  Extra (pieces ps) p = Unit {0}
  Extra (inside ps b q e) p = (p ≡ b ++ q) × (reach (next white_space) free [] start b ≡ Some (pieces ps)) × (reach (E.next white_space) free [] E.start q ≡ Some e)

  abbrev At : State → Text → Type 0
  At s p = (reach (next white_space) free [] start p ≡ Some s) × Extra s p

  abbrev Onward : Text → ℕ → Next State (List Spelled) → Type 0
  Onward p c (goes e) = Extra e (p ++ c ∷ [])
  Onward p c (whole v) = Unit {0}
  Onward p c refuses = Unit {0}

  start_on : (p : Text) (c : ℕ) (b : Bool) → Onward p c (cond b (goes (pieces [])) refuses)
  start_on p c true = tt
  start_on p c false = tt

  pieces_on : (p : Text) (c : ℕ) (ps : List Spelled) (x w s : Bool) → (c == 0x5C) ≡ s → reach (next white_space) free [] start p ≡ Some (pieces ps) →
      Onward p c (cond x (whole ps) (cond w (goes (pieces ps)) (cond s (goes (inside ps p (c ∷ []) E.letters)) (goes (pieces (ps ++ itself c ∷ []))))))
  pieces_on p c ps true w s e on = tt
  pieces_on p c ps false true s e on = tt
  pieces_on p c ps false false false e on = tt
  pieces_on p c ps false false true e on = (refl, on, ap (λ b. onward {V = Spelled} None (cond b (goes E.letters) refuses) (λ (s' : E.State). Some s')) e)

  lift_on : (p b q : Text) (c : ℕ) (ps : List Spelled) (e : E.State) (m : Next E.State Spelled) → E.next white_space q e c ≡ m → Extra (inside ps b q e) p → Onward p c (lift ps b (q ++ c ∷ []) m)
  lift_on p b q c ps e (whole v) em x = tt
  lift_on p b q c ps e refuses em x = tt
  lift_on p b q c ps e (goes d) em x = (
    ap (λ z. z ++ c ∷ []) x.0 ∙ append_assoc b q (c ∷ []),
    x.1,
    reach_on (E.next white_space) free [] q (c ∷ []) E.start e x.2 ∙ ap (λ m. onward None m (λ (s' : E.State). Some s')) em,
  )

  on : (p : Text) (s : State) (c : ℕ) → At s p → Onward p c (next white_space p s c)
  on p start c at = start_on p c (c == 0x7B)
  on p (pieces ps) c at = pieces_on p c ps (c == 0x7D) (white_space c) (c == 0x5C) refl at.0
  on p (inside ps b q e) c at = lift_on p b q c ps e (E.next white_space q e c) refl at.1

  walk : (p t : Text) (s e : State) → At s p → reach (next white_space) free p s t ≡ Some e → At e (p ++ t)
  walk = holds_at (next white_space) free At (λ p s e c at _ n.
      (reach_on (next white_space) free [] p (c ∷ []) start s at.0 ∙ ap (λ m. onward None m (λ (s' : State). Some s')) n, subst (Onward p c) n (on p s c at)))

  -- what a state that is reached says
  pub at_state : (p : Text) (s : State) → reach (next white_space) free [] start p ≡ Some s → At s p
  at_state p s h = walk [] p start s (refl, tt) h

module _ (white_space : ℕ → Bool) (apart : Apart white_space) where
  abbrev Slips : Text → ℕ → Kind → Text → Type 0
  Slips = StringSlips white_space

  closed : (b : Text) (ps : List Spelled) → reach (next white_space) free [] start b ≡ Some (pieces ps) → StringShape white_space (b ++ 0x7D ∷ [])
  closed b ps h = (ps, sym (shape_is_read white_space apart (b ++ 0x7D ∷ []) []) ∙ ap (λ o. read_whole o) (run_on (next white_space) free [] b (0x7D ∷ []) start (pieces ps) h))

  behind_some : (b : Text) (x : Slip) (k : Kind) (a : Text) → behind_text b x ≡ Some (k, a) → (y : Text) × (x ≡ Some (k, y)) × (b ++ y ≡ a)
  behind_some b None k a h = absurd (let e = h in cc)
  behind_some b (Some x) k a h =
      let is : x.0 ≡ k = ap (λ (o : Slip). kind_or k o) h in (x.1, (λ i. Some (is i, x.1)), ap (λ (o : Slip). text_or a o) h)
    where
      kind_or : Kind → Slip → Kind
      kind_or d None = d
      kind_or d (Some x) = x.0

      text_or : Text → Slip → Text
      text_or d None = d
      text_or d (Some x) = x.1

  at_slip_law : (p : Text) (c : ℕ) (k : Kind) (b : Text) (s : State) → reach (next white_space) free [] start p ≡ Some s → slip white_space p s c ≡ Some (k, b) → Slips p c k b
  at_slip_law p c k a start h e = absurd (let f = e in cc)
  at_slip_law p c k a (pieces ps) h e = absurd (let f = e in cc)
  at_slip_law p c k a (inside ps b q e') h e =
      let at = at_state white_space p (inside ps b q e') h in
      let x = behind_some b (S.slip white_space in_string q e' c) k a e in
      subst (λ z. Slips z c k a) (sym at.1.0) (subst (λ z. Slips (b ++ q) c k z) x.2
      (in_escape b (closed b ps at.1.1) (F.at_slip_law white_space apart in_string q c k x.0 e' at.1.2 x.1)))

  abbrev SlipsHere : Text → ℕ → Kind → Text → Type 0
  SlipsHere p c k b = (s : State) × (reach (next white_space) free [] start p ≡ Some s) × (slip white_space p s c ≡ Some (k, b))

  -- pieces stand in front of a closing brace
  closing : (b : Text) (s : State) (ps : List Spelled) → next white_space b s 0x7D ≡ whole ps → reach (next white_space) free [] start b ≡ Some s → reach (next white_space) free [] start b ≡ Some (pieces ps)
  closing b start ps e h = absurd (let f = e in cc)
  closing b (pieces qs) ps e h = let is : qs ≡ ps = cc in h ∙ ap (λ z. Some (pieces z)) is
  closing b (inside qs b' q d) ps e h = absurd (never (E.next white_space q d 0x7D) e)
    where
      never : (m : Next E.State Spelled) → lift qs b' (q ++ 0x7D ∷ []) m ≡ whole ps → ⊥
      never (goes x) e = cc
      never (whole x) e = cc
      never refuses e = cc

  opened : (b : Text) → StringShape white_space (b ++ 0x7D ∷ []) → (ps : List Spelled) × (reach (next white_space) free [] start b ≡ Some (pieces ps))
  opened b shape =
      let read = F.read_got (run (next white_space) free [] start (b ++ 0x7D ∷ [])) shape.0 [] (shape_is_read white_space apart (b ++ 0x7D ∷ []) [] ∙ shape.1) in
      let on = goes_within (next white_space) free start b [] 0x7D shape.0 read in (
        shape.0,
        closing b on.0 shape.0 (whole_from b 0x7D shape.0 (next white_space b on.0 0x7D) (λ s'. run (next white_space) free (b ++ 0x7D ∷ []) s' []) (λ s. refl)
            (sym (run_on (next white_space) free [] b (0x7D ∷ []) start on.0 on.1) ∙ read)) on.1,
      )

  backslash : (b : Text) (ps : List Spelled) → next white_space b (pieces ps) 0x5C ≡ goes (inside ps b (0x5C ∷ []) E.letters)
  backslash b ps = let e = apart.no_backslash in rw e refl

  slip_from : (b e y : Text) (c : ℕ) (k : Kind) (ps : List Spelled) → reach (next white_space) free [] start b ≡ Some (pieces ps) → F.SlipsHere white_space in_string e c k y → SlipsHere (b ++ e) c k (b ++ y)
  slip_from b [] y c k ps on at = absurd (let same : E.start ≡ at.0 = (let h = at.1 in cc) in
      let f : S.slip white_space in_string [] E.start c ≡ Some (k, y) = ap (λ z. S.slip white_space in_string [] z c) same ∙ at.2 in never (c == 0x5C) f)
    where
      never : (z : Bool) → S.end_slip in_string (cond z (goes E.letters) refuses) ≡ Some (k, y) → ⊥
      never true f = cc
      never false f = cc
  slip_from b (d ∷ e) y c k ps on at = by (d == 0x5C) refl at.1
    where
      by : (z : Bool) → (d == 0x5C) ≡ z → onward {V = Spelled} None (cond z (goes E.letters) refuses) (λ s'. reach (E.next white_space) free (d ∷ []) s' e) ≡ Some at.0 → SlipsHere (b ++ d ∷ e) c k (b ++ y)
      by false ez h = absurd (let f = h in cc)
      by true ez h =
          let is = eqb-true d 0x5C ez in
          let inner = inside_reach white_space e (b ++ d ∷ []) b (d ∷ []) ps E.letters at.0 h in (
            inside ps b (d ∷ e) at.0,
            reach_on (next white_space) free [] b (d ∷ e) start (pieces ps) on
                ∙ (ap (λ m. onward None m (λ s'. reach (next white_space) free (b ++ d ∷ []) s' e)) (ap (next white_space b (pieces ps)) is ∙ (backslash b ps ∙ ap (λ z. goes (inside ps b (z ∷ []) E.letters)) (sym is)))
                ∙ inner),
            ap (behind_text b) at.2,
          )

  slip_at_law : (p : Text) (c : ℕ) (k : Kind) (a : Text) → Slips p c k a → SlipsHere p c k a
  slip_at_law _ c k _ (in_escape {e} {b = y} b shape slip') =
      let open' = opened b shape in slip_from b e y c k open'.0 open'.1 (F.slip_at_law white_space apart in_string e c k y slip')

  pub string_machine : Describes (next white_space) (slip white_space) start (StringShape white_space) Slips
  string_machine = record {
    read_shape = λ t shape. (shape.0, F.read_got (run (next white_space) free [] start t) shape.0 [] (shape_is_read white_space apart t [] ∙ shape.1));
    shape_read = λ t v read. (v, sym (shape_is_read white_space apart t []) ∙ ap (λ o. read_whole o) read);
    completes = completes_law white_space;
    slip_at = slip_at_law;
    at_slip = at_slip_law;
  }

  -- WHAT IS READ WITHOUT A SLIP HAS CHARACTERS ALONE
  abbrev AllFit : List Spelled → Type 0
  AllFit ps = list_all (allowed in_string) ps ≡ true

  abbrev Fine : State → Type 0
  Fine start = Unit {0}
  Fine (pieces ps) = AllFit ps
  Fine (inside ps b q e) = AllFit ps × L.Fine in_string e

  abbrev Good : Next State (List Spelled) → Type 0
  Good = Keeps Fine AllFit

  one_more_fits : (ps : List Spelled) (s : Spelled) → AllFit ps → allowed in_string s ≡ true → AllFit (ps ++ s ∷ [])
  one_more_fits ps s h k = list_all-append (allowed in_string) ps (s ∷ []) ∙ (λ i. h i && (k i && true))

  good_start : (b : Bool) → Good (cond b (goes (pieces [])) refuses)
  good_start true = refl
  good_start false = tt

  good_pieces : (p : Text) (c : ℕ) (ps : List Spelled) (x w s : Bool) → AllFit ps →
      Good (cond x (whole ps) (cond w (goes (pieces ps)) (cond s (goes (inside ps p (c ∷ []) E.letters)) (goes (pieces (ps ++ itself c ∷ []))))))
  good_pieces p c ps true w s f = f
  good_pieces p c ps false true s f = f
  good_pieces p c ps false false true f = (f, tt)
  good_pieces p c ps false false false f = one_more_fits ps (itself c) f refl

  good_lift : (ps : List Spelled) (b q : Text) (m : Next E.State Spelled) → AllFit ps → L.Good in_string m → Good (lift ps b q m)
  good_lift ps b q (goes e) f g = (f, g)
  good_lift ps b q (whole s) f g = one_more_fits ps s f g
  good_lift ps b q refuses f g = tt

  behind_none : (b : Text) (x : Slip) → behind_text b x ≡ None → x ≡ None
  behind_none b None h = refl
  behind_none b (Some x) h = absurd (let e = h in cc)

  good : (p : Text) (s : State) (c : ℕ) → Fine s → slip white_space p s c ≡ None → Good (next white_space p s c)
  good p start c f x = good_start (c == 0x7B)
  good p (pieces ps) c f x = good_pieces p c ps (c == 0x7D) (white_space c) (c == 0x5C) f
  good p (inside ps b q e) c f x =
      let none = L.option_or-none (S.within in_string q e c) (S.end_slip in_string (E.next white_space q e c)) (behind_none b (S.slip white_space in_string q e c) x) in
      good_lift ps b (q ++ c ∷ []) (E.next white_space q e c) f.0 (L.good white_space apart in_string q e c f.1 none.0 none.1)

  -- WHAT HAS CHARACTERS ALONE HAS NO SLIP
  -- the pieces that were read stand in front, and an escape that was begun is read behind them
  abbrev More : List Spelled → List Spelled → Type 0
  More ps v = (ms : List Spelled) × (v ≡ ps ++ ms)

  abbrev Holds : Text → Type 0
  Holds t =
      ((p r : Text) (ps v : List Spelled) → run (next white_space) free p (pieces ps) t ≡ got v r → More ps v)
      × ((p r b q : Text) (ps v : List Spelled) (e : E.State) → run (next white_space) free p (inside ps b q e) t ≡ got v r →
      (s : Spelled) × (u : Text) × (run (E.next white_space) free q e t ≡ got s u) × (ms : List Spelled) × (v ≡ ps ++ s ∷ ms))

  holds_pieces : (t p r : Text) (c : ℕ) (ps v : List Spelled) (x w s : Bool) → Holds t →
      turn None (cond x (whole ps) (cond w (goes (pieces ps)) (cond s (goes (inside ps p (c ∷ []) E.letters)) (goes (pieces (ps ++ itself c ∷ []))))))
      (λ s'. run (next white_space) free (p ++ c ∷ []) s' t) p c t ≡ got v r → More ps v
  holds_pieces t p r c ps v true w s ih h = let e : ps ≡ v = cc in ([], sym e ∙ sym (append-nil ps))
  holds_pieces t p r c ps v false true s ih h = ih.0 (p ++ c ∷ []) r ps v h
  holds_pieces t p r c ps v false false true ih h = let m = ih.1 (p ++ c ∷ []) r p (c ∷ []) ps v E.letters h in (m.0 ∷ m.3, m.4)
  holds_pieces t p r c ps v false false false ih h =
      let m = ih.0 (p ++ c ∷ []) r (ps ++ itself c ∷ []) v h in (itself c ∷ m.0, m.1 ∙ append_assoc ps (itself c ∷ []) m.0)

  holds_inside : (t p r b q : Text) (c : ℕ) (ps v : List Spelled) (m : Next E.State Spelled) → Holds t →
      turn None (lift ps b (q ++ c ∷ []) m) (λ s'. run (next white_space) free (p ++ c ∷ []) s' t) p c t ≡ got v r →
      (s : Spelled) × (u : Text) × (turn None m (λ s'. run (E.next white_space) free (q ++ c ∷ []) s' t) q c t ≡ got s u) × (ms : List Spelled) × (v ≡ ps ++ s ∷ ms)
  holds_inside t p r b q c ps v (goes e) ih h = ih.1 (p ++ c ∷ []) r b (q ++ c ∷ []) ps v e h
  holds_inside t p r b q c ps v (whole s) ih h = let m = ih.0 (p ++ c ∷ []) r (ps ++ s ∷ []) v h in (s, t, refl, m.0, m.1 ∙ append_assoc ps (s ∷ []) m.0)
  holds_inside t p r b q c ps v refuses ih h = absurd (let e = h in cc)

  holds : (t : Text) → Holds t
  holds [] = (λ p r ps v h. absurd (let e = h in cc), λ p r b q ps v e h. absurd (let f = h in cc))
  holds (c ∷ t) =
      let ih = holds t in (
        λ p r ps v h. holds_pieces t p r c ps v (c == 0x7D) (white_space c) (c == 0x5C) ih h,
        λ p r b q ps v e h. holds_inside t p r b q c ps v (E.next white_space q e c) ih h,
      )

  among_fits : (ps ms : List Spelled) (s : Spelled) → AllFit (ps ++ s ∷ ms) → allowed in_string s ≡ true
  among_fits [] ms s h = (and_parts (allowed in_string s) (list_all (allowed in_string) ms) h).0
  among_fits (x ∷ ps) ms s h = among_fits ps ms s (and_parts (allowed in_string x) (list_all (allowed in_string) (ps ++ s ∷ ms)) h).1

  lost : (p u : Text) (s : State) (c : ℕ) (k : Kind) (a : Text) (v : List Spelled) → slip white_space p s c ≡ Some (k, a) → run (next white_space) free p s (c ∷ u) ≡ got v [] → AllFit v → ⊥
  lost p u start c k a v e h f = absurd (let g = e in cc)
  lost p u (pieces ps) c k a v e h f = absurd (let g = e in cc)
  lost p u (inside ps b q d) c k a v e h f =
      let x = behind_some b (S.slip white_space in_string q d c) k a e in
      let m = (holds (c ∷ u)).1 p [] b q ps v d h in
      L.lost_by white_space apart in_string q d c (k, x.0) (S.within in_string q d c) refl x.1 u m.1 m.0 m.2 (among_fits ps m.3 m.0 (ap (list_all (allowed in_string)) (sym m.4) ∙ f))

  fits_no_slip : (unit : Text) (v : List Spelled) → run (next white_space) free [] start unit ≡ got v [] → AllFit v → NoSlip Slips unit
  fits_no_slip unit v read f p u c k b parts slips' =
      let at = slip_at_law p c k b slips' in
      lost p u at.0 c k b v at.2 (sym (run_on (next white_space) free [] p (c ∷ u) start at.0 at.1) ∙ (ap (λ z. run (next white_space) free [] start z) (sym parts) ∙ read)) f

  -- the outcome of a text in front of which a string stands
  abbrev pub outcome : Text → Outcome (List Spelled)
  outcome q = run (next white_space) (slip white_space) [] start q

  not_early : (t : Text) (stop : Stopped (next white_space) (slip white_space) [] start (0x7B ∷ t)) → Enough stop.front
  not_early t stop = by stop.front stop.at stop.more stop.state stop.parts stop.reached stop.halts
    where
      by : (f : Text) (c : ℕ) (m : Text) (s : State) → 0x7B ∷ t ≡ f ++ c ∷ m → reach (next white_space) (slip white_space) [] start f ≡ Some s →
          Halts (slip white_space f s c) (next white_space f s c) → Enough f
      by [] c m s parts on h =
          let is : 0x7B ≡ c = cc in
          let same : start ≡ s = cc in
          absurd (subst (λ z. Halts (slip white_space [] z 0x7B) (next white_space [] z 0x7B)) (sym same)
          (subst (λ d. Halts (slip white_space [] s d) (next white_space [] s d)) (sym is) h))
      by (d ∷ f) c m s parts on h = (λ e. (let e' = e in cc), λ e. (let d_is : d ≡ 0x5B = cc in let is : 0x7B ≡ d = cc in absurd (omega (arith, d_is, is))))

  pub string_answered : (t : Text) → HasOutcome (StringRead white_space) (StringShape white_space) Slips (0x7B ∷ t) (outcome (0x7B ∷ t))
  string_answered t =
      answered (next white_space) (slip white_space) start (StringShape white_space) Slips string_machine AllFit
      (λ q v r h. read_fits (next white_space) (slip white_space) Fine AllFit good [] q start v r tt h) fits_no_slip (StringRead white_space) (0x7B ∷ t)
      (λ v r. (
        λ read. (F.read_got (run (next white_space) free [] start (0x7B ∷ t)) v r (shape_is_read white_space apart (0x7B ∷ t) [] ∙ read.shape), read.fits),
        λ (read, fits). record { shape = sym (shape_is_read white_space apart (0x7B ∷ t) []) ∙ ap (λ o. read_whole o) read; fits = fits },
      ))
      enough (not_early t)
    where
      enough : Enough (0x7B ∷ t)
      enough = (λ e. (let e' = e in cc), λ e. (let is : ◌≡◌ {A = ℕ} 0x7B 0x5B = cc in absurd (omega (arith, is))))

pub one_string_law : (white_space : ℕ → Bool) → Apart white_space → (t : Text) →
    (o : Outcome (List Spelled)) × HasOutcome (StringRead white_space) (StringShape white_space) (StringSlips white_space) (0x7B ∷ t) o
one_string_law white_space apart t = (outcome white_space apart (0x7B ∷ t), string_answered white_space apart t)

pub string_is : (white_space : ℕ → Bool) (apart : Apart white_space) (t : Text) → (one_string_law white_space apart t).0 ≡ outcome white_space apart (0x7B ∷ t)
unfolding one_string_law
string_is white_space apart t = refl
