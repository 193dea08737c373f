-- The machine of properties, and that what begins as a property has one outcome.
use Rattle.std.proofs.Common.{◌≡◌, ℕ, Bool, true, false, cond, [], ◌∷◌, ◌++◌, Option, Some, None, refl, sym, ap, ◌∙◌, subst, inl, inr, append_assoc, append-nil, arith}
use mathlib.Core.Logic.{◌⊎◌}
use Rattle.std.specs.Prelude.{◌==◌, not, if◌then◌else◌}
use Rattle.std.proofs.lemmas.Bool.{eqb-true}
use Rattle.uset_grammar.specs.Text.{Text, ◌>>=◌, behind_code}
use Rattle.uset_grammar.specs.Outcome.{HasOutcome, Kind, Outcome, got, Enough, NoSlip}
use Rattle.uset_grammar.proofs.Binding.{bind_assoc, bind_none}
use Rattle.uset_grammar.proofs.UnitMachineOutcome.{Describes, goes_within, answered}
use Rattle.uset_grammar.proofs.UnitMachine.{Next, goes, whole, refuses, Slip, turn, Halts, run, reach, Stopped, free, run_on, whole_from, Keeps, read_fits}
use Rattle.uset_grammar.specs.Property.{is_key, Query, Form, posix, perl, mark, up_to, no_value, with_value, query, closed, without_white, inner, caret_or, perl_shape, property_shape, PropertyShape, unresolved, PropertyRead, PropertySlips, posix_mark, perl_mark}
use Rattle.uset_grammar.proofs.EscapeMachine.{read_whole}
use Rattle.uset_grammar.proofs.EscapeMachineMeaning.{read_got}

-- What a property awaits.
pub data State : Type 0 where
  start : State
  colon : State
  caret_due : State
  letter : State
  brace : Bool → State
  in_key : Form → Bool → Text → State
  in_value : Form → Bool → ℕ → Text → Text → State
  bracket : Query → State

abbrev pub done : Form → Query → Next State Query
done posix n = goes (bracket n)
done perl n = whole n

abbrev pub done_or : Form → Option Query → Next State Query
done_or form None = refuses
done_or form (Some n) = done form n

-- a value may come behind a key that isn't empty
abbrev pub to_value : Form → Bool → Text → Next State Query
to_value form negated [] = refuses
to_value form negated (c ∷ key) = goes (in_value form negated c key [])

module _ (white_space : ℕ → Bool) where
  abbrev pub next_key : Form → Bool → Text → ℕ → Next State Query
  next_key form negated key c =
      if c == mark form then done_or form (no_value negated key)
      else if white_space c then goes (in_key form negated key)
      else if is_key c then goes (in_key form negated (key ++ c ∷ []))
      else if c == 0x3D then to_value form negated key
      else if c == 0x2260 then to_value form (not negated) key
      else refuses

  abbrev pub next : Text → State → ℕ → Next State Query
  next p start c = if c == 0x5B then goes colon else if c == 0x5C then goes letter else refuses
  next p colon c = if c == 0x3A then goes caret_due else refuses
  next p caret_due c = if c == 0x5E then goes (in_key posix true []) else next_key posix false [] c
  next p letter c = if c == 0x70 then goes (brace false) else if c == 0x50 then goes (brace true) else refuses
  next p (brace negated) c = if c == 0x7B then goes (in_key perl negated []) else refuses
  next p (in_key form negated key) c = next_key form negated key c
  next p (in_value form negated d key value) c =
      if c == mark form then done_or form (with_value negated (d ∷ key) value)
      else if white_space c then goes (in_value form negated d key value)
      else goes (in_value form negated d key (value ++ c ∷ []))
  next p (bracket n) c = if c == 0x5D then whole n else refuses

  -- behind what was read of a key, or of a value
  abbrev key_rest : Form → Bool → Text → Text × Text → Option (Query × Text)
  key_rest form negated key p = query negated key (without_white white_space p.0) >>= λ n. closed form n p.1

  abbrev value_rest : Form → Bool → Text → Text → Text × Text → Option (Query × Text)
  value_rest form negated key value p = with_value negated key (value ++ without_white white_space p.0) >>= λ n. closed form n p.1

  bracket_read : (p t : Text) (n : Query) → read_whole (run next free p (bracket n) t) ≡ closed posix n t
  bracket_read p [] n = refl
  bracket_read p (c ∷ t) n = by (c == 0x5D)
    where
      by : (b : Bool) → read_whole (turn None (cond b (whole n) refuses) (λ s'. run next free (p ++ c ∷ []) s' t) p c t) ≡ (cond b (Some t) None >>= λ u. Some (n, u))
      by true = refl
      by false = refl

  done_read : (form : Form) (o : Option Query) (p t : Text) (c : ℕ) → read_whole (turn None (done_or form o) (λ s'. run next free (p ++ c ∷ []) s' t) p c t) ≡ (o >>= λ n. closed form n t)
  done_read form None p t c = refl
  done_read posix (Some n) p t c = bracket_read (p ++ c ∷ []) t n
  done_read perl (Some n) p t c = refl

  abbrev Reads : Text → Type 0
  Reads t =
      ((p : Text) (form : Form) (negated : Bool) (key : Text) → read_whole (run next free p (in_key form negated key) t) ≡ (up_to (mark form) t >>= key_rest form negated key))
      × ((p : Text) (form : Form) (negated : Bool) (d : ℕ) (key value : Text) → read_whole (run next free p (in_value form negated d key value) t) ≡ (up_to (mark form) t >>= value_rest form negated (d ∷ key) value))

  to_value_read : (p t : Text) (c : ℕ) (form : Form) (negated : Bool) (key : Text) → Reads t →
      read_whole (turn None (to_value form negated key) (λ s'. run next free (p ++ c ∷ []) s' t) p c t) ≡ (up_to (mark form) t >>= value_rest form negated key [])
  to_value_read p t c form negated [] ih = sym (bind_none (up_to (mark form) t))
  to_value_read p t c form negated (d ∷ key) ih = ih.1 (p ++ c ∷ []) form negated d key []

  key_by : (p t : Text) (c : ℕ) (form : Form) (negated : Bool) (key : Text) (m w k e u : Bool) → white_space c ≡ w → is_key c ≡ k → (c == 0x3D) ≡ e → (c == 0x2260) ≡ u → Reads t →
      read_whole (turn None (cond m (done_or form (no_value negated key)) (cond w (goes (in_key form negated key)) (cond k (goes (in_key form negated (key ++ c ∷ [])))
      (cond e (to_value form negated key) (cond u (to_value form (not negated) key) refuses))))) (λ s'. run next free (p ++ c ∷ []) s' t) p c t)
      ≡ (cond m (Some ([], t)) (up_to (mark form) t >>= λ p. Some (c ∷ p.0, p.1)) >>= key_rest form negated key)
  key_by p t c form negated key true w k e u ew ek ee eu ih = done_read form (no_value negated key) p t c
  key_by p t c form negated key false true k e u ew ek ee eu ih =
      ih.0 (p ++ c ∷ []) form negated key ∙ sym (bind_assoc (up_to (mark form) t) (λ p. Some (c ∷ p.0, p.1)) (key_rest form negated key)
      ∙ (λ i. up_to (mark form) t >>= λ p. query negated key (cond (ew i) (without_white white_space p.0) (c ∷ without_white white_space p.0)) >>= λ n. closed form n p.1))
  key_by p t c form negated key false false true e u ew ek ee eu ih =
      ih.0 (p ++ c ∷ []) form negated (key ++ c ∷ []) ∙ sym (bind_assoc (up_to (mark form) t) (λ p. Some (c ∷ p.0, p.1)) (key_rest form negated key)
      ∙ ((λ i. up_to (mark form) t >>= λ p. query negated key (cond (ew i) (without_white white_space p.0) (c ∷ without_white white_space p.0)) >>= λ n. closed form n p.1)
      ∙ (λ i. up_to (mark form) t >>= λ p. cond (ek i) (query negated (key ++ c ∷ []) (without_white white_space p.0))
      (cond (c == 0x3D) (with_value negated key (without_white white_space p.0)) (cond (c == 0x2260) (with_value (not negated) key (without_white white_space p.0)) None)) >>= λ n. closed form n p.1)))
  key_by p t c form negated key false false false true u ew ek ee eu ih =
      to_value_read p t c form negated key ih ∙ sym (bind_assoc (up_to (mark form) t) (λ p. Some (c ∷ p.0, p.1)) (key_rest form negated key)
      ∙ ((λ i. up_to (mark form) t >>= λ p. query negated key (cond (ew i) (without_white white_space p.0) (c ∷ without_white white_space p.0)) >>= λ n. closed form n p.1)
      ∙ (λ i. up_to (mark form) t >>= λ p. cond (ek i) (query negated (key ++ c ∷ []) (without_white white_space p.0))
      (cond (ee i) (with_value negated key (without_white white_space p.0)) (cond (c == 0x2260) (with_value (not negated) key (without_white white_space p.0)) None)) >>= λ n. closed form n p.1)))
  key_by p t c form negated key false false false false true ew ek ee eu ih =
      to_value_read p t c form (not negated) key ih ∙ sym (bind_assoc (up_to (mark form) t) (λ p. Some (c ∷ p.0, p.1)) (key_rest form negated key)
      ∙ ((λ i. up_to (mark form) t >>= λ p. query negated key (cond (ew i) (without_white white_space p.0) (c ∷ without_white white_space p.0)) >>= λ n. closed form n p.1)
      ∙ (λ i. up_to (mark form) t >>= λ p. cond (ek i) (query negated (key ++ c ∷ []) (without_white white_space p.0))
      (cond (ee i) (with_value negated key (without_white white_space p.0)) (cond (eu i) (with_value (not negated) key (without_white white_space p.0)) None)) >>= λ n. closed form n p.1)))
  key_by p t c form negated key false false false false false ew ek ee eu ih =
      sym (bind_assoc (up_to (mark form) t) (λ p. Some (c ∷ p.0, p.1)) (key_rest form negated key)
      ∙ ((λ i. up_to (mark form) t >>= λ p. query negated key (cond (ew i) (without_white white_space p.0) (c ∷ without_white white_space p.0)) >>= λ n. closed form n p.1)
      ∙ ((λ i. up_to (mark form) t >>= λ p. cond (ek i) (query negated (key ++ c ∷ []) (without_white white_space p.0))
      (cond (ee i) (with_value negated key (without_white white_space p.0)) (cond (eu i) (with_value (not negated) key (without_white white_space p.0)) None)) >>= λ n. closed form n p.1)
      ∙ bind_none (up_to (mark form) t))))

  value_by : (p t : Text) (c : ℕ) (form : Form) (negated : Bool) (d : ℕ) (key value : Text) (m w : Bool) → white_space c ≡ w → Reads t →
      read_whole (turn None (cond m (done_or form (with_value negated (d ∷ key) value)) (cond w (goes (in_value form negated d key value)) (goes (in_value form negated d key (value ++ c ∷ [])))))
      (λ s'. run next free (p ++ c ∷ []) s' t) p c t)
      ≡ (cond m (Some ([], t)) (up_to (mark form) t >>= λ p. Some (c ∷ p.0, p.1)) >>= value_rest form negated (d ∷ key) value)
  value_by p t c form negated d key value true w ew ih =
      done_read form (with_value negated (d ∷ key) value) p t c ∙ ap (λ v. with_value negated (d ∷ key) v >>= λ n. closed form n t) (sym (append-nil value))
  value_by p t c form negated d key value false true ew ih =
      ih.1 (p ++ c ∷ []) form negated d key value ∙ sym (bind_assoc (up_to (mark form) t) (λ p. Some (c ∷ p.0, p.1)) (value_rest form negated (d ∷ key) value)
      ∙ (λ i. up_to (mark form) t >>= λ p. with_value negated (d ∷ key) (value ++ cond (ew i) (without_white white_space p.0) (c ∷ without_white white_space p.0)) >>= λ n. closed form n p.1))
  value_by p t c form negated d key value false false ew ih =
      ih.1 (p ++ c ∷ []) form negated d key (value ++ c ∷ []) ∙ sym (bind_assoc (up_to (mark form) t) (λ p. Some (c ∷ p.0, p.1)) (value_rest form negated (d ∷ key) value)
      ∙ ((λ i. up_to (mark form) t >>= λ p. with_value negated (d ∷ key) (value ++ cond (ew i) (without_white white_space p.0) (c ∷ without_white white_space p.0)) >>= λ n. closed form n p.1)
      ∙ (λ i. up_to (mark form) t >>= λ p. with_value negated (d ∷ key) (sym (append_assoc value (c ∷ []) (without_white white_space p.0)) i) >>= λ n. closed form n p.1)))

  reads : (t : Text) → Reads t
  reads [] = (λ p form negated key. refl, λ p form negated d key value. refl)
  reads (c ∷ t) =
      let ih = reads t in (
        λ p form negated key. key_by p t c form negated key (c == mark form) (white_space c) (is_key c) (c == 0x3D) (c == 0x2260) refl refl refl refl ih,
        λ p form negated d key value. value_by p t c form negated d key value (c == mark form) (white_space c) refl ih,
      )

  caret_by : (p t : Text) (c : ℕ) (b : Bool) → (c == 0x5E) ≡ b →
      read_whole (turn None (cond b (goes (in_key posix true [])) (next_key posix false [] c)) (λ s'. run next free (p ++ c ∷ []) s' t) p c t)
      ≡ caret_or white_space (c ∷ t) (cond b (Some t) None)
  caret_by p t c true e = (reads t).0 (p ++ c ∷ []) posix true []
  caret_by p t c false e = (reads (c ∷ t)).0 p posix false []

  caret_read : (p t : Text) → read_whole (run next free p caret_due t) ≡ caret_or white_space t (behind_code 0x5E t)
  caret_read p [] = refl
  caret_read p (c ∷ t) = caret_by p t c (c == 0x5E) refl

  colon_by : (p t : Text) (c : ℕ) (b : Bool) →
      read_whole (turn None (cond b (goes caret_due) refuses) (λ s'. run next free (p ++ c ∷ []) s' t) p c t) ≡ (cond b (Some t) None >>= λ u. caret_or white_space u (behind_code 0x5E u))
  colon_by p t c true = caret_read (p ++ c ∷ []) t
  colon_by p t c false = refl

  colon_read : (p t : Text) → read_whole (run next free p colon t) ≡ (behind_code 0x3A t >>= λ u. caret_or white_space u (behind_code 0x5E u))
  colon_read p [] = refl
  colon_read p (c ∷ t) = colon_by p t c (c == 0x3A)

  brace_by : (p t : Text) (c : ℕ) (negated b : Bool) →
      read_whole (turn None (cond b (goes (in_key perl negated [])) refuses) (λ s'. run next free (p ++ c ∷ []) s' t) p c t) ≡ (cond b (Some t) None >>= inner white_space perl negated)
  brace_by p t c negated true = (reads t).0 (p ++ c ∷ []) perl negated []
  brace_by p t c negated false = refl

  brace_read : (p t : Text) (negated : Bool) → read_whole (run next free p (brace negated) t) ≡ (behind_code 0x7B t >>= inner white_space perl negated)
  brace_read p [] negated = refl
  brace_read p (c ∷ t) negated = brace_by p t c negated (c == 0x7B)

  letter_by : (p t : Text) (c : ℕ) (a b : Bool) →
      read_whole (turn None (cond a (goes (brace false)) (cond b (goes (brace true)) refuses)) (λ s'. run next free (p ++ c ∷ []) s' t) p c t)
      ≡ cond a (behind_code 0x7B t >>= inner white_space perl false) (cond b (behind_code 0x7B t >>= inner white_space perl true) None)
  letter_by p t c true b = brace_read (p ++ c ∷ []) t false
  letter_by p t c false true = brace_read (p ++ c ∷ []) t true
  letter_by p t c false false = refl

  letter_read : (p t : Text) → read_whole (run next free p letter t) ≡ perl_shape white_space t
  letter_read p [] = refl
  letter_read p (c ∷ t) = letter_by p t c (c == 0x70) (c == 0x50)

  start_by : (p t : Text) (c : ℕ) (a b : Bool) →
      read_whole (turn None (cond a (goes colon) (cond b (goes letter) refuses)) (λ s'. run next free (p ++ c ∷ []) s' t) p c t)
      ≡ cond a (behind_code 0x3A t >>= λ u. caret_or white_space u (behind_code 0x5E u)) (cond b (perl_shape white_space t) None)
  start_by p t c true b = colon_read (p ++ c ∷ []) t
  start_by p t c false true = letter_read (p ++ c ∷ []) t
  start_by p t c false false = refl

  pub shape_is_read : (t p : Text) → read_whole (run next free p start t) ≡ property_shape white_space t
  shape_is_read [] p = refl
  shape_is_read (c ∷ t) p = start_by p t c (c == 0x5B) (c == 0x5C)

  -- each state goes on to a whole shape
  abbrev Completes : Text → State → Type 0
  Completes p s = (u : Text) × (v : Query) × (run next free p s u ≡ got v [])

  ends_key : (p : Text) (form : Form) (negated : Bool) (d : ℕ) (key : Text) → Completes p (in_key form negated (d ∷ key))
  ends_key p posix negated d key = (0x3A ∷ 0x5D ∷ [], record { negated = negated; key = d ∷ key; value = None }, refl)
  ends_key p perl negated d key = (0x7D ∷ [], record { negated = negated; key = d ∷ key; value = None }, refl)

  a_key : (p : Text) (form : Form) (negated : Bool) → white_space 0x61 ≡ false → next p (in_key form negated []) 0x61 ≡ goes (in_key form negated (0x61 ∷ []))
  unfolding is_key
  a_key p posix negated h = rw h refl
  a_key p perl negated h = rw h refl

  completes_key : (p : Text) (form : Form) (negated : Bool) (key : Text) → white_space 0x61 ≡ false → Completes p (in_key form negated key)
  completes_key p form negated (d ∷ key) h = ends_key p form negated d key
  completes_key p form negated [] h =
      let more = ends_key (p ++ 0x61 ∷ []) form negated 0x61 [] in
      (0x61 ∷ more.0, more.1, ap (λ n. turn None n (λ s'. run next free (p ++ 0x61 ∷ []) s' more.0) p 0x61 more.0) (a_key p form negated h) ∙ more.2)

  in_front_of : (p : Text) (s e : State) (c : ℕ) → next p s c ≡ goes e → Completes (p ++ c ∷ []) e → Completes p s
  in_front_of p s e c h more = (c ∷ more.0, more.1, ap (λ n. turn None n (λ s'. run next free (p ++ c ∷ []) s' more.0) p c more.0) h ∙ more.2)

  ends_value : (p : Text) (form : Form) (negated : Bool) (d : ℕ) (key : Text) (c : ℕ) (value : Text) → Completes p (in_value form negated d key (c ∷ value))
  ends_value p posix negated d key c value = (0x3A ∷ 0x5D ∷ [], record { negated = negated; key = d ∷ key; value = Some (c ∷ value) }, refl)
  ends_value p perl negated d key c value = (0x7D ∷ [], record { negated = negated; key = d ∷ key; value = Some (c ∷ value) }, refl)

  a_value : (p : Text) (form : Form) (negated : Bool) (d : ℕ) (key : Text) → white_space 0x61 ≡ false → next p (in_value form negated d key []) 0x61 ≡ goes (in_value form negated d key (0x61 ∷ []))
  a_value p posix negated d key h = rw h refl
  a_value p perl negated d key h = rw h refl

  completes_value : (p : Text) (form : Form) (negated : Bool) (d : ℕ) (key value : Text) → white_space 0x61 ≡ false → Completes p (in_value form negated d key value)
  completes_value p form negated d key (c ∷ value) h = ends_value p form negated d key c value
  completes_value p form negated d key [] h =
      in_front_of p (in_value form negated d key []) (in_value form negated d key (0x61 ∷ [])) 0x61 (a_value p form negated d key h) (ends_value (p ++ 0x61 ∷ []) form negated d key 0x61 [])

  completes_law : white_space 0x61 ≡ false → (p : Text) (s : State) → Completes p s
  completes_law h p start = in_front_of p start colon 0x5B refl (in_front_of (p ++ 0x5B ∷ []) colon caret_due 0x3A refl
      (in_front_of ((p ++ 0x5B ∷ []) ++ 0x3A ∷ []) caret_due (in_key posix true []) 0x5E refl (completes_key (((p ++ 0x5B ∷ []) ++ 0x3A ∷ []) ++ 0x5E ∷ []) posix true [] h)))
  completes_law h p colon = in_front_of p colon caret_due 0x3A refl
      (in_front_of (p ++ 0x3A ∷ []) caret_due (in_key posix true []) 0x5E refl (completes_key ((p ++ 0x3A ∷ []) ++ 0x5E ∷ []) posix true [] h))
  completes_law h p caret_due = in_front_of p caret_due (in_key posix true []) 0x5E refl (completes_key (p ++ 0x5E ∷ []) posix true [] h)
  completes_law h p letter = in_front_of p letter (brace false) 0x70 refl
      (in_front_of (p ++ 0x70 ∷ []) (brace false) (in_key perl false []) 0x7B refl (completes_key ((p ++ 0x70 ∷ []) ++ 0x7B ∷ []) perl false [] h))
  completes_law h p (brace negated) = in_front_of p (brace negated) (in_key perl negated []) 0x7B refl (completes_key (p ++ 0x7B ∷ []) perl negated [] h)
  completes_law h p (in_key form negated key) = completes_key p form negated key h
  completes_law h p (in_value form negated d key value) = completes_value p form negated d key value h
  completes_law h p (bracket n) = (0x5D ∷ [], n, refl)

  module _ (resolves lacks : Query → Bool) where
    abbrev pub mark_slip : Text → Query → Slip
    mark_slip p n = if resolves n then None else Some (unresolved white_space resolves lacks n, p)

    -- an end mark slips where what it ends resolves to nothing
    abbrev pub slip_by : Text → Next State Query → Slip
    slip_by p (goes start) = None
    slip_by p (goes colon) = None
    slip_by p (goes caret_due) = None
    slip_by p (goes letter) = None
    slip_by p (goes (brace negated)) = None
    slip_by p (goes (in_key form negated key)) = None
    slip_by p (goes (in_value form negated d key value)) = None
    slip_by p (goes (bracket n)) = mark_slip p n
    slip_by p (whole n) = mark_slip p n
    slip_by p refuses = None

    abbrev pub slip : Text → State → ℕ → Slip
    slip p start c = None
    slip p colon c = None
    slip p caret_due c = slip_by p (next p caret_due c)
    slip p letter c = None
    slip p (brace negated) c = None
    slip p (in_key form negated key) c = slip_by p (next p (in_key form negated key) c)
    slip p (in_value form negated d key value) c = slip_by p (next p (in_value form negated d key value) c)
    slip p (bracket n) c = None

  -- WHERE IT SLIPS
  abbrev Tells : ℕ → Next State Query → Type 0
  Tells c (goes (bracket n)) = c ≡ 0x3A
  Tells c (whole n) = c ≡ 0x7D
  Tells c (goes start) = Unit {0}
  Tells c (goes colon) = Unit {0}
  Tells c (goes caret_due) = Unit {0}
  Tells c (goes letter) = Unit {0}
  Tells c (goes (brace negated)) = Unit {0}
  Tells c (goes (in_key form negated key)) = Unit {0}
  Tells c (goes (in_value form negated d key value)) = Unit {0}
  Tells c refuses = Unit {0}

  tells_done : (form : Form) (o : Option Query) (c : ℕ) → c ≡ mark form → Tells c (done_or form o)
  tells_done form None c h = tt
  tells_done posix (Some n) c h = h
  tells_done perl (Some n) c h = h

  tells_to_value : (form : Form) (negated : Bool) (key : Text) (c : ℕ) → Tells c (to_value form negated key)
  tells_to_value form negated [] c = tt
  tells_to_value form negated (d ∷ key) c = tt

  tells_key : (form : Form) (negated : Bool) (key : Text) (c : ℕ) (m w k e u : Bool) → (c == mark form) ≡ m →
      Tells c (cond m (done_or form (no_value negated key)) (cond w (goes (in_key form negated key)) (cond k (goes (in_key form negated (key ++ c ∷ [])))
      (cond e (to_value form negated key) (cond u (to_value form (not negated) key) refuses)))))
  tells_key form negated key c true w k e u h = tells_done form (no_value negated key) c (eqb-true c (mark form) h)
  tells_key form negated key c false true k e u h = tt
  tells_key form negated key c false false true e u h = tt
  tells_key form negated key c false false false true u h = tells_to_value form negated key c
  tells_key form negated key c false false false false true h = tells_to_value form (not negated) key c
  tells_key form negated key c false false false false false h = tt

  tells_value : (form : Form) (negated : Bool) (d : ℕ) (key value : Text) (c : ℕ) (m w : Bool) → (c == mark form) ≡ m →
      Tells c (cond m (done_or form (with_value negated (d ∷ key) value)) (cond w (goes (in_value form negated d key value)) (goes (in_value form negated d key (value ++ c ∷ [])))))
  tells_value form negated d key value c true w h = tells_done form (with_value negated (d ∷ key) value) c (eqb-true c (mark form) h)
  tells_value form negated d key value c false true h = tt
  tells_value form negated d key value c false false h = tt

  key_tells : (p : Text) (form : Form) (negated : Bool) (key : Text) (c : ℕ) → Tells c (next_key form negated key c)
  key_tells p form negated key c = tells_key form negated key c (c == mark form) (white_space c) (is_key c) (c == 0x3D) (c == 0x2260) refl

  tells_caret : (p : Text) (c : ℕ) (b : Bool) → Tells c (cond b (goes (in_key posix true [])) (next_key posix false [] c))
  tells_caret p c true = tt
  tells_caret p c false = key_tells p posix false [] c

  goes_from : (p : Text) (c d : ℕ) (v : Query) (n : Next State Query) (go : State → Outcome Query) → turn None n go p c (d ∷ []) ≡ got v [] → (e : State) × (n ≡ goes e) × (go e ≡ got v [])
  goes_from p c d v (goes s) go e = (s, refl, e)
  goes_from p c d v (whole w) go e = absurd (let f = e in cc)
  goes_from p c d v refuses go e = absurd (let f = e in cc)

  no_whole_key : (form : Form) (negated : Bool) (key : Text) (n : Query) → next_key form negated key 0x5D ≡ whole n → ⊥
  no_whole_key posix negated key n h = by (white_space 0x5D) (is_key 0x5D) h
    where
      by : (w k : Bool) → cond w (goes (in_key posix negated key)) (cond k (goes (in_key posix negated (key ++ 0x5D ∷ []))) refuses) ≡ whole n → ⊥
      by true k h = cc
      by false true h = cc
      by false false h = cc
  no_whole_key perl negated key n h = by (white_space 0x5D) (is_key 0x5D) h
    where
      by : (w k : Bool) → cond w (goes (in_key perl negated key)) (cond k (goes (in_key perl negated (key ++ 0x5D ∷ []))) refuses) ≡ whole n → ⊥
      by true k h = cc
      by false true h = cc
      by false false h = cc

  no_whole_value : (form : Form) (negated : Bool) (d : ℕ) (key value : Text) (w : Bool) (n : Query) →
      cond w (goes (in_value form negated d key value)) (goes (in_value form negated d key (value ++ 0x5D ∷ []))) ≡ whole n → ⊥
  no_whole_value form negated d key value true n h = cc
  no_whole_value form negated d key value false n h = cc

  -- a closing bracket ends what awaits one, alone
  ends_bracket : (p : Text) (s : State) (n : Query) → next p s 0x5D ≡ whole n → s ≡ bracket n
  ends_bracket p start n h = absurd (let e = h in cc)
  ends_bracket p colon n h = absurd (let e = h in cc)
  ends_bracket p caret_due n h = absurd (no_whole_key posix false [] n h)
  ends_bracket p letter n h = absurd (let e = h in cc)
  ends_bracket p (brace negated) n h = absurd (let e = h in cc)
  ends_bracket p (in_key form negated key) n h = absurd (no_whole_key form negated key n h)
  ends_bracket p (in_value posix negated d key value) n h = absurd (no_whole_value posix negated d key value (white_space 0x5D) n h)
  ends_bracket p (in_value perl negated d key value) n h = absurd (no_whole_value perl negated d key value (white_space 0x5D) n h)
  ends_bracket p (bracket m) n h = let e : m ≡ n = cc in ap (λ z. bracket z) e

  module _ (resolves lacks : Query → Bool) where
    abbrev Slips : Text → ℕ → Kind → Text → Type 0
    Slips = PropertySlips white_space resolves lacks

    abbrev SlipsHere : Text → ℕ → Kind → Text → Type 0
    SlipsHere p c k b = (s : State) × (reach next free [] start p ≡ Some s) × (slip resolves lacks p s c ≡ Some (k, b))

    marked : (p : Text) (n : Query) → resolves n ≡ false → mark_slip resolves lacks p n ≡ Some (unresolved white_space resolves lacks n, p)
    marked p n h = rw h refl

    slip_posix : (t : Text) (s : State) (n : Query) → reach next free [] start t ≡ Some s → next t s 0x3A ≡ goes (bracket n) → resolves n ≡ false → SlipsHere t 0x3A (unresolved white_space resolves lacks n) t
    slip_posix t start n on h r = absurd (let e = h in cc)
    slip_posix t colon n on h r = absurd (let e = h in cc)
    slip_posix t letter n on h r = absurd (let e = h in cc)
    slip_posix t (brace negated) n on h r = absurd (let e = h in cc)
    slip_posix t (bracket m) n on h r = absurd (let e = h in cc)
    slip_posix t caret_due n on h r = (caret_due, on, ap (slip_by resolves lacks t) h ∙ marked t n r)
    slip_posix t (in_key form negated key) n on h r = (in_key form negated key, on, ap (slip_by resolves lacks t) h ∙ marked t n r)
    slip_posix t (in_value form negated d key value) n on h r = (in_value form negated d key value, on, ap (slip_by resolves lacks t) h ∙ marked t n r)

    slip_perl : (t : Text) (s : State) (n : Query) → reach next free [] start t ≡ Some s → next t s 0x7D ≡ whole n → resolves n ≡ false → SlipsHere t 0x7D (unresolved white_space resolves lacks n) t
    slip_perl t start n on h r = absurd (let e = h in cc)
    slip_perl t colon n on h r = absurd (let e = h in cc)
    slip_perl t letter n on h r = absurd (let e = h in cc)
    slip_perl t (brace negated) n on h r = absurd (let e = h in cc)
    slip_perl t (bracket m) n on h r = absurd (let e = h in cc)
    slip_perl t caret_due n on h r = (caret_due, on, ap (slip_by resolves lacks t) h ∙ marked t n r)
    slip_perl t (in_key form negated key) n on h r = (in_key form negated key, on, ap (slip_by resolves lacks t) h ∙ marked t n r)
    slip_perl t (in_value form negated d key value) n on h r = (in_value form negated d key value, on, ap (slip_by resolves lacks t) h ∙ marked t n r)

    slip_at_law : (p : Text) (c : ℕ) (k : Kind) (b : Text) → Slips p c k b → SlipsHere p c k b
    slip_at_law t _ _ _ (posix_mark {n} shape r) =
        let read = read_got (run next free [] start (t ++ 0x3A ∷ 0x5D ∷ [])) n [] (shape_is_read (t ++ 0x3A ∷ 0x5D ∷ []) [] ∙ shape) in
        let on = goes_within next free start t (0x5D ∷ []) 0x3A n read in
        let two = goes_from t 0x3A 0x5D n (next t on.0 0x3A) (λ s'. run next free (t ++ 0x3A ∷ []) s' (0x5D ∷ []))
        (sym (run_on next free [] t (0x3A ∷ 0x5D ∷ []) start on.0 on.1) ∙ read) in
        let one = whole_from (t ++ 0x3A ∷ []) 0x5D n (next (t ++ 0x3A ∷ []) two.0 0x5D) (λ s'. run next free ((t ++ 0x3A ∷ []) ++ 0x5D ∷ []) s' []) (λ s. refl) two.2 in
        slip_posix t on.0 n on.1 (two.1 ∙ ap (λ z. goes z) (ends_bracket (t ++ 0x3A ∷ []) two.0 n one)) r
    slip_at_law t _ _ _ (perl_mark {n} shape r) =
        let read = read_got (run next free [] start (t ++ 0x7D ∷ [])) n [] (shape_is_read (t ++ 0x7D ∷ []) [] ∙ shape) in
        let on = goes_within next free start t [] 0x7D n read in
        slip_perl t on.0 n on.1 (whole_from t 0x7D n (next t on.0 0x7D) (λ s'. run next free (t ++ 0x7D ∷ []) s' []) (λ s. refl)
        (sym (run_on next free [] t (0x7D ∷ []) start on.0 on.1) ∙ read)) r

    mark_some : (p : Text) (n : Query) (y : Kind × Text) → mark_slip resolves lacks p n ≡ Some y → resolves n ≡ false
    mark_some p n y h = by (resolves n) refl h
      where
        by : (z : Bool) → resolves n ≡ z → cond z None (Some (unresolved white_space resolves lacks n, p)) ≡ Some y → resolves n ≡ false
        by true e h = absurd (let f = h in cc)
        by false e h = e

    mark_none : (p : Text) (n : Query) → mark_slip resolves lacks p n ≡ None → resolves n ≡ true
    mark_none p n h = by (resolves n) refl h
      where
        by : (z : Bool) → resolves n ≡ z → cond {A = Slip} z None (Some (unresolved white_space resolves lacks n, p)) ≡ None → resolves n ≡ true
        by true e h = e
        by false e h = absurd (let f = h in cc)

    abbrev Fits : Text → ℕ → Slip → Type 0
    Fits p c None = Unit {0}
    Fits p c (Some x) = Slips p c x.0 x.1

    posix_here : (p : Text) (s : State) (c : ℕ) (n : Query) → reach next free [] start p ≡ Some s → next p s c ≡ goes (bracket n) → c ≡ 0x3A → resolves n ≡ false → Slips p c (unresolved white_space resolves lacks n) p
    posix_here p s c n on h is r =
        let shape : property_shape white_space (p ++ c ∷ 0x5D ∷ []) ≡ Some (n, []) =
        sym (shape_is_read (p ++ c ∷ 0x5D ∷ []) []) ∙ ap (λ o. read_whole o) (run_on next free [] p (c ∷ 0x5D ∷ []) start s on
        ∙ ap (λ m. turn None m (λ s'. run next free (p ++ c ∷ []) s' (0x5D ∷ [])) p c (0x5D ∷ [])) h) in
        subst (λ z. Slips p z (unresolved white_space resolves lacks n) p) (sym is)
        (posix_mark (ap (λ z. property_shape white_space (p ++ z ∷ 0x5D ∷ [])) (sym is) ∙ shape) r)

    perl_here : (p : Text) (s : State) (c : ℕ) (n : Query) → reach next free [] start p ≡ Some s → next p s c ≡ whole n → c ≡ 0x7D → resolves n ≡ false → Slips p c (unresolved white_space resolves lacks n) p
    perl_here p s c n on h is r =
        let shape : property_shape white_space (p ++ c ∷ []) ≡ Some (n, []) =
        sym (shape_is_read (p ++ c ∷ []) []) ∙ ap (λ o. read_whole o) (run_on next free [] p (c ∷ []) start s on
        ∙ ap (λ m. turn None m (λ s'. run next free (p ++ c ∷ []) s' []) p c []) h) in
        subst (λ z. Slips p z (unresolved white_space resolves lacks n) p) (sym is)
        (perl_mark (ap (λ z. property_shape white_space (p ++ z ∷ [])) (sym is) ∙ shape) r)

    fits_mark : (p : Text) (c : ℕ) (n : Query) → (resolves n ≡ false → Slips p c (unresolved white_space resolves lacks n) p) → Fits p c (mark_slip resolves lacks p n)
    fits_mark p c n f = by (resolves n) refl
      where
        by : (z : Bool) → resolves n ≡ z → Fits p c (cond z None (Some (unresolved white_space resolves lacks n, p)))
        by true e = tt
        by false e = f e

    fits_by : (p : Text) (s : State) (c : ℕ) (m : Next State Query) → reach next free [] start p ≡ Some s → next p s c ≡ m → Tells c m → Fits p c (slip_by resolves lacks p m)
    fits_by p s c (goes start) on e h = tt
    fits_by p s c (goes colon) on e h = tt
    fits_by p s c (goes caret_due) on e h = tt
    fits_by p s c (goes letter) on e h = tt
    fits_by p s c (goes (brace negated)) on e h = tt
    fits_by p s c (goes (in_key form negated key)) on e h = tt
    fits_by p s c (goes (in_value form negated d key value)) on e h = tt
    fits_by p s c refuses on e h = tt
    fits_by p s c (goes (bracket n)) on e h = fits_mark p c n (λ r. posix_here p s c n on e h r)
    fits_by p s c (whole n) on e h = fits_mark p c n (λ r. perl_here p s c n on e h r)

    fits : (p : Text) (s : State) (c : ℕ) → reach next free [] start p ≡ Some s → Fits p c (slip resolves lacks p s c)
    fits p start c on = tt
    fits p colon c on = tt
    fits p letter c on = tt
    fits p (brace negated) c on = tt
    fits p (bracket n) c on = tt
    fits p caret_due c on = fits_by p caret_due c (next p caret_due c) on refl (tells_caret p c (c == 0x5E))
    fits p (in_key form negated key) c on = fits_by p (in_key form negated key) c (next p (in_key form negated key) c) on refl (key_tells p form negated key c)
    fits p (in_value form negated d key value) c on =
        fits_by p (in_value form negated d key value) c (next p (in_value form negated d key value) c) on refl
        (tells_value form negated d key value c (c == mark form) (white_space c) refl)

    pub property_machine : white_space 0x61 ≡ false → Describes next (slip resolves lacks) start (PropertyShape white_space) Slips
    property_machine h = record {
      read_shape = λ t shape. (shape.0, read_got (run next free [] start t) shape.0 [] (shape_is_read t [] ∙ shape.1));
      shape_read = λ t v read. (v, sym (shape_is_read t []) ∙ ap (λ o. read_whole o) read);
      completes = completes_law h;
      slip_at = slip_at_law;
      at_slip = λ p c k b s on e. subst (Fits p c) e (fits p s c on);
    }

    -- WHAT IS READ WITHOUT A SLIP RESOLVES
    abbrev Fine : State → Type 0
    Fine start = Unit {0}
    Fine colon = Unit {0}
    Fine caret_due = Unit {0}
    Fine letter = Unit {0}
    Fine (brace negated) = Unit {0}
    Fine (in_key form negated key) = Unit {0}
    Fine (in_value form negated d key value) = Unit {0}
    Fine (bracket n) = resolves n ≡ true

    abbrev Good : Next State Query → Type 0
    Good = Keeps Fine (λ n. resolves n ≡ true)

    good_by : (p : Text) (m : Next State Query) → slip_by resolves lacks p m ≡ None → Good m
    good_by p (goes start) h = tt
    good_by p (goes colon) h = tt
    good_by p (goes caret_due) h = tt
    good_by p (goes letter) h = tt
    good_by p (goes (brace negated)) h = tt
    good_by p (goes (in_key form negated key)) h = tt
    good_by p (goes (in_value form negated d key value)) h = tt
    good_by p refuses h = tt
    good_by p (goes (bracket n)) h = mark_none p n h
    good_by p (whole n) h = mark_none p n h

    good_if : (b : Bool) (n m : Next State Query) → Good n → Good m → Good (cond b n m)
    good_if true n m f g = f
    good_if false n m f g = g

    good : (p : Text) (s : State) (c : ℕ) → Fine s → slip resolves lacks p s c ≡ None → Good (next p s c)
    good p start c f h = good_if (c == 0x5B) (goes colon) (cond (c == 0x5C) (goes letter) refuses) tt (good_if (c == 0x5C) (goes letter) refuses tt tt)
    good p colon c f h = good_if (c == 0x3A) (goes caret_due) refuses tt tt
    good p letter c f h = good_if (c == 0x70) (goes (brace false)) (cond (c == 0x50) (goes (brace true)) refuses) tt (good_if (c == 0x50) (goes (brace true)) refuses tt tt)
    good p (brace negated) c f h = good_if (c == 0x7B) (goes (in_key perl negated [])) refuses tt tt
    good p (bracket n) c f h = good_if (c == 0x5D) (whole n) refuses f tt
    good p caret_due c f h = good_by p (next p caret_due c) h
    good p (in_key form negated key) c f h = good_by p (next p (in_key form negated key) c) h
    good p (in_value form negated d key value) c f h = good_by p (next p (in_value form negated d key value) c) h

    -- WHAT RESOLVES HAS NO SLIP
    bracket_got : (p t r : Text) (n v : Query) → run next free p (bracket n) t ≡ got v r → n ≡ v
    bracket_got p [] r n v h = absurd (let e = h in cc)
    bracket_got p (c ∷ t) r n v h = by (c == 0x5D) h
      where
        by : (b : Bool) → turn None (cond b (whole n) refuses) (λ s'. run next free (p ++ c ∷ []) s' t) p c t ≡ got v r → n ≡ v
        by true h = cc
        by false h = absurd (let e = h in cc)

    differs : (n v : Query) → n ≡ v → resolves n ≡ false → resolves v ≡ true → ⊥
    differs n v e h k = let f : false ≡ true = sym h ∙ (ap resolves e ∙ k) in cc

    lost_by : (p u : Text) (c : ℕ) (m : Next State Query) (y : Kind × Text) (v : Query) → slip_by resolves lacks p m ≡ Some y →
        turn None m (λ s'. run next free (p ++ c ∷ []) s' u) p c u ≡ got v [] → resolves v ≡ true → ⊥
    lost_by p u c (goes start) y v h e f = absurd (let g = h in cc)
    lost_by p u c (goes colon) y v h e f = absurd (let g = h in cc)
    lost_by p u c (goes caret_due) y v h e f = absurd (let g = h in cc)
    lost_by p u c (goes letter) y v h e f = absurd (let g = h in cc)
    lost_by p u c (goes (brace negated)) y v h e f = absurd (let g = h in cc)
    lost_by p u c (goes (in_key form negated key)) y v h e f = absurd (let g = h in cc)
    lost_by p u c (goes (in_value form negated d key value)) y v h e f = absurd (let g = h in cc)
    lost_by p u c refuses y v h e f = absurd (let g = h in cc)
    lost_by p u c (goes (bracket n)) y v h e f = differs n v (bracket_got (p ++ c ∷ []) u [] n v e) (mark_some p n y h) f
    lost_by p u c (whole n) y v h e f = let same : n ≡ v = cc in differs n v same (mark_some p n y h) f

    lost : (p u : Text) (s : State) (c : ℕ) (y : Kind × Text) (v : Query) → slip resolves lacks p s c ≡ Some y → run next free p s (c ∷ u) ≡ got v [] → resolves v ≡ true → ⊥
    lost p u start c y v h e f = absurd (let g = h in cc)
    lost p u colon c y v h e f = absurd (let g = h in cc)
    lost p u letter c y v h e f = absurd (let g = h in cc)
    lost p u (brace negated) c y v h e f = absurd (let g = h in cc)
    lost p u (bracket n) c y v h e f = absurd (let g = h in cc)
    lost p u caret_due c y v h e f = lost_by p u c (next p caret_due c) y v h e f
    lost p u (in_key form negated key) c y v h e f = lost_by p u c (next p (in_key form negated key) c) y v h e f
    lost p u (in_value form negated d key value) c y v h e f = lost_by p u c (next p (in_value form negated d key value) c) y v h e f

    fits_no_slip : (unit : Text) (v : Query) → run next free [] start unit ≡ got v [] → resolves v ≡ true → NoSlip Slips unit
    fits_no_slip unit v read f p u c k b parts slips' =
        let at = slip_at_law p c k b slips' in
        lost p u at.0 c (k, b) v at.2 (sym (run_on next free [] p (c ∷ u) start at.0 at.1) ∙ (ap (λ z. run next free [] start z) (sym parts) ∙ read)) f

    abbrev pub outcome : Text → Outcome Query
    outcome q = run next (slip resolves lacks) [] start q

    property_answered : white_space 0x61 ≡ false → (q : Text) → Enough q → ((stop : Stopped next (slip resolves lacks) [] start q) → Enough stop.front) →
        HasOutcome (PropertyRead white_space resolves lacks) (PropertyShape white_space) Slips q (outcome q)
    property_answered l q =
        answered next (slip resolves lacks) start (PropertyShape white_space) Slips (property_machine l) (λ n. resolves n ≡ true)
        (λ q v r h. read_fits next (slip resolves lacks) Fine (λ n. resolves n ≡ true) good [] q start v r tt h) fits_no_slip (PropertyRead white_space resolves lacks) q
        (λ v r. (
          λ read. (read_got (run next free [] start q) v r (shape_is_read q [] ∙ read.shape), read.fits),
          λ (read, fits). record { shape = sym (shape_is_read q []) ∙ ap (λ o. read_whole o) read; fits = fits },
        ))

    -- what the machine reads whatever follows, it doesn't stop at
    not_at : (t f m : Text) (c d : ℕ) (s s' e : State) → d ∷ t ≡ c ∷ m → s ≡ s' → next f s d ≡ goes e → slip resolves lacks f s d ≡ None → Halts (slip resolves lacks f s' c) (next f s' c) → ⊥
    not_at t f m c d s s' e parts same n x h =
        let is : d ≡ c = cc in
        let back = subst (λ z. Halts (slip resolves lacks f z d) (next f z d)) (sym same) (subst (λ z. Halts (slip resolves lacks f s' z) (next f s' z)) (sym is) h) in
        subst (λ z. Halts None z) n (subst (λ z. Halts z (next f s d)) x back)

    posix_early : (t : Text) (stop : Stopped next (slip resolves lacks) [] start (0x5B ∷ 0x3A ∷ t)) → Enough stop.front
    posix_early t stop = by stop.front stop.at stop.more stop.state stop.parts stop.reached stop.halts
      where
        by : (f : Text) (c : ℕ) (m : Text) (s : State) → 0x5B ∷ 0x3A ∷ t ≡ f ++ c ∷ m → reach next (slip resolves lacks) [] start f ≡ Some s →
            Halts (slip resolves lacks f s c) (next f s c) → Enough f
        by [] c m s parts on h = absurd (not_at (0x3A ∷ t) [] m c 0x5B start s colon parts (let same : start ≡ s = cc in same) refl refl h)
        by (a ∷ []) c m s parts on h =
            let is : 0x5B ≡ a = cc in
            let rest : 0x3A ∷ t ≡ c ∷ m = cc in
            let there : Some colon ≡ Some s = ap (λ z. reach next (slip resolves lacks) [] start (z ∷ [])) is ∙ on in
            let same : colon ≡ s = cc in
            absurd (not_at t (a ∷ []) m c 0x3A colon s caret_due rest same refl refl h)
        by (a ∷ b ∷ f) c m s parts on h = (λ e. (let e' = e in cc), λ e. (let e' = e in cc))

    perl_early : (t : Text) (stop : Stopped next (slip resolves lacks) [] start (0x5C ∷ t)) → Enough stop.front
    perl_early t stop = by stop.front stop.at stop.more stop.state stop.parts stop.reached stop.halts
      where
        by : (f : Text) (c : ℕ) (m : Text) (s : State) → 0x5C ∷ t ≡ f ++ c ∷ m → reach next (slip resolves lacks) [] start f ≡ Some s →
            Halts (slip resolves lacks f s c) (next f s c) → Enough f
        by [] c m s parts on h = absurd (not_at t [] m c 0x5C start s letter parts (let same : start ≡ s = cc in same) refl refl h)
        by (a ∷ f) c m s parts on h = (λ e. (let e' = e in cc), λ e. (let a_is : a ≡ 0x5B = cc in let is : 0x5C ≡ a = cc in absurd (omega (arith, a_is, is))))

    posix_answered : white_space 0x61 ≡ false → (t : Text) → HasOutcome (PropertyRead white_space resolves lacks) (PropertyShape white_space) Slips (0x5B ∷ 0x3A ∷ t) (outcome (0x5B ∷ 0x3A ∷ t))
    posix_answered l t = property_answered l (0x5B ∷ 0x3A ∷ t) (λ e. (let e' = e in cc), λ e. (let e' = e in cc)) (posix_early t)

    perl_answered : white_space 0x61 ≡ false → (t : Text) → HasOutcome (PropertyRead white_space resolves lacks) (PropertyShape white_space) Slips (0x5C ∷ t) (outcome (0x5C ∷ t))
    perl_answered l t = property_answered l (0x5C ∷ t) (λ e. (let e' = e in cc), λ e. (let is : ◌≡◌ {A = ℕ} 0x5C 0x5B = cc in absurd (omega (arith, is)))) (perl_early t)

pub one_property_law : (white_space : ℕ → Bool) → white_space 0x61 ≡ false → (resolves lacks : Query → Bool) (q t : Text) → ((q ≡ 0x5B ∷ 0x3A ∷ t) ⊎ (q ≡ 0x5C ∷ t)) →
    (o : Outcome Query) × HasOutcome (PropertyRead white_space resolves lacks) (PropertyShape white_space) (PropertySlips white_space resolves lacks) q o
one_property_law white_space l resolves lacks q t (inl e) = (
  outcome white_space resolves lacks q,
  subst (λ z. HasOutcome (PropertyRead white_space resolves lacks) (PropertyShape white_space) (PropertySlips white_space resolves lacks) z (outcome white_space resolves lacks z)) (sym e) (posix_answered white_space resolves lacks l t),
)
one_property_law white_space l resolves lacks q t (inr e) = (
  outcome white_space resolves lacks q,
  subst (λ z. HasOutcome (PropertyRead white_space resolves lacks) (PropertyShape white_space) (PropertySlips white_space resolves lacks) z (outcome white_space resolves lacks z)) (sym e) (perl_answered white_space resolves lacks l t),
)

pub property_is : (white_space : ℕ → Bool) (l : white_space 0x61 ≡ false) (resolves lacks : Query → Bool) (q t : Text) (e : (q ≡ 0x5B ∷ 0x3A ∷ t) ⊎ (q ≡ 0x5C ∷ t)) →
    (one_property_law white_space l resolves lacks q t e).0 ≡ outcome white_space resolves lacks q
unfolding one_property_law
property_is white_space l resolves lacks q t (inl e) = refl
property_is white_space l resolves lacks q t (inr e) = refl
