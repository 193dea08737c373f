-- What the machine of escapes calls a slip is one by the definition.
use Rattle.std.proofs.Common.{◌≡◌, ◌<◌, ◌≤◌, ℕ, zero, suc, ◌+◌, ◌-◌, Bool, true, false, ◌&&◌, cond, List, [], ◌∷◌, ◌++◌, length, Option, Some, None, refl, sym, ap, ◌∙◌, subst, inl, inr, append_assoc, append-nil, arith}
use mathlib.Core.Logic.{◌⊎◌}
use Rattle.std.specs.Prelude.{◌==◌, nat_le}
use Rattle.std.specs.Option.{option_or}
use Rattle.std.specs.List.{list_all}
use Rattle.std.proofs.lemmas.Bool.{cases_Bool, eqb-true, leb-true, and_parts}
use Rattle.std.proofs.lemmas.Bool.Decides.{nat_tests}
use Rattle.uset_grammar.specs.Text.{Text}
use Rattle.uset_grammar.specs.Outcome.{Kind, invalid_escape, Outcome, got, faulty, ended}
use Rattle.uset_grammar.specs.Escape.{Apart, is_hex, value, is_number, Spelled, named, itself, numbers, Letter, four, two, six, name, other, letter, escape_shape, is_above, is_surrogate}
use Rattle.uset_grammar.specs.EscapeSlips.{Around, in_string, in_bracket, IsNumber, BeforeNumber, first, further, Sixth, EscapeSlips, not_read, long_above, above, sole_surrogate, first_surrogate, later_surrogate, shorter_surrogate, two_codes}
use Rattle.uset_grammar.proofs.UnitMachine.{Next, goes, whole, refuses, Slip, turn, onward, run, reach, free, run_on, reach_on, whole_from}
use Rattle.uset_grammar.proofs.EscapeMachine.{State, start, letters, brace_or, zero_first, zero_second, fixed, awaits, number, at_letter, next_fixed, next_digit, close_or, next, read_whole, Digits, digits_number, shape_is_read}
use Rattle.uset_grammar.proofs.UnitMachineOutcome.{goes_within}
use Rattle.uset_grammar.proofs.EscapeMachineSlips.{letter_slip, second, later, sixth, shorter, fixed_slip, within, end_slip, slip, At, letter_name, walk}

-- a slip is one by the definition
abbrev pub Fits : (ℕ → Bool) → Around → Text → ℕ → Slip → Type 0
Fits white_space a p c None = Unit {0}
Fits white_space a p c (Some x) = EscapeSlips white_space a p c x.0 x.1

pub not_above : (n : ℕ) → is_surrogate n ≡ true → is_above n ≡ false
unfolding is_surrogate is_above
not_above n h = grind (arith, nat_tests)

abbrev pub got_or : {V : Type 0} → Outcome V → Option (V × Text) → Outcome V
got_or o None = o
got_or o (Some p) = got p.0 p.1

pub read_got : {V : Type 0} (o : Outcome V) (v : V) (t : Text) → read_whole o ≡ Some (v, t) → o ≡ got v t
read_got (got w u) v t h = ap (λ o. got_or (got w u) o) h
read_got (faulty k b) v t h = absurd (let e = h in cc)
read_got ended v t h = absurd (let e = h in cc)

module _ (white_space : ℕ → Bool) (apart : Apart white_space) (a : Around) where
  fits_or : (p : Text) (c : ℕ) (x y : Slip) → Fits white_space a p c x → Fits white_space a p c y → Fits white_space a p c (option_or x y)
  fits_or p c (Some x) y f g = f
  fits_or p c None y f g = g

  fits_letter : (p : Text) (c : ℕ) (l : Letter) → letter c ≡ l → p ≡ 0x5C ∷ [] → Fits white_space a p c (letter_slip p l)
  fits_letter p c four e at = tt
  fits_letter p c two e at = tt
  fits_letter p c six e at = tt
  fits_letter p c other e at = tt
  fits_letter p c name e at = rw (at, letter_name c e) not_read

  fits_fixed : (p : Text) (k : ℕ) (w : Text) (c : ℕ) (b : Bool) → is_hex c ≡ true → is_above (value (w ++ c ∷ [])) ≡ b → At white_space a (fixed true zero w) p →
      Fits white_space a p c (cond b (Some (invalid_escape, p)) None)
  fits_fixed p k w c false h e at = tt
  fits_fixed p k w c true h e at = rw at.0 (long_above (record { hex = at.1; five_digits = (let m = at.2 in omega arith); sixth = h }) e)

  fits_fixed_at : (p : Text) (k : ℕ) (w : Text) (c : ℕ) → is_hex c ≡ true → At white_space a (fixed true k w) p → Fits white_space a p c (fixed_slip p k (value (w ++ c ∷ [])))
  fits_fixed_at p zero w c h at = fits_fixed p zero w c (is_above (value (w ++ c ∷ []))) h refl at
  fits_fixed_at p (suc k) w c h at = tt

  fits_fixed_by : (p : Text) (k : ℕ) (w : Text) (c : ℕ) (h : Bool) → is_hex c ≡ h → At white_space a (fixed true k w) p → Fits white_space a p c (cond h (fixed_slip p k (value (w ++ c ∷ []))) None)
  fits_fixed_by p k w c true e at = fits_fixed_at p k w c e at
  fits_fixed_by p k w c false e at = tt

module _ (white_space : ℕ → Bool) where
  fits_second_string : (p : Text) (c n : ℕ) (b : Bool) → is_surrogate n ≡ b → is_hex c ≡ true → BeforeNumber white_space (n ∷ []) p → Fits white_space in_string p c (cond b (Some (invalid_escape, [])) None)
  fits_second_string p c n true e h at = first_surrogate at e h
  fits_second_string p c n false e h at = tt

  fits_second : (a : Around) (p : Text) (c : ℕ) (ns : List ℕ) → is_hex c ≡ true → BeforeNumber white_space ns p → Fits white_space a p c (second a ns)
  fits_second a p c [] h at = tt
  fits_second in_string p c (n ∷ []) h at = fits_second_string p c n (is_surrogate n) refl h at
  fits_second (in_bracket true) p c (n ∷ []) h at = tt
  fits_second (in_bracket false) p c (n ∷ []) h at = two_codes at h
  fits_second in_string p c (n ∷ m ∷ ns) h at = tt
  fits_second (in_bracket both) p c (n ∷ m ∷ ns) h at = tt

  fits_second_by : (a : Around) (p : Text) (c : ℕ) (ns : List ℕ) (h : Bool) → is_hex c ≡ h → BeforeNumber white_space ns p → Fits white_space a p c (cond h (second a ns) None)
  fits_second_by a p c ns true e at = fits_second a p c ns e at
  fits_second_by a p c ns false e at = tt

  later_cond : (p before : Text) (c : ℕ) (b : Bool) → (b ≡ true → EscapeSlips white_space in_string p c invalid_escape before) → Fits white_space in_string p c (cond b (Some (invalid_escape, before)) None)
  later_cond p before c true f = f refl
  later_cond p before c false f = tt

  fits_later_sixth : (a : Around) (p : Text) (c : ℕ) (ns : List ℕ) (w before : Text) → BeforeNumber white_space ns before → Sixth w c → p ≡ before ++ w →
      Fits white_space a p c (later a ns before (value (w ++ c ∷ [])))
  fits_later_sixth (in_bracket both) p c ns w before b six' at = tt
  fits_later_sixth in_string p c [] w before b six' at = tt
  fits_later_sixth in_string p c (n ∷ ns) w before b six' at =
      rw at (later_cond (before ++ w) before c (is_surrogate (value (w ++ c ∷ []))) (λ e. later_surrogate b six' e))

  above_cond : (a : Around) (p before : Text) (c : ℕ) (x : Slip) (b : Bool) → (b ≡ true → EscapeSlips white_space a p c invalid_escape p) → Fits white_space a p c x →
      Fits white_space a p c (cond b (Some (invalid_escape, p)) x)
  above_cond a p before c x true f g = f refl
  above_cond a p before c x false f g = g

  fits_sixth : (a : Around) (p : Text) (c : ℕ) (ns : List ℕ) (m : ℕ) (w before : Text) → BeforeNumber white_space ns before → Digits w m → is_hex c ≡ true → p ≡ before ++ w →
      Fits white_space a p c (sixth a p ns m before (value (w ++ c ∷ [])))
  fits_sixth a p c ns zero w before b d h at = tt
  fits_sixth a p c ns (suc (suc m)) w before b d h at = tt
  fits_sixth a p c ns (suc zero) w before b d h at =
      let is : Sixth w c = record { hex = d.hex; five_digits = omega (arith, d.most); sixth = h } in
      above_cond a p before c (later a ns before (value (w ++ c ∷ []))) (is_above (value (w ++ c ∷ []))) (λ e. rw at (above b is e)) (fits_later_sixth a p c ns w before b is at)

  fits_later_shorter : (a : Around) (p : Text) (c : ℕ) (ns : List ℕ) (w before : Text) → BeforeNumber white_space ns before → IsNumber w → length w < 6 → is_hex c ≡ false → p ≡ before ++ w →
      Fits white_space a p c (later a ns before (value w))
  fits_later_shorter (in_bracket both) p c ns w before b d l h at = tt
  fits_later_shorter in_string p c [] w before b d l h at = tt
  fits_later_shorter in_string p c (n ∷ ns) w before b d l h at = rw at (later_cond (before ++ w) before c (is_surrogate (value w)) (λ e. shorter_surrogate b d l e h))

  fits_shorter : (a : Around) (p : Text) (c : ℕ) (ns : List ℕ) (m : ℕ) (w before : Text) → BeforeNumber white_space ns before → Digits w m → is_hex c ≡ false → p ≡ before ++ w →
      Fits white_space a p c (shorter a ns m before (value w))
  fits_shorter a p c ns zero w before b d h at = tt
  fits_shorter a p c ns (suc m) w before b d h at =
      fits_later_shorter a p c ns w before b (record { is = digits_number w (suc m) d }) (let k = d.most in omega arith) h at

  fits_number : (a : Around) (p : Text) (c : ℕ) (ns : List ℕ) (m : ℕ) (w before : Text) (h : Bool) → is_hex c ≡ h → BeforeNumber white_space ns before → Digits w m → p ≡ before ++ w →
      Fits white_space a p c (cond h (sixth a p ns m before (value (w ++ c ∷ []))) (shorter a ns m before (value w)))
  fits_number a p c ns m w before true e b d at = fits_sixth a p c ns m w before b d e at
  fits_number a p c ns m w before false e b d at = fits_shorter a p c ns m w before b d e at

  fits_end : (a : Around) (p : Text) (c : ℕ) (n : Next State Spelled) → ((v : Spelled) → n ≡ whole v → escape_shape white_space (p ++ c ∷ []) ≡ Some (v, [])) → Fits white_space a p c (end_slip a n)
  fits_end (in_bracket both) p c n f = tt
  fits_end in_string p c (goes s) f = tt
  fits_end in_string p c refuses f = tt
  fits_end in_string p c (whole named) f = tt
  fits_end in_string p c (whole (itself d)) f = tt
  fits_end in_string p c (whole (numbers [])) f = tt
  fits_end in_string p c (whole (numbers (n ∷ m ∷ ns))) f = tt
  fits_end in_string p c (whole (numbers (n ∷ []))) f = later_cond p [] c (is_surrogate n) (λ e. sole_surrogate (f (numbers (n ∷ [])) refl) e)

module _ (white_space : ℕ → Bool) (apart : Apart white_space) (a : Around) where
  fits_within : (p : Text) (s : State) (c : ℕ) → At white_space a s p → Fits white_space a p c (within a p s c)
  fits_within p start c at = tt
  fits_within p letters c at = fits_letter white_space apart a p c (letter c) refl at
  fits_within p (brace_or k) c at = tt
  fits_within p zero_first c at = tt
  fits_within p zero_second c at = tt
  fits_within p (fixed false k w) c at = tt
  fits_within p (fixed true k w) c at = fits_fixed_by white_space apart a p k w c (is_hex c) refl at
  fits_within p (awaits ns) c at = fits_second_by white_space a p c ns (is_hex c) refl at
  fits_within p (number ns m w before) c at = fits_number white_space a p c ns m w before (is_hex c) refl at.0 at.1 at.2

  shape_at : (p : Text) (s : State) (c : ℕ) (v : Spelled) → reach (next white_space) free [] start p ≡ Some s → next white_space p s c ≡ whole v → escape_shape white_space (p ++ c ∷ []) ≡ Some (v, [])
  shape_at p s c v on e =
      sym (shape_is_read white_space apart (p ++ c ∷ []) []) ∙ (ap (λ o. read_whole o) (run_on (next white_space) free [] p (c ∷ []) start s on)
      ∙ ap (λ n. read_whole (turn None n (λ s'. run (next white_space) free (p ++ c ∷ []) s' []) p c [])) e)

  pub fits : (p : Text) (s : State) (c : ℕ) → reach (next white_space) free [] start p ≡ Some s → Fits white_space a p c (slip white_space a p s c)
  fits p s c on =
      fits_or white_space apart a p c (within a p s c) (end_slip a (next white_space p s c)) (fits_within p s c (walk white_space apart a [] p start s refl on))
      (fits_end white_space a p c (next white_space p s c) (λ v e. shape_at p s c v on e))

  pub at_slip_law : (p : Text) (c : ℕ) (k : Kind) (b : Text) (s : State) → reach (next white_space) free [] start p ≡ Some s → slip white_space a p s c ≡ Some (k, b) → EscapeSlips white_space a p c k b
  at_slip_law p c k b s on e = subst (Fits white_space a p c) e (fits p s c on)

-- A text that slips by the definition leads to a state that slips.
abbrev pub SlipsHere : (ℕ → Bool) → Around → Text → ℕ → Kind → Text → Type 0
SlipsHere white_space a p c k b = (s : State) × (reach (next white_space) free [] start p ≡ Some s) × (slip white_space a p s c ≡ Some (k, b))

module _ (white_space : ℕ → Bool) (apart : Apart white_space) where
  reach_step : (p t : Text) (s e : State) (c : ℕ) (o : Option State) → next white_space p s c ≡ goes e → reach (next white_space) free (p ++ c ∷ []) e t ≡ o →
      reach (next white_space) free p s (c ∷ t) ≡ o
  reach_step p t s e c o is h = ap (λ n. onward None n (λ s'. reach (next white_space) free (p ++ c ∷ []) s' t)) is ∙ h

  white_not : (c : ℕ) → white_space c ≡ true → (is_hex c ≡ false) × ((c == 0x7D) ≡ false)
  white_not c h = (
    apart.no_digit c h,
    elim (cases_Bool (c == 0x7D)) [
      | inl is ↦ absurd (let e : true ≡ false = sym h ∙ (ap white_space (eqb-true c 0x7D is) ∙ apart.no_brace) in cc)
      | inr isnt ↦ isnt
    ],
  )

  awaits_white : (p : Text) (ns : List ℕ) (c : ℕ) → white_space c ≡ true → next white_space p (awaits ns) c ≡ goes (awaits ns)
  awaits_white p ns c h = let n = white_not c h in rw (n.0, n.1, h) refl

  reach_white : (p w : Text) (ns : List ℕ) → list_all white_space w ≡ true → reach (next white_space) free p (awaits ns) w ≡ Some (awaits ns)
  reach_white p [] ns h = refl
  reach_white p (c ∷ w) ns h =
      reach_step p w (awaits ns) (awaits ns) c (Some (awaits ns)) (awaits_white p ns c (and_parts (white_space c) (list_all white_space w) h).0)
      (reach_white (p ++ c ∷ []) w ns (and_parts (white_space c) (list_all white_space w) h).1)

  -- digits behind digits
  reach_digits : (p d w before : Text) (ns : List ℕ) (m k : ℕ) → list_all is_hex d ≡ true → m ≡ length d + k →
      reach (next white_space) free p (number ns m w before) d ≡ Some (number ns k (w ++ d) before)
  reach_digits p [] w before ns m k h e = let f : m ≡ k = omega (arith, e) in (λ i. Some (number ns (f i) (sym (append-nil w) i) before))
  reach_digits p (c ∷ d) w before ns zero k h e = absurd (omega (arith, e))
  reach_digits p (c ∷ d) w before ns (suc m) k h e =
      reach_step p d (number ns (suc m) w before) (number ns m (w ++ c ∷ []) before) c (Some (number ns k (w ++ c ∷ d) before)) (rw (and_parts (is_hex c) (list_all is_hex d) h).0 refl)
      (reach_digits (p ++ c ∷ []) d (w ++ c ∷ []) before ns m k (and_parts (is_hex c) (list_all is_hex d) h).1 (omega (arith, e))
      ∙ ap (λ z. Some (number ns k z before)) (append_assoc w (c ∷ []) d))

  -- the digits of a number
  reach_word : (before w : Text) (ns : List ℕ) (k : ℕ) → list_all is_hex w ≡ true → 1 ≤ length w → length w + k ≡ 6 →
      reach (next white_space) free before (awaits ns) w ≡ Some (number ns k w before)
  reach_word before [] ns k h some most = absurd (omega (arith, some))
  reach_word before (c ∷ w) ns k h some most =
      reach_step before w (awaits ns) (number ns 5 (c ∷ []) before) c (Some (number ns k (c ∷ w) before)) (rw (and_parts (is_hex c) (list_all is_hex w) h).0 refl)
      (reach_digits (before ++ c ∷ []) w (c ∷ []) before ns 5 k (and_parts (is_hex c) (list_all is_hex w) h).1 (omega (arith, most)))

  pub number_digits : (w : Text) → is_number w ≡ true → (k : ℕ) × Digits w k
  unfolding is_number
  number_digits w h =
      let more = (and_parts (list_all is_hex w) (nat_le 1 (length w) && nat_le (length w) 6) h).1 in
      let some = leb-true 1 (length w) ((and_parts (nat_le 1 (length w)) (nat_le (length w) 6) more).0) in
      let most = leb-true (length w) 6 ((and_parts (nat_le 1 (length w)) (nat_le (length w) 6) more).1) in
      (6 - length w, record { hex = (and_parts (list_all is_hex w) (nat_le 1 (length w) && nat_le (length w) 6) h).0; some = some; most = omega arith })

  number_white : (p before w : Text) (ns : List ℕ) (m c : ℕ) → white_space c ≡ true → next white_space p (number ns m w before) c ≡ goes (awaits (ns ++ value w ∷ []))
  number_white p before w ns m c h = let n = white_not c h in rw (n.0, n.1, h) refl

  opening_by : (c : ℕ) (l : Letter) → letter c ≡ l → ((letter c ≡ four) ⊎ (letter c ≡ two)) → (k : ℕ) × (at_letter l c ≡ goes (brace_or k))
  opening_by c four e h = (3, refl)
  opening_by c two e h = (1, refl)
  opening_by c six e (inl f) = absurd (let g : six ≡ four = sym e ∙ f in cc)
  opening_by c six e (inr f) = absurd (let g : six ≡ two = sym e ∙ f in cc)
  opening_by c name e (inl f) = absurd (let g : name ≡ four = sym e ∙ f in cc)
  opening_by c name e (inr f) = absurd (let g : name ≡ two = sym e ∙ f in cc)
  opening_by c other e (inl f) = absurd (let g : other ≡ four = sym e ∙ f in cc)
  opening_by c other e (inr f) = absurd (let g : other ≡ two = sym e ∙ f in cc)

  pub reach_before : (ns : List ℕ) (b : Text) → BeforeNumber white_space ns b → reach (next white_space) free [] start b ≡ Some (awaits ns)
  reach_before _ _ (first {c} {w} l blank) =
      let o = opening_by c (letter c) refl l in
      reach_step (0x5C ∷ []) (0x7B ∷ w) letters (brace_or o.0) c (Some (awaits [])) o.1 (reach_white (0x5C ∷ c ∷ 0x7B ∷ []) w [] blank.is)
  reach_before _ _ (further {ns} {before} {word} {w} {c} b counted one blank) =
      let d = number_digits word counted.is in
      reach_on (next white_space) free [] before (word ++ c ∷ w) start (awaits ns) (reach_before ns before b)
      ∙ (reach_on (next white_space) free before word (c ∷ w) (awaits ns) (number ns d.0 word before) (reach_word before word ns d.0 d.1.hex d.1.some d.1.most)
      ∙ reach_step (before ++ word) w (number ns d.0 word before) (awaits (ns ++ value word ∷ [])) c (Some (awaits (ns ++ value word ∷ []))) (number_white (before ++ word) before word ns d.0 c one)
      (reach_white ((before ++ word) ++ c ∷ []) w (ns ++ value word ∷ []) blank.is))

  reach_in_word : (ns : List ℕ) (b w : Text) (k : ℕ) → BeforeNumber white_space ns b → Digits w k → reach (next white_space) free [] start (b ++ w) ≡ Some (number ns k w b)
  reach_in_word ns b w k at d = reach_on (next white_space) free [] b w start (awaits ns) (reach_before ns b at) ∙ reach_word b w ns k d.hex d.some d.most

  reach_fixed : (p d w : Text) (m k : ℕ) → list_all is_hex d ≡ true → m ≡ length d + k → reach (next white_space) free p (fixed true m w) d ≡ Some (fixed true k (w ++ d))
  reach_fixed p [] w m k h e = let f : m ≡ k = omega (arith, e) in (λ i. Some (fixed true (f i) (sym (append-nil w) i)))
  reach_fixed p (c ∷ d) w zero k h e = absurd (omega (arith, e))
  reach_fixed p (c ∷ d) w (suc m) k h e =
      reach_step p d (fixed true (suc m) w) (fixed true m (w ++ c ∷ [])) c (Some (fixed true k (w ++ c ∷ d))) (rw (and_parts (is_hex c) (list_all is_hex d) h).0 refl)
      (reach_fixed (p ++ c ∷ []) d (w ++ c ∷ []) m k (and_parts (is_hex c) (list_all is_hex d) h).1 (omega (arith, e))
      ∙ ap (λ z. Some (fixed true k z)) (append_assoc w (c ∷ []) d))

  five : (w : Text) (c : ℕ) → Sixth w c → Digits w 1
  five w c s = let l = s.five_digits in record { hex = s.hex; some = omega arith; most = omega arith }

  numbers_grow : (n : ℕ) (ns : List ℕ) (v k : ℕ) → numbers ((n ∷ ns) ++ v ∷ []) ≡ numbers (k ∷ []) → ⊥
  numbers_grow n [] v k h = cc
  numbers_grow n (m ∷ ns) v k h = cc

  -- what ends an escape with one surrogate slips by nothing else
  sole_letter : (p : Text) (c n : ℕ) (l : Letter) → at_letter l c ≡ whole (numbers (n ∷ [])) → letter_slip p l ≡ None
  sole_letter p c n four e = refl
  sole_letter p c n two e = refl
  sole_letter p c n six e = refl
  sole_letter p c n name e = absurd (let f = e in cc)
  sole_letter p c n other e = refl

  sole_fixed : (p : Text) (k v n : ℕ) (w : Text) → next_fixed true k w ≡ whole (numbers (n ∷ [])) → v ≡ value w → is_surrogate n ≡ true → fixed_slip p k v ≡ None
  sole_fixed p (suc k) v n w e same sur = refl
  sole_fixed p zero v n w e same sur = let f : value w ≡ n = cc in rw (same ∙ f, not_above n sur) refl

  sole_fixed_by : (p : Text) (k n c : ℕ) (w : Text) (h : Bool) → cond h (next_fixed true k (w ++ c ∷ [])) refuses ≡ whole (numbers (n ∷ [])) → is_surrogate n ≡ true →
      cond h (fixed_slip p k (value (w ++ c ∷ []))) None ≡ None
  sole_fixed_by p k n c w true e sur = sole_fixed p k (value (w ++ c ∷ [])) n (w ++ c ∷ []) e refl sur
  sole_fixed_by p k n c w false e sur = refl

  sole_awaits : (p : Text) (ns : List ℕ) (n c : ℕ) (h : Bool) (x : Next State Spelled) → cond h (goes (number ns 5 (c ∷ []) p)) x ≡ whole (numbers (n ∷ [])) → cond h (second in_string ns) None ≡ None
  sole_awaits p ns n c true x e = absurd (let f = e in cc)
  sole_awaits p ns n c false x e = refl

  sole_later : (ns : List ℕ) (before : Text) (v n : ℕ) → numbers (ns ++ v ∷ []) ≡ numbers (n ∷ []) → later in_string ns before v ≡ None
  sole_later [] before v n e = refl
  sole_later (m ∷ ns) before v n e = absurd (numbers_grow m ns v n e)

  sole_shorter : (ns : List ℕ) (m : ℕ) (before : Text) (v n : ℕ) → numbers (ns ++ v ∷ []) ≡ numbers (n ∷ []) → shorter in_string ns m before v ≡ None
  sole_shorter ns zero before v n e = refl
  sole_shorter ns (suc m) before v n e = sole_later ns before v n e

  sole_close : (b s : Bool) (ns : List ℕ) (m : ℕ) (before : Text) (v n : ℕ) →
      cond b (whole (numbers (ns ++ v ∷ []))) (cond s (goes (awaits (ns ++ v ∷ []))) refuses) ≡ whole (numbers (n ∷ [])) → shorter in_string ns m before v ≡ None
  sole_close true s ns m before v n e = sole_shorter ns m before v n cc
  sole_close false true ns m before v n e = absurd (let f = e in cc)
  sole_close false false ns m before v n e = absurd (let f = e in cc)

  sole_digit : (ns : List ℕ) (m : ℕ) (w before : Text) (n : ℕ) → next_digit ns m w before ≡ whole (numbers (n ∷ [])) → ⊥
  sole_digit ns zero w before n e = cc
  sole_digit ns (suc m) w before n e = cc

  sole_number : (p : Text) (ns : List ℕ) (m : ℕ) (w before : Text) (c n : ℕ) (h : Bool) →
      cond h (next_digit ns m (w ++ c ∷ []) before) (cond (c == 0x7D) (whole (numbers (ns ++ value w ∷ []))) (cond (white_space c) (goes (awaits (ns ++ value w ∷ []))) refuses)) ≡ whole (numbers (n ∷ [])) →
      cond h (sixth in_string p ns m before (value (w ++ c ∷ []))) (shorter in_string ns m before (value w)) ≡ None
  sole_number p ns m w before c n true e = absurd (sole_digit ns m (w ++ c ∷ []) before n e)
  sole_number p ns m w before c n false e = sole_close (c == 0x7D) (white_space c) ns m before (value w) n e

  sole_within : (p : Text) (s : State) (c n : ℕ) → next white_space p s c ≡ whole (numbers (n ∷ [])) → is_surrogate n ≡ true → within in_string p s c ≡ None
  sole_within p start c n e sur = refl
  sole_within p letters c n e sur = sole_letter p c n (letter c) e
  sole_within p (brace_or k) c n e sur = refl
  sole_within p zero_first c n e sur = refl
  sole_within p zero_second c n e sur = refl
  sole_within p (fixed false k w) c n e sur = refl
  sole_within p (fixed true k w) c n e sur = sole_fixed_by p k n c w (is_hex c) e sur
  sole_within p (awaits ns) c n e sur = sole_awaits p ns n c (is_hex c) (cond (c == 0x7D) (close_or ns) (cond (white_space c) (goes (awaits ns)) refuses)) e
  sole_within p (number ns m w before) c n e sur = sole_number p ns m w before c n (is_hex c) e

  -- the last character of a shape
  pub ends_shape : (t : Text) (c : ℕ) (v : Spelled) → escape_shape white_space (t ++ c ∷ []) ≡ Some (v, []) →
      (s : State) × (reach (next white_space) free [] start t ≡ Some s) × (next white_space t s c ≡ whole v)
  ends_shape t c v h =
      let read = read_got (run (next white_space) free [] start (t ++ c ∷ [])) v [] (shape_is_read white_space apart (t ++ c ∷ []) [] ∙ h) in
      let on = goes_within (next white_space) free start t [] c v read in (
        on.0,
        on.1,
        whole_from t c v (next white_space t on.0 c) (λ s'. run (next white_space) free (t ++ c ∷ []) s' []) (λ s. refl)
            (sym (run_on (next white_space) free [] t (c ∷ []) start on.0 on.1) ∙ read),
      )

  more_left : (w : Text) (k : ℕ) → Digits w k → length w < 6 → (m : ℕ) × (k ≡ suc m)
  more_left w zero d l = absurd (let f = d.most in omega arith)
  more_left w (suc m) d l = (m, refl)

  pub slip_at_law : (a : Around) (p : Text) (c : ℕ) (k : Kind) (b : Text) → EscapeSlips white_space a p c k b → SlipsHere white_space a p c k b
  unfolding letter
  slip_at_law a _ _ _ _ not_read = (letters, refl, refl)
  slip_at_law a _ c _ _ (long_above {five = w} six' e) =
      (fixed true zero w, reach_fixed (0x5C ∷ 0x55 ∷ 0x30 ∷ 0x30 ∷ []) w [] 5 zero six'.hex (let l = six'.five_digits in omega arith), rw (six'.sixth, e) refl)
  slip_at_law a _ c _ _ (above {ns} {before} {five = w} at six' e) = (number ns 1 w before, reach_in_word ns before w 1 at (five w c six'), rw (six'.sixth, e) refl)
  slip_at_law in_string p c _ _ (sole_surrogate {n} shape sur) =
      let end = ends_shape p c (numbers (n ∷ [])) shape in
      (end.0, end.1, (λ i. option_or (sole_within p end.0 c n end.2 sur i) (end_slip in_string (end.2 i))) ∙ rw sur refl)
  slip_at_law in_string p c _ _ (first_surrogate {n} at sur h) = (awaits (n ∷ []), reach_before (n ∷ []) p at, rw (h, sur) refl)
  slip_at_law in_string _ c _ _ (later_surrogate {n} {ns} {before} {five = w} at six' sur) =
      (number (n ∷ ns) 1 w before, reach_in_word (n ∷ ns) before w 1 at (five w c six'), rw (six'.sixth, not_above (value (w ++ c ∷ [])) sur, sur) refl)
  slip_at_law in_string _ c _ _ (shorter_surrogate {n} {ns} {before} {word = w} at counted l sur h) =
      let d = number_digits w counted.is in
      let m = more_left w d.0 d.1 l in
      (number (n ∷ ns) (suc m.0) w before, reach_in_word (n ∷ ns) before w (suc m.0) at (subst (Digits w) m.1 d.1), rw (h, sur) refl)
  slip_at_law (in_bracket both) p c _ _ (two_codes {n} at h) = (awaits (n ∷ []), reach_before (n ∷ []) p at, rw h refl)
