-- The slips of the machine of escapes: the kind and the text before the place, at each state.
use Rattle.std.proofs.Common.{◌≡◌, ℕ, zero, suc, ◌+◌, Bool, true, false, cond, List, [], ◌∷◌, ◌++◌, length, Some, None, refl, sym, ap, ◌∙◌, subst, inl, inr, append_assoc, arith}
use Rattle.std.proofs.lemmas.List.{length_push}
use mathlib.Core.Logic.{◌⊎◌}
use Rattle.std.specs.Prelude.{◌==◌, if◌then◌else◌}
use Rattle.std.specs.Option.{option_or}
use Rattle.std.specs.List.{list_all}
use Rattle.std.proofs.lemmas.Bool.{eqb-true}
use Rattle.uset_grammar.specs.Text.{Text}
use Rattle.uset_grammar.specs.Outcome.{unexpected, unimplemented, invalid_escape}
use Rattle.uset_grammar.specs.Escape.{Apart, is_hex, value, Spelled, named, itself, numbers, Letter, four, two, six, name, other, letter, is_above, is_surrogate}
use Rattle.uset_grammar.specs.EscapeSlips.{Around, in_string, in_bracket, BeforeNumber, first, further}
use Rattle.uset_grammar.proofs.UnitMachine.{Next, goes, whole, refuses, Slip, reach, free, holds_at}
use Rattle.uset_grammar.proofs.EscapeMachine.{State, start, letters, brace_or, zero_first, zero_second, fixed, awaits, number, at_letter, next_fixed, next_digit, close_or, next, Sort, digit, brace, white, stray, sort, Digits, one_digit, more_digits, digits_number, all_snoc}

abbrev pub letter_slip : Text → Letter → Slip
letter_slip p four = None
letter_slip p two = None
letter_slip p six = None
letter_slip p name = Some (unimplemented, p)
letter_slip p other = None

abbrev pub second : Around → List ℕ → Slip
second a [] = None
second in_string (n ∷ []) = if is_surrogate n then Some (invalid_escape, []) else None
second (in_bracket both) (n ∷ []) = if both then None else Some (unexpected 0x5C, [])
second a (n ∷ m ∷ ns) = None

abbrev pub later : Around → List ℕ → Text → ℕ → Slip
later (in_bracket both) ns before v = None
later in_string [] before v = None
later in_string (n ∷ ns) before v = if is_surrogate v then Some (invalid_escape, before) else None

abbrev pub sixth : Around → Text → List ℕ → ℕ → Text → ℕ → Slip
sixth a p ns zero before v = None
sixth a p ns (suc zero) before v = if is_above v then Some (invalid_escape, p) else later a ns before v
sixth a p ns (suc (suc m)) before v = None

abbrev pub shorter : Around → List ℕ → ℕ → Text → ℕ → Slip
shorter a ns zero before v = None
shorter a ns (suc m) before v = later a ns before v

abbrev pub fixed_slip : Text → ℕ → ℕ → Slip
fixed_slip p zero v = if is_above v then Some (invalid_escape, p) else None
fixed_slip p (suc k) v = None

-- what a character slips by, the end of an escape aside
abbrev pub within : Around → Text → State → ℕ → Slip
within a p start c = None
within a p letters c = letter_slip p (letter c)
within a p (brace_or k) c = None
within a p zero_first c = None
within a p zero_second c = None
within a p (fixed false k w) c = None
within a p (fixed true k w) c = if is_hex c then fixed_slip p k (value (w ++ c ∷ [])) else None
within a p (awaits ns) c = if is_hex c then second a ns else None
within a p (number ns m w before) c = if is_hex c then sixth a p ns m before (value (w ++ c ∷ [])) else shorter a ns m before (value w)

abbrev pub end_slip : Around → Next State Spelled → Slip
end_slip (in_bracket both) n = None
end_slip in_string (goes s) = None
end_slip in_string refuses = None
end_slip in_string (whole named) = None
end_slip in_string (whole (itself c)) = None
end_slip in_string (whole (numbers [])) = None
end_slip in_string (whole (numbers (n ∷ []))) = if is_surrogate n then Some (invalid_escape, []) else None
end_slip in_string (whole (numbers (n ∷ m ∷ ns))) = None

module _ (white_space : ℕ → Bool) (a : Around) where
  abbrev pub slip : Text → State → ℕ → Slip
  slip p s c = option_or (within a p s c) (end_slip a (next white_space p s c))

  -- what a text is behind which a state is reached
  abbrev pub At : State → Text → Type 0
  At start p = p ≡ []
  At letters p = p ≡ 0x5C ∷ []
  At (brace_or k) p = (c : ℕ) × ((letter c ≡ four) ⊎ (letter c ≡ two)) × (p ≡ 0x5C ∷ c ∷ [])
  At zero_first p = p ≡ 0x5C ∷ 0x55 ∷ []
  At zero_second p = p ≡ 0x5C ∷ 0x55 ∷ 0x30 ∷ []
  At (fixed false k w) p = Unit {0}
  At (fixed true k w) p = (p ≡ 0x5C ∷ 0x55 ∷ 0x30 ∷ 0x30 ∷ w) × (list_all is_hex w ≡ true) × (length w + k ≡ 5)
  At (awaits ns) p = BeforeNumber white_space ns p
  At (number ns m w before) p = BeforeNumber white_space ns before × Digits w m × (p ≡ before ++ w)

  abbrev pub Onward : Text → ℕ → Next State Spelled → Type 0
  Onward p c (goes e) = At e (p ++ c ∷ [])
  Onward p c (whole v) = Unit {0}
  Onward p c refuses = Unit {0}

letter_six_by : (x y z w : Bool) → ◌≡◌ {A = Letter} (if x then four else if y then two else if z then six else if w then name else other) six → z ≡ true
letter_six_by true y z w h = absurd (let e = h in cc)
letter_six_by false true z w h = absurd (let e = h in cc)
letter_six_by false false true w h = refl
letter_six_by false false false true h = absurd (let e = h in cc)
letter_six_by false false false false h = absurd (let e = h in cc)

letter_six : (c : ℕ) → letter c ≡ six → c ≡ 0x55
unfolding letter
letter_six c h = eqb-true c 0x55 (letter_six_by (c == 0x75) (c == 0x78) (c == 0x55) (c == 0x4E) h)

letter_name_by : (x y z w : Bool) → ◌≡◌ {A = Letter} (if x then four else if y then two else if z then six else if w then name else other) name → w ≡ true
letter_name_by true y z w h = absurd (let e = h in cc)
letter_name_by false true z w h = absurd (let e = h in cc)
letter_name_by false false true w h = absurd (let e = h in cc)
letter_name_by false false false true h = refl
letter_name_by false false false false h = absurd (let e = h in cc)

pub letter_name : (c : ℕ) → letter c ≡ name → c ≡ 0x4E
unfolding letter
letter_name c h = eqb-true c 0x4E (letter_name_by (c == 0x75) (c == 0x78) (c == 0x55) (c == 0x4E) h)

pub snoc : {p q : Text} {c d : ℕ} → p ≡ q → c ≡ d → p ++ c ∷ [] ≡ q ++ d ∷ []
snoc e f = λ i. e i ++ f i ∷ []

module _ (white_space : ℕ → Bool) (apart : Apart white_space) (a : Around) where
  start_on : (p : Text) (c : ℕ) (b : Bool) → (c == 0x5C) ≡ b → p ≡ [] → Onward white_space a p c (cond b (goes letters) refuses)
  start_on p c true e at = snoc at (eqb-true c 0x5C e)
  start_on p c false e at = tt

  letters_on : (p : Text) (c : ℕ) (l : Letter) → letter c ≡ l → p ≡ 0x5C ∷ [] → Onward white_space a p c (at_letter l c)
  letters_on p c four e at = (c, inl e, snoc at refl)
  letters_on p c two e at = (c, inr e, snoc at refl)
  letters_on p c six e at = snoc at (letter_six c e)
  letters_on p c name e at = tt
  letters_on p c other e at = tt

  fixed_on : (p : Text) (long : Bool) (k : ℕ) (w : Text) (c : ℕ) → is_hex c ≡ true → At white_space a (fixed long k w) p → Onward white_space a p c (next_fixed long k (w ++ c ∷ []))
  fixed_on p long zero w c e at = tt
  fixed_on p false (suc k) w c e at = tt
  fixed_on p true (suc k) w c e at = (snoc at.0 refl, all_snoc is_hex w c at.1 e, (let l = length_push w c in let m = at.2 in omega arith))

  fixed_by : (p : Text) (long : Bool) (k : ℕ) (w : Text) (c : ℕ) (h : Bool) → is_hex c ≡ h → At white_space a (fixed long k w) p → Onward white_space a p c (cond h (next_fixed long k (w ++ c ∷ [])) refuses)
  fixed_by p long k w c true e at = fixed_on p long k w c e at
  fixed_by p long k w c false e at = tt

  short_on : (p : Text) (k : ℕ) (w : Text) (c : ℕ) → Onward white_space a p c (next_fixed false k w)
  short_on p zero w c = tt
  short_on p (suc k) w c = tt

  brace_by : (p : Text) (k c : ℕ) (b h : Bool) → (c == 0x7B) ≡ b → At white_space a (brace_or k) p → Onward white_space a p c (cond b (goes (awaits [])) (cond h (next_fixed false k (c ∷ [])) refuses))
  brace_by p k c true h e at = subst (BeforeNumber white_space []) (sym (snoc at.2 (eqb-true c 0x7B e))) (first {c = at.0} {w = []} at.1 (record { is = refl }))
  brace_by p k c false true e at = short_on p k (c ∷ []) c
  brace_by p k c false false e at = tt

  zero_by : (p q : Text) (c : ℕ) (s : State) (b : Bool) → (c == 0x30) ≡ b → ((p ++ c ∷ [] ≡ q ++ 0x30 ∷ []) → At white_space a s (p ++ c ∷ [])) → p ≡ q → Onward white_space a p c (cond b (goes s) refuses)
  zero_by p q c s true e into at = into (snoc at (eqb-true c 0x30 e))
  zero_by p q c s false e into at = tt

  white_more : (ns : List ℕ) (p : Text) (c : ℕ) → white_space c ≡ true → BeforeNumber white_space ns p → BeforeNumber white_space ns (p ++ c ∷ [])
  white_more _ _ c e (first {c = d} {w} l blank) = first {c = d} {w = w ++ c ∷ []} l (record { is = all_snoc white_space w c blank.is e })
  white_more _ _ c e (further {ns} {before} {word} {w} {c = d} b counted one blank) =
      subst (BeforeNumber white_space (ns ++ value word ∷ [])) (sym (append_assoc before (word ++ d ∷ w) (c ∷ []) ∙ ap (λ z. before ++ z) (append_assoc word (d ∷ w) (c ∷ []))))
      (further {w = w ++ c ∷ []} b counted one (record { is = all_snoc white_space w c blank.is e }))

  close_on : (p : Text) (c : ℕ) (ns : List ℕ) → Onward white_space a p c (close_or ns)
  close_on p c [] = tt
  close_on p c (n ∷ ns) = tt

  awaits_on : (p : Text) (ns : List ℕ) (c : ℕ) → Sort white_space c → BeforeNumber white_space ns p → Onward white_space a p c (next white_space p (awaits ns) c)
  awaits_on p ns c (digit h b w) at = rw h (at, one_digit c h, refl)
  awaits_on p ns c (brace h b) at = rw (h, b) (close_on p c ns)
  awaits_on p ns c (white h b w) at = rw (h, b, w) (white_more ns p c w at)
  awaits_on p ns c (stray h b w) at = rw (h, b, w) tt

  digit_on : (p : Text) (ns : List ℕ) (m : ℕ) (w before : Text) (c : ℕ) → is_hex c ≡ true → At white_space a (number ns m w before) p → Onward white_space a p c (next_digit ns m (w ++ c ∷ []) before)
  digit_on p ns zero w before c h at = tt
  digit_on p ns (suc m) w before c h at = (at.0, more_digits w c m h at.1, snoc at.2 refl ∙ append_assoc before w (c ∷ []))

  number_on : (p : Text) (ns : List ℕ) (m : ℕ) (w before : Text) (c : ℕ) → Sort white_space c → At white_space a (number ns m w before) p → Onward white_space a p c (next white_space p (number ns m w before) c)
  number_on p ns m w before c (digit h b s) at = rw h (digit_on p ns m w before c h at)
  number_on p ns m w before c (brace h b) at = rw (h, b) tt
  number_on p ns m w before c (white h b s) at =
      rw (h, b, s) (subst (BeforeNumber white_space (ns ++ value w ∷ [])) (sym (snoc at.2 refl ∙ append_assoc before w (c ∷ [])))
      (further {w = []} at.0 (record { is = digits_number w m at.1 }) s (record { is = refl })))
  number_on p ns m w before c (stray h b s) at = rw (h, b, s) tt

  at_on : (p : Text) (s : State) (c : ℕ) → At white_space a s p → Onward white_space a p c (next white_space p s c)
  at_on p start c at = start_on p c (c == 0x5C) refl at
  at_on p letters c at = letters_on p c (letter c) refl at
  at_on p (brace_or k) c at = brace_by p k c (c == 0x7B) (is_hex c) refl at
  at_on p zero_first c at = zero_by p (0x5C ∷ 0x55 ∷ []) c zero_second (c == 0x30) refl (λ e. e) at
  at_on p zero_second c at = zero_by p (0x5C ∷ 0x55 ∷ 0x30 ∷ []) c (fixed true 5 []) (c == 0x30) refl (λ e. (e, refl, refl)) at
  at_on p (fixed long k w) c at = fixed_by p long k w c (is_hex c) refl at
  at_on p (awaits ns) c at = awaits_on p ns c (sort white_space apart c) at
  at_on p (number ns m w before) c at = number_on p ns m w before c (sort white_space apart c) at

  pub walk : (p t : Text) (s e : State) → At white_space a s p → reach (next white_space) free p s t ≡ Some e → At white_space a e (p ++ t)
  walk = holds_at (next white_space) free (At white_space a) (λ p s e c at _ n. subst (Onward white_space a p c) n (at_on p s c at))
