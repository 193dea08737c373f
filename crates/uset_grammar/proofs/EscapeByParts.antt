-- An escape that is read part by part has the outcome of the machine.
use Rattle.std.proofs.Common.{◌≡◌, ◌≤◌, ◌<◌, ℕ, zero, suc, ◌+◌, ◌*◌, Bool, true, false, cond, Some, None, List, [], ◌∷◌, ◌++◌, length, refl, sym, ap, ◌∙◌, subst, arith, inl, inr}
use Rattle.std.specs.Prelude.{◌==◌}
use Rattle.std.specs.Option.{option_or}
use mathlib.Core.Logic.{◌⊎◌}
use Rattle.std.proofs.lemmas.Bool.{cases_Bool, eqb-true}
use Rattle.std.specs.Char.{digit_value}
use Rattle.uset_grammar.specs.Text.{Text, skip}
use Rattle.uset_grammar.specs.Outcome.{unexpected, invalid_escape, Outcome, got, faulty, ended}
use Rattle.uset_grammar.specs.Escape.{Apart, onto, is_hex, value, plain, Spelled, itself, numbers, Letter, four, two, six, name, other, letter, is_above, is_surrogate}
use Rattle.uset_grammar.specs.EscapeSlips.{Around, in_string, in_bracket, EscapeOutcome}
use Rattle.uset_grammar.specs.Parts.{and_then, TellsOutcome}
use Rattle.uset_grammar.specs.EscapeParts.{digit_in, two_digits_in, four_digits_in, six_digits_in, last_digit_in, checked, sole_in, all_in, number_at, behind_number, number_or, numbers_in, braced_in, zero_in, long_escape, letter_in, letters_in}
use Rattle.uset_grammar.specs.EscapeParts as R
use Rattle.uset_grammar.specs.Laws.{EscapesByParts}
use Rattle.uset_grammar.proofs.UnitMachine.{Next, goes, whole, refuses, Slip, turn, run}
use Rattle.uset_grammar.proofs.EscapeMachine.{State, start, letters, brace_or, zero_first, zero_second, fixed, awaits, number, at_letter, next_fixed, close_or, next, Sort, digit, brace, white, stray, sort}
use Rattle.uset_grammar.proofs.EscapeOutcome.{escape_answered, outcome}
use Rattle.uset_grammar.proofs.Placed.{Placed, placed_tells, further_text}
use Rattle.uset_grammar.proofs.EscapeMachineSlips.{letter_slip, second, later, sixth, fixed_slip, within, end_slip, slip}

-- the parts by the number of their digits: so many
abbrev short_in : ℕ → ℕ → Text → Outcome ℕ
short_in zero n t = got n t
short_in (suc k) n t = and_then (digit_in n t) (short_in k)

-- so many digits of a long number and its last
abbrev long_in : ℕ → ℕ → Text → Outcome ℕ
long_in zero n t = last_digit_in n t
long_in (suc k) n t = and_then (digit_in n t) (long_in k)

-- the test of a number that began there, behind those
abbrev later_in : Around → List ℕ → Text → ℕ → Text → Outcome ℕ
later_in a [] begin n t = got n t
later_in a (m ∷ ns) begin n t = R.later_in a begin n t

abbrev sixth_in : Around → List ℕ → Text → ℕ → Text → Text → Outcome ℕ
sixth_in a ns begin n at t = cond (is_above n) (faulty invalid_escape at) (later_in a ns begin n t)

abbrev second_in : {V : Type 0} → Around → Text → List ℕ → Outcome V → Outcome V
second_in a begin [] o = o
second_in a begin (n ∷ ns) o = R.second_in a begin n ns o

-- at most so many digits more, and then that test
abbrev number_in : Around → List ℕ → Text → ℕ → ℕ → Text → Outcome ℕ
number_in a ns begin zero n t = got n t
number_in a ns begin (suc m) n [] = ended
number_in a ns begin (suc zero) n (c ∷ t) = cond (is_hex c) (sixth_in a ns begin (n * 16 + digit_value c) (c ∷ t) t) (later_in a ns begin n (c ∷ t))
number_in a ns begin (suc (suc m)) n (c ∷ t) = cond (is_hex c) (number_in a ns begin (suc m) (n * 16 + digit_value c) t) (later_in a ns begin n (c ∷ t))

pub then_then : {A B C : Type 0} (o : Outcome A) (f : A → Text → Outcome B) (g : B → Text → Outcome C) → and_then (and_then o f) g ≡ and_then o (λ x t. and_then (f x t) g)
then_then (got x t) f g = refl
then_then (faulty k r) f g = refl
then_then ended f g = refl

then_got : (o : Outcome ℕ) → o ≡ and_then o (λ n t. got n t)
then_got (got n t) = refl
then_got (faulty k r) = refl
then_got ended = refl

two_are_short : (n : ℕ) (t : Text) → two_digits_in n t ≡ short_in 2 n t
unfolding two_digits_in
two_are_short n t = ap (λ f. and_then (digit_in n t) f) (λ i m u. then_got (digit_in m u) i)

four_are_short : (n : ℕ) (t : Text) → four_digits_in n t ≡ short_in 4 n t
unfolding four_digits_in two_digits_in
four_are_short n t =
    then_then (digit_in n t) digit_in two_digits_in ∙ ap (λ f. and_then (digit_in n t) f) (λ i m u. and_then (digit_in m u) (λ k v. two_are_short k v i))

six_are_long : (t : Text) → six_digits_in t ≡ long_in 5 0 t
unfolding six_digits_in
six_are_long t =
    ap (λ o. and_then o (λ n u. and_then (digit_in n u) last_digit_in)) (four_are_short 0 t)
    ∙ (then_then (digit_in 0 t) (short_in 3) (long_in 1) ∙ ap (λ f. and_then (digit_in 0 t) f) (λ i n u. by_three n u i))
  where
    by_one : (n : ℕ) (t : Text) → and_then (short_in 1 n t) (long_in 1) ≡ long_in 2 n t
    by_one n t = then_then (digit_in n t) (short_in 0) (long_in 1)

    by_two : (n : ℕ) (t : Text) → and_then (short_in 2 n t) (long_in 1) ≡ long_in 3 n t
    by_two n t = then_then (digit_in n t) (short_in 1) (long_in 1) ∙ ap (λ f. and_then (digit_in n t) f) (λ i m u. by_one m u i)

    by_three : (n : ℕ) (t : Text) → and_then (short_in 3 n t) (long_in 1) ≡ long_in 4 n t
    by_three n t = then_then (digit_in n t) (short_in 2) (long_in 1) ∙ ap (λ f. and_then (digit_in n t) f) (λ i m u. by_two m u i)

-- an outcome by a test, and then a part
cond_then : {A B : Type 0} (b : Bool) (o u : Outcome A) (f : A → Text → Outcome B) → and_then (cond b o u) f ≡ cond b (and_then o f) (and_then u f)
cond_then true o u f = refl
cond_then false o u f = refl

module _ (a : Around) (ns : List ℕ) (begin : Text) where
  one_left : (n : ℕ) (t : Text) → and_then (R.further_digits_in 1 n t) (later_in a ns begin) ≡ number_in a ns begin 1 n t
  one_left n [] = refl
  one_left n (c ∷ t) =
      cond_then (is_hex c) (checked (c ∷ t) (n * 16 + digit_value c) t) (got n (c ∷ t)) (later_in a ns begin)
      ∙ ap (λ o. cond (is_hex c) o (later_in a ns begin n (c ∷ t)))
      (cond_then (is_above (n * 16 + digit_value c)) (faulty invalid_escape (c ∷ t)) (got (n * 16 + digit_value c) t) (later_in a ns begin))

  -- a digit that is not the last
  digit_left : (m n c : ℕ) (t : Text) → and_then (R.further_digits_in (suc m) (n * 16 + digit_value c) t) (later_in a ns begin) ≡ number_in a ns begin (suc m) (n * 16 + digit_value c) t →
      and_then (cond (is_hex c) (R.further_digits_in (suc m) (n * 16 + digit_value c) t) (got n (c ∷ t))) (later_in a ns begin) ≡ number_in a ns begin (suc (suc m)) n (c ∷ t)
  digit_left m n c t h =
      cond_then (is_hex c) (R.further_digits_in (suc m) (n * 16 + digit_value c) t) (got n (c ∷ t)) (later_in a ns begin)
      ∙ ap (λ o. cond (is_hex c) o (later_in a ns begin n (c ∷ t))) h

  two_left : (n : ℕ) (t : Text) → and_then (R.further_digits_in 2 n t) (later_in a ns begin) ≡ number_in a ns begin 2 n t
  two_left n [] = refl
  two_left n (c ∷ t) = digit_left 0 n c t (one_left (n * 16 + digit_value c) t)

  three_left : (n : ℕ) (t : Text) → and_then (R.further_digits_in 3 n t) (later_in a ns begin) ≡ number_in a ns begin 3 n t
  three_left n [] = refl
  three_left n (c ∷ t) = digit_left 1 n c t (two_left (n * 16 + digit_value c) t)

  four_left : (n : ℕ) (t : Text) → and_then (R.further_digits_in 4 n t) (later_in a ns begin) ≡ number_in a ns begin 4 n t
  four_left n [] = refl
  four_left n (c ∷ t) = digit_left 2 n c t (three_left (n * 16 + digit_value c) t)

  five_left : (n : ℕ) (t : Text) → and_then (R.further_digits_in 5 n t) (later_in a ns begin) ≡ number_in a ns begin 5 n t
  five_left n [] = refl
  five_left n (c ∷ t) = digit_left 3 n c t (four_left (n * 16 + digit_value c) t)

-- a number that begins with this digit, behind those
number_is : (a : Around) (q : Text) (ns : List ℕ) (c : ℕ) (t : Text) → is_hex c ≡ true →
    number_at a q ns (c ∷ t) ≡ second_in a q ns (number_in a ns (c ∷ t) 5 (digit_value c) t)
number_is a q [] c t h = rw h (then_got (R.further_digits_in 5 (digit_value c) t) ∙ five_left a [] (c ∷ t) (digit_value c) t)
number_is a q (n ∷ ns) c t h = rw h (ap (R.second_in a q n ns) (five_left a (n ∷ ns) (c ∷ t) (digit_value c) t))

no_number_is : (a : Around) (q : Text) (ns : List ℕ) (c : ℕ) (t : Text) → is_hex c ≡ false → number_at a q ns (c ∷ t) ≡ faulty (unexpected c) (c ∷ t)
no_number_is a q [] c t h = rw h refl
no_number_is a q (n ∷ ns) c t h = rw h refl

hex_no_brace : (c : ℕ) → is_hex c ≡ true → (c == 0x7D) ≡ false
unfolding is_hex
hex_no_brace c h = elim (cases_Bool (c == 0x7D)) [
  | inl is ↦ absurd (let g : true ≡ false = sym h ∙ ap is_hex (eqb-true c 0x7D is) in cc)
  | inr isnt ↦ isnt
]

zero_then : {V : Type 0} → (Text → Outcome V) → Text → Outcome V
zero_then more [] = ended
zero_then more (c ∷ t) = cond (c == 0x30) (more t) (faulty (unexpected c) (c ∷ t))

zero_is : {V : Type 0} (more : Text → Outcome V) (t : Text) → and_then (zero_in t) (λ z. more) ≡ zero_then more t
unfolding zero_then
zero_is more [] = refl
zero_is more (c ∷ t) = by (c == 0x30)
  where
    by : (b : Bool) → and_then (cond b (got (tt {0}) t) (faulty (unexpected c) (c ∷ t))) (λ z. more) ≡ cond b (more t) (faulty (unexpected c) (c ∷ t))
    by true = refl
    by false = refl

abbrev long_digits : Around → Text → Text → Outcome Spelled
long_digits a q t = and_then (long_in 5 0 t) (sole_in a q)

long_is_zeros : (a : Around) (q t : Text) → long_escape a q t ≡ zero_then (zero_then (long_digits a q)) t
long_is_zeros a q t =
    then_then (and_then (zero_in t) (λ z. zero_in)) (λ z. six_digits_in) (sole_in a q)
    ∙ (then_then (zero_in t) (λ z. zero_in) (λ z u. and_then (six_digits_in u) (sole_in a q))
    ∙ (zero_is (λ u. and_then (zero_in u) (λ z v. and_then (six_digits_in v) (sole_in a q))) t
    ∙ ap (λ f. zero_then f t) (λ i u. (zero_is (λ v. and_then (six_digits_in v) (sole_in a q)) u ∙ ap (λ f. zero_then f u) (λ j v. and_then (six_are_long v j) (sole_in a q))) i)))

second_then : (a : Around) (begin : Text) (ns : List ℕ) (o : Outcome ℕ) (f : ℕ → Text → Outcome Spelled) → second_in a begin ns (and_then o f) ≡ and_then (second_in a begin ns o) f
second_then a begin [] o f = refl
second_then in_string begin (n ∷ []) o f = by (is_surrogate n)
  where
    by : (b : Bool) → cond b (faulty invalid_escape begin) (and_then o f) ≡ and_then (cond b (faulty invalid_escape begin) o) f
    by true = refl
    by false = refl
second_then (in_bracket true) begin (n ∷ []) o f = refl
second_then (in_bracket false) begin (n ∷ []) o f = refl
second_then in_string begin (n ∷ m ∷ ns) o f = refl
second_then (in_bracket both) begin (n ∷ m ∷ ns) o f = refl

onto_snoc : (w : Text) (n c : ℕ) → onto n (w ++ c ∷ []) ≡ onto n w * 16 + digit_value c
onto_snoc [] n c = refl
onto_snoc (d ∷ w) n c = onto_snoc w (n * 16 + digit_value d) c

value_snoc : (w : Text) (c n : ℕ) → n ≡ value w → n * 16 + digit_value c ≡ value (w ++ c ∷ [])
unfolding value
value_snoc w c n h = ap (λ z. z * 16 + digit_value c) h ∙ sym (onto_snoc w 0 c)

module _ (white_space : ℕ → Bool) (apart : Apart white_space) (a : Around) (q : Text) where
  abbrev machine : Text → State → Text → Outcome Spelled
  machine p s t = run (next white_space) (slip white_space a) p s t

  -- the end of an escape with one number
  sole_by : (b : Bool) (n : ℕ) (t p : Text) (go : State → Outcome Spelled) (c : ℕ) → Placed q (cond b (faulty invalid_escape q) (got (numbers (n ∷ [])) t))
      (turn (cond b (Some (invalid_escape, [])) None) (whole (numbers (n ∷ []))) go p c t)
  sole_by true n t p go c = (refl, refl)
  sole_by false n t p go c = (refl, refl)

  sole_placed : (a' : Around) (n m : ℕ) (t p : Text) (go : State → Outcome Spelled) (c : ℕ) → n ≡ m →
      Placed q (sole_in a' q n t) (turn (end_slip a' (whole (numbers (m ∷ [])))) (whole (numbers (m ∷ []))) go p c t)
  sole_placed (in_bracket both) n m t p go c e = (ap (λ z. numbers (z ∷ [])) e, refl)
  sole_placed in_string n m t p go c e = subst (λ z. Placed q (sole_in in_string q z t) (turn (end_slip in_string (whole (numbers (m ∷ [])))) (whole (numbers (m ∷ []))) go p c t)) (sym e)
      (sole_by (is_surrogate m) m t p go c)

end_refuses : (a : Around) → end_slip a refuses ≡ None
end_refuses in_string = refl
end_refuses (in_bracket both) = refl

end_goes : (a : Around) (s : State) → end_slip a (goes s) ≡ None
end_goes in_string s = refl
end_goes (in_bracket both) s = refl

end_itself : (a : Around) (c : ℕ) → end_slip a (whole (itself c)) ≡ None
end_itself in_string c = refl
end_itself (in_bracket both) c = refl

end_many : (a : Around) (n m : ℕ) (ns : List ℕ) → end_slip a (whole (numbers (n ∷ m ∷ ns))) ≡ None
end_many in_string n m ns = refl
end_many (in_bracket both) n m ns = refl

-- a long number's next digit
abbrev long_step : ℕ → ℕ → ℕ → Text → Bool → Outcome ℕ
long_step zero n c t h = and_then (cond h (got (n * 16 + digit_value c) t) (faulty (unexpected c) (c ∷ t))) (checked (c ∷ t))
long_step (suc k) n c t h = and_then (cond h (got (n * 16 + digit_value c) t) (faulty (unexpected c) (c ∷ t))) (long_in k)

module _ (white_space : ℕ → Bool) (apart : Apart white_space) (a : Around) (q : Text) where
  abbrev Go : Type 0
  Go = State → Outcome Spelled

  refused_at : (p t : Text) (c : ℕ) (go : Go) → q ≡ p ++ c ∷ t → Placed q (faulty (unexpected c) (c ∷ t)) (turn (end_slip a refuses) refuses go p c t)
  refused_at p t c go h = subst (λ x. Placed q (faulty (unexpected c) (c ∷ t)) (turn x refuses go p c t)) (sym (end_refuses a)) (refl, h)

  goes_on : (p t : Text) (c : ℕ) (s : State) (go : Go) (o : Outcome Spelled) → Placed q o (go s) → Placed q o (turn (end_slip a (goes s)) (goes s) go p c t)
  goes_on p t c s go o h = subst (λ x. Placed q o (turn x (goes s) go p c t)) (sym (end_goes a s)) h

  short_by : (t p w : Text) (k n c : ℕ) (h : Bool) → n ≡ value w → q ≡ p ++ c ∷ t →
      ((k : ℕ) (v : ℕ) → v ≡ value (w ++ c ∷ []) → Placed q (and_then (short_in (suc k) v t) (sole_in a q)) (machine white_space apart a q (p ++ c ∷ []) (fixed false k (w ++ c ∷ [])) t)) →
      Placed q (and_then (and_then (cond h (got (n * 16 + digit_value c) t) (faulty (unexpected c) (c ∷ t))) (short_in k)) (sole_in a q))
      (turn (end_slip a (cond h (next_fixed false k (w ++ c ∷ [])) refuses)) (cond h (next_fixed false k (w ++ c ∷ [])) refuses) (λ s. machine white_space apart a q (p ++ c ∷ []) s t) p c t)
  short_by t p w zero n c true e h ih =
      sole_placed white_space apart a q a (n * 16 + digit_value c) (value (w ++ c ∷ [])) t p (λ s. machine white_space apart a q (p ++ c ∷ []) s t) c (value_snoc w c n e)
  short_by t p w (suc k) n c true e h ih =
      goes_on p t c (fixed false k (w ++ c ∷ [])) (λ s. machine white_space apart a q (p ++ c ∷ []) s t)
      (and_then (short_in (suc k) (n * 16 + digit_value c) t) (sole_in a q)) (ih k (n * 16 + digit_value c) (value_snoc w c n e))
  short_by t p w k n c false e h ih = refused_at p t c (λ s. machine white_space apart a q (p ++ c ∷ []) s t) h

  short_placed : (t p w : Text) (k n : ℕ) → n ≡ value w → q ≡ p ++ t → Placed q (and_then (short_in (suc k) n t) (sole_in a q)) (machine white_space apart a q p (fixed false k w) t)
  unfolding digit_in
  short_placed [] p w k n e h = tt
  short_placed (c ∷ t) p w k n e h =
      short_by t p w k n c (is_hex c) e h (λ l v f. short_placed t (p ++ c ∷ []) (w ++ c ∷ []) l v f (further_text q p t c h))

  -- the last digit of a long number
  last_by : (t p w : Text) (n c : ℕ) (b : Bool) → n ≡ value (w ++ c ∷ []) → is_above (value (w ++ c ∷ [])) ≡ b → q ≡ p ++ c ∷ t → (go : Go) →
      Placed q (and_then (cond b (faulty invalid_escape (c ∷ t)) (got n t)) (sole_in a q))
      (turn (option_or (cond b (Some (invalid_escape, p)) None) (end_slip a (whole (numbers (value (w ++ c ∷ []) ∷ []))))) (whole (numbers (value (w ++ c ∷ []) ∷ []))) go p c t)
  last_by t p w n c true e eb h go = (refl, h)
  last_by t p w n c false e eb h go = sole_placed white_space apart a q a n (value (w ++ c ∷ [])) t p go c e

  long_by : (t p w : Text) (k n c : ℕ) (h : Bool) → n ≡ value w → q ≡ p ++ c ∷ t →
      ((k : ℕ) (v : ℕ) → v ≡ value (w ++ c ∷ []) → Placed q (and_then (long_in k v t) (sole_in a q)) (machine white_space apart a q (p ++ c ∷ []) (fixed true k (w ++ c ∷ [])) t)) →
      Placed q (and_then (long_step k n c t h) (sole_in a q))
      (turn (option_or (cond h (fixed_slip p k (value (w ++ c ∷ []))) None) (end_slip a (cond h (next_fixed true k (w ++ c ∷ [])) refuses)))
      (cond h (next_fixed true k (w ++ c ∷ [])) refuses) (λ s. machine white_space apart a q (p ++ c ∷ []) s t) p c t)
  long_by t p w zero n c true e h ih =
      subst (λ b. Placed q (and_then (cond b (faulty invalid_escape (c ∷ t)) (got (n * 16 + digit_value c) t)) (sole_in a q))
      (turn (option_or (cond (is_above (value (w ++ c ∷ []))) (Some (invalid_escape, p)) None) (end_slip a (whole (numbers (value (w ++ c ∷ []) ∷ [])))))
      (whole (numbers (value (w ++ c ∷ []) ∷ []))) (λ s. machine white_space apart a q (p ++ c ∷ []) s t) p c t))
      (ap is_above (sym (value_snoc w c n e)))
      (last_by t p w (n * 16 + digit_value c) c (is_above (value (w ++ c ∷ []))) (value_snoc w c n e) refl h (λ s. machine white_space apart a q (p ++ c ∷ []) s t))
  long_by t p w (suc k) n c true e h ih =
      goes_on p t c (fixed true k (w ++ c ∷ [])) (λ s. machine white_space apart a q (p ++ c ∷ []) s t)
      (and_then (long_in k (n * 16 + digit_value c) t) (sole_in a q)) (ih k (n * 16 + digit_value c) (value_snoc w c n e))
  long_by t p w zero n c false e h ih = refused_at p t c (λ s. machine white_space apart a q (p ++ c ∷ []) s t) h
  long_by t p w (suc k) n c false e h ih = refused_at p t c (λ s. machine white_space apart a q (p ++ c ∷ []) s t) h

  long_is : (k n c : ℕ) (t : Text) → long_in k n (c ∷ t) ≡ long_step k n c t (is_hex c)
  unfolding digit_in last_digit_in
  long_is zero n c t = refl
  long_is (suc k) n c t = refl

  long_placed : (t p w : Text) (k n : ℕ) → n ≡ value w → q ≡ p ++ t → Placed q (and_then (long_in k n t) (sole_in a q)) (machine white_space apart a q p (fixed true k w) t)
  unfolding digit_in last_digit_in
  long_placed [] p w zero n e h = tt
  long_placed [] p w (suc k) n e h = tt
  long_placed (c ∷ t) p w k n e h =
      subst (λ o. Placed q (and_then o (sole_in a q)) (machine white_space apart a q p (fixed true k w) (c ∷ t))) (sym (long_is k n c t))
      (long_by t p w k n c (is_hex c) e h (λ l v f. long_placed t (p ++ c ∷ []) (w ++ c ∷ []) l v f (further_text q p t c h)))

  all_placed : (p t : Text) (c : ℕ) (ns : List ℕ) (go : Go) → q ≡ p ++ c ∷ t → Placed q (all_in a q c ns t) (turn (end_slip a (close_or ns)) (close_or ns) go p c t)
  all_placed p t c [] go h = refused_at p t c go h
  all_placed p t c (n ∷ []) go h = sole_placed white_space apart a q a n n t p go c refl
  all_placed p t c (n ∷ m ∷ ns) go h =
      subst (λ x. Placed q (got (numbers (n ∷ m ∷ ns)) t) (turn x (whole (numbers (n ∷ m ∷ ns))) go p c t)) (sym (end_many a n m ns)) (refl, refl)

  -- a later number that is a surrogate
  later_placed : (a' : Around) (ns : List ℕ) (begin b : Text) (v : ℕ) (t p u : Text) (f : ℕ → Text → Outcome Spelled) (y : Slip) (n : Next State Spelled) (go : Go) (c : ℕ) →
      Placed q (f v t) (turn y n go p c u) → q ≡ b ++ begin → Placed q (and_then (later_in a' ns begin v t) f) (turn (option_or (later a' ns b v) y) n go p c u)
  later_placed (in_bracket both) [] begin b v t p u f y n go c h e = h
  later_placed (in_bracket both) (m ∷ ns) begin b v t p u f y n go c h e = h
  later_placed in_string [] begin b v t p u f y n go c h e = h
  later_placed in_string (m ∷ ns) begin b v t p u f y n go c h e = by (is_surrogate v)
    where
      by : (z : Bool) → Placed q (and_then (cond z (faulty invalid_escape begin) (got v t)) f) (turn (option_or (cond z (Some (invalid_escape, b)) None) y) n go p c u)
      by true = (refl, e)
      by false = h

  -- the second number
  second_placed : (a' : Around) (ns : List ℕ) (o : Outcome Spelled) (y : Slip) (n : Next State Spelled) (go : Go) (p u : Text) (c : ℕ) →
      Placed q o (turn y n go p c u) → Placed q (second_in a' q ns o) (turn (option_or (second a' ns) y) n go p c u)
  second_placed a' [] o y n go p u c h = h
  second_placed (in_bracket true) (m ∷ []) o y n go p u c h = h
  second_placed (in_bracket false) (m ∷ []) o y n go p u c h = (refl, refl)
  second_placed in_string (m ∷ k ∷ ns) o y n go p u c h = h
  second_placed (in_bracket both) (m ∷ k ∷ ns) o y n go p u c h = h
  second_placed in_string (m ∷ []) o y n go p u c h = by (is_surrogate m)
    where
      by : (z : Bool) → Placed q (cond z (faulty invalid_escape q) o) (turn (option_or (cond z (Some (invalid_escape, [])) None) y) n go p c u)
      by true = (refl, refl)
      by false = h

  abbrev Reads : ℕ → Type 0
  Reads f = (t p : Text) (ns : List ℕ) → length t < f → q ≡ p ++ t → Placed q (numbers_in white_space a q f ns t) (machine white_space apart a q p (awaits ns) t)

  closes : (ns : List ℕ) (v : ℕ) → close_or (ns ++ v ∷ []) ≡ whole (numbers (ns ++ v ∷ []))
  closes [] v = refl
  closes (n ∷ ns) v = refl

  abbrev behind : ℕ → List ℕ → ℕ → Text → Outcome Spelled
  behind f ns n t = behind_number white_space a q (numbers_in white_space a q f) (ns ++ n ∷ []) t

  behind_placed : (f : ℕ) (t p w b : Text) (ns : List ℕ) (m c : ℕ) → Reads f → Sort white_space c → is_hex c ≡ false → length t < f → q ≡ p ++ c ∷ t →
      Placed q (behind f ns (value w) (c ∷ t)) (turn (end_slip a (next white_space p (number ns m w b) c)) (next white_space p (number ns m w b) c) (λ s. machine white_space apart a q (p ++ c ∷ []) s t) p c t)
  behind_placed f t p w b ns m c all (digit h r s) isnt few e = absurd (let g : true ≡ false = sym h ∙ isnt in cc)
  behind_placed f t p w b ns m c all (brace h r) isnt few e =
      rw (h, r) (subst (λ n. Placed q (all_in a q c (ns ++ value w ∷ []) t) (turn (end_slip a n) n (λ s. machine white_space apart a q (p ++ c ∷ []) s t) p c t)) (closes ns (value w))
      (all_placed p t c (ns ++ value w ∷ []) (λ s. machine white_space apart a q (p ++ c ∷ []) s t) e))
  behind_placed f t p w b ns m c all (white h r s) isnt few e =
      rw (h, r, s) (goes_on p t c (awaits (ns ++ value w ∷ [])) (λ s. machine white_space apart a q (p ++ c ∷ []) s t) (numbers_in white_space a q f (ns ++ value w ∷ []) t)
      (all t (p ++ c ∷ []) (ns ++ value w ∷ []) few (further_text q p t c e)))
  behind_placed f t p w b ns m c all (stray h r s) isnt few e = rw (h, r, s) (refused_at p t c (λ s. machine white_space apart a q (p ++ c ∷ []) s t) e)

  sixth_placed : (ns : List ℕ) (begin b : Text) (v : ℕ) (t p : Text) (f : ℕ → Text → Outcome Spelled) (s : State) (go : Go) (c : ℕ) → Placed q (f v t) (go s) → q ≡ p ++ c ∷ t → q ≡ b ++ begin →
      Placed q (and_then (sixth_in a ns begin v (c ∷ t) t) f) (turn (option_or (sixth a p ns 1 b v) (end_slip a (goes s))) (goes s) go p c t)
  sixth_placed ns begin b v t p f s go c h e g = by (is_above v)
    where
      by : (z : Bool) → Placed q (and_then (cond z (faulty invalid_escape (c ∷ t)) (later_in a ns begin v t)) f) (turn (option_or (cond z (Some (invalid_escape, p)) (later a ns b v)) (end_slip a (goes s))) (goes s) go p c t)
      by true = (refl, e)
      by false = later_placed a ns begin b v t p t f (end_slip a (goes s)) (goes s) go c (goes_on p t c s go (f v t) h) g

  digit_placed : (t : Text) (f : ℕ) (p w b begin : Text) (ns : List ℕ) (m n c : ℕ) → is_hex c ≡ true → n ≡ value w → q ≡ p ++ c ∷ t → q ≡ b ++ begin →
      ((l v : ℕ) → v ≡ value (w ++ c ∷ []) → Placed q (and_then (number_in a ns begin l v t) (behind f ns)) (machine white_space apart a q (p ++ c ∷ []) (number ns l (w ++ c ∷ []) b) t)) →
      Placed q (and_then (number_in a ns begin m n (c ∷ t)) (behind f ns)) (machine white_space apart a q p (number ns m w b) (c ∷ t))
  digit_placed t f p w b begin ns zero n c h e g i ih = let r = hex_no_brace c h in rw (r, h) (refused_at p t c (λ s. machine white_space apart a q (p ++ c ∷ []) s t) g)
  digit_placed t f p w b begin ns (suc zero) n c h e g i ih =
      rw (h, value_snoc w c n e) (sixth_placed ns begin b (value (w ++ c ∷ [])) t p (behind f ns) (number ns zero (w ++ c ∷ []) b) (λ s. machine white_space apart a q (p ++ c ∷ []) s t) c
      (ih zero (value (w ++ c ∷ [])) refl) g i)
  digit_placed t f p w b begin ns (suc (suc m)) n c h e g i ih =
      rw h (goes_on p t c (number ns (suc m) (w ++ c ∷ []) b) (λ s. machine white_space apart a q (p ++ c ∷ []) s t)
      (and_then (number_in a ns begin (suc m) (n * 16 + digit_value c) t) (behind f ns)) (ih (suc m) (n * 16 + digit_value c) (value_snoc w c n e)))

  stays_later : (ns : List ℕ) (begin : Text) (m n c : ℕ) (t : Text) → is_hex c ≡ false → number_in a ns begin (suc m) n (c ∷ t) ≡ later_in a ns begin n (c ∷ t)
  stays_later ns begin zero n c t h = rw h refl
  stays_later ns begin (suc m) n c t h = rw h refl

  within_later : (p w b : Text) (ns : List ℕ) (m c : ℕ) → is_hex c ≡ false → within a p (number ns (suc m) w b) c ≡ later a ns b (value w)
  within_later p w b ns m c h = rw h refl

  within_full : (p w b : Text) (ns : List ℕ) (c : ℕ) → is_hex c ≡ false → within a p (number ns zero w b) c ≡ None
  within_full p w b ns c h = rw h refl

  end_placed : (t : Text) (f : ℕ) (p w b begin : Text) (ns : List ℕ) (m c : ℕ) → Reads f → Sort white_space c → is_hex c ≡ false → length t < f → q ≡ p ++ c ∷ t → q ≡ b ++ begin →
      Placed q (and_then (number_in a ns begin m (value w) (c ∷ t)) (behind f ns)) (machine white_space apart a q p (number ns m w b) (c ∷ t))
  end_placed t f p w b begin ns zero c all sort' h few g i =
      subst (λ x. Placed q (behind f ns (value w) (c ∷ t)) (turn (option_or x (end_slip a (next white_space p (number ns zero w b) c))) (next white_space p (number ns zero w b) c)
      (λ s. machine white_space apart a q (p ++ c ∷ []) s t) p c t)) (sym (within_full p w b ns c h)) (behind_placed f t p w b ns zero c all sort' h few g)
  end_placed t f p w b begin ns (suc m) c all sort' h few g i =
      subst (λ o. Placed q (and_then o (behind f ns)) (machine white_space apart a q p (number ns (suc m) w b) (c ∷ t))) (sym (stays_later ns begin m (value w) c t h))
      (subst (λ x. Placed q (and_then (later_in a ns begin (value w) (c ∷ t)) (behind f ns)) (turn (option_or x (end_slip a (next white_space p (number ns (suc m) w b) c))) (next white_space p (number ns (suc m) w b) c)
      (λ s. machine white_space apart a q (p ++ c ∷ []) s t) p c t)) (sym (within_later p w b ns m c h))
      (later_placed a ns begin b (value w) (c ∷ t) p t (behind f ns) (end_slip a (next white_space p (number ns (suc m) w b) c)) (next white_space p (number ns (suc m) w b) c)
      (λ s. machine white_space apart a q (p ++ c ∷ []) s t) c (behind_placed f t p w b ns (suc m) c all sort' h few g) i))

  number_placed : (t : Text) (f : ℕ) (p w b begin : Text) (ns : List ℕ) (m n : ℕ) → Reads f → n ≡ value w → length t ≤ f → q ≡ p ++ t → q ≡ b ++ begin →
      Placed q (and_then (number_in a ns begin m n t) (behind f ns)) (machine white_space apart a q p (number ns m w b) t)
  number_placed [] f p w b begin ns zero n all e few g i = tt
  number_placed [] f p w b begin ns (suc m) n all e few g i = tt
  number_placed (c ∷ t) f p w b begin ns m n all e few g i = elim (cases_Bool (is_hex c)) [
    | inl is ↦ digit_placed t f p w b begin ns m n c is e g i (λ l v k. number_placed t f (p ++ c ∷ []) (w ++ c ∷ []) b begin ns l v all k (omega (arith, few)) (further_text q p t c g) i)
    | inr isnt ↦ subst (λ z. Placed q (and_then (number_in a ns begin m z (c ∷ t)) (behind f ns)) (machine white_space apart a q p (number ns m w b) (c ∷ t))) (sym e) (end_placed t f p w b begin ns m c all (sort white_space apart c) isnt (omega (arith, few)) g i)
  ]

  one_value : (c : ℕ) → digit_value c ≡ value (c ∷ [])
  unfolding value
  one_value c = omega arith

  no_white : (c : ℕ) → (c == 0x7D) ≡ true → white_space c ≡ false
  no_white c h = ap white_space (eqb-true c 0x7D h) ∙ apart.no_brace

  awaits_by : (f : ℕ) (c : ℕ) (t p : Text) (ns : List ℕ) → Reads f → Sort white_space c → length t ≤ f → q ≡ p ++ c ∷ t →
      Placed q (number_or white_space a q (numbers_in white_space a q f) ns (skip white_space t)) (machine white_space apart a q (p ++ c ∷ []) (awaits ns) t) ⊎ (white_space c ≡ false) →
      Placed q (number_or white_space a q (numbers_in white_space a q f) ns (skip white_space (c ∷ t))) (machine white_space apart a q p (awaits ns) (c ∷ t))
  awaits_by f c t p ns all (digit h r s) few g ih =
      rw (s, r, h) (subst (λ o. Placed q o (turn (option_or (second a ns) (end_slip a (goes (number ns 5 (c ∷ []) p)))) (goes (number ns 5 (c ∷ []) p)) (λ s. machine white_space apart a q (p ++ c ∷ []) s t) p c t))
      (second_then a q ns (number_in a ns (c ∷ t) 5 (digit_value c) t) (behind f ns) ∙ ap (λ o. and_then o (behind f ns)) (sym (number_is a q ns c t h)))
      (second_placed a ns (and_then (number_in a ns (c ∷ t) 5 (digit_value c) t) (behind f ns)) (end_slip a (goes (number ns 5 (c ∷ []) p))) (goes (number ns 5 (c ∷ []) p))
      (λ s. machine white_space apart a q (p ++ c ∷ []) s t) p t c
      (goes_on p t c (number ns 5 (c ∷ []) p) (λ s. machine white_space apart a q (p ++ c ∷ []) s t) (and_then (number_in a ns (c ∷ t) 5 (digit_value c) t) (behind f ns))
      (number_placed t f (p ++ c ∷ []) (c ∷ []) p (c ∷ t) ns 5 (digit_value c) all (one_value c) few (further_text q p t c g) g))))
  awaits_by f c t p ns all (brace h r) few g ih = let s = no_white c r in rw (s, h, r) (all_placed p t c ns (λ s. machine white_space apart a q (p ++ c ∷ []) s t) g)
  awaits_by f c t p ns all (white h r s) few g (inl ih) = rw (s, h, r) (goes_on p t c (awaits ns) (λ s. machine white_space apart a q (p ++ c ∷ []) s t) (number_or white_space a q (numbers_in white_space a q f) ns (skip white_space t)) ih)
  awaits_by f c t p ns all (white h r s) few g (inr isnt) = absurd (let e : true ≡ false = sym s ∙ isnt in cc)
  awaits_by f c t p ns all (stray h r s) few g ih = rw (s, r, no_number_is a q ns c t h, h) (refused_at p t c (λ s. machine white_space apart a q (p ++ c ∷ []) s t) g)

  awaits_placed : (f : ℕ) (t p : Text) (ns : List ℕ) → Reads f → length t ≤ f → q ≡ p ++ t →
      Placed q (number_or white_space a q (numbers_in white_space a q f) ns (skip white_space t)) (machine white_space apart a q p (awaits ns) t)
  awaits_placed f [] p ns all few g = tt
  awaits_placed f (c ∷ t) p ns all few g =
      awaits_by f c t p ns all (sort white_space apart c) (omega (arith, few)) g (inl (awaits_placed f t (p ++ c ∷ []) ns all (omega (arith, few)) (further_text q p t c g)))

  numbers_placed : (f : ℕ) → Reads f
  numbers_placed zero t p ns few g = absurd (omega (arith, few))
  numbers_placed (suc f) t p ns few g = awaits_placed f t p ns (numbers_placed f) (omega (arith, few)) g

  zero_value : 0 ≡ value []
  unfolding value
  zero_value = refl

  brace_by : (t p : Text) (k c : ℕ) (b h : Bool) → is_hex c ≡ h → q ≡ p ++ c ∷ t →
      Placed q (cond b (numbers_in white_space a q (suc (length t)) [] t) (and_then (and_then (cond h (got (0 * 16 + digit_value c) t) (faulty (unexpected c) (c ∷ t))) (short_in k)) (sole_in a q)))
      (turn (end_slip a (cond b (goes (awaits [])) (cond h (next_fixed false k (c ∷ [])) refuses))) (cond b (goes (awaits [])) (cond h (next_fixed false k (c ∷ [])) refuses))
      (λ s. machine white_space apart a q (p ++ c ∷ []) s t) p c t)
  brace_by t p k c true h eh g =
      goes_on p t c (awaits []) (λ s. machine white_space apart a q (p ++ c ∷ []) s t) (numbers_in white_space a q (suc (length t)) [] t)
      (numbers_placed (suc (length t)) t (p ++ c ∷ []) [] (omega arith) (further_text q p t c g))
  brace_by t p k c false h eh g = short_by t p [] k 0 c h zero_value g (λ l v e. short_placed t (p ++ c ∷ []) (c ∷ []) l v e (further_text q p t c g))

  brace_or_placed : (t p : Text) (k : ℕ) (digits : ℕ → Text → Outcome ℕ) → ((n : ℕ) (u : Text) → digits n u ≡ short_in (suc k) n u) → q ≡ p ++ t →
      Placed q (R.brace_or white_space a q digits t) (machine white_space apart a q p (brace_or k) t)
  unfolding digit_in braced_in
  brace_or_placed [] p k digits same g = tt
  brace_or_placed (c ∷ t) p k digits same g =
      subst (λ o. Placed q (cond (c == 0x7B) (braced_in white_space a q t) (and_then o (sole_in a q))) (machine white_space apart a q p (brace_or k) (c ∷ t))) (sym (same 0 (c ∷ t)))
      (brace_by t p k c (c == 0x7B) (is_hex c) refl g)

  zero_by : (t p : Text) (c : ℕ) (s : State) (more : Text → Outcome Spelled) (b : Bool) → q ≡ p ++ c ∷ t → Placed q (more t) (machine white_space apart a q (p ++ c ∷ []) s t) →
      Placed q (cond b (more t) (faulty (unexpected c) (c ∷ t))) (turn (end_slip a (cond b (goes s) refuses)) (cond b (goes s) refuses) (λ s. machine white_space apart a q (p ++ c ∷ []) s t) p c t)
  zero_by t p c s more true g h = goes_on p t c s (λ s. machine white_space apart a q (p ++ c ∷ []) s t) (more t) h
  zero_by t p c s more false g h = refused_at p t c (λ s. machine white_space apart a q (p ++ c ∷ []) s t) g

  second_zero_placed : (t p : Text) → q ≡ p ++ t → Placed q (zero_then (long_digits a q) t) (machine white_space apart a q p zero_second t)
  unfolding zero_then
  second_zero_placed [] p g = tt
  second_zero_placed (c ∷ t) p g = zero_by t p c (fixed true 5 []) (long_digits a q) (c == 0x30) g (long_placed t (p ++ c ∷ []) [] 5 0 zero_value (further_text q p t c g))

  first_zero_placed : (t p : Text) → q ≡ p ++ t → Placed q (zero_then (zero_then (long_digits a q)) t) (machine white_space apart a q p zero_first t)
  unfolding zero_then
  first_zero_placed [] p g = tt
  first_zero_placed (c ∷ t) p g = zero_by t p c zero_second (zero_then (long_digits a q)) (c == 0x30) g (second_zero_placed t (p ++ c ∷ []) (further_text q p t c g))

  letter_placed : (t p : Text) (c : ℕ) (l : Letter) → q ≡ p ++ c ∷ t → Placed q (letter_in white_space a q l c t)
      (turn (option_or (letter_slip p l) (end_slip a (at_letter l c))) (at_letter l c) (λ s. machine white_space apart a q (p ++ c ∷ []) s t) p c t)
  letter_placed t p c four g = goes_on p t c (brace_or 3) (λ s. machine white_space apart a q (p ++ c ∷ []) s t) (R.brace_or white_space a q four_digits_in t) (brace_or_placed t (p ++ c ∷ []) 3 four_digits_in four_are_short (further_text q p t c g))
  letter_placed t p c two g = goes_on p t c (brace_or 1) (λ s. machine white_space apart a q (p ++ c ∷ []) s t) (R.brace_or white_space a q two_digits_in t) (brace_or_placed t (p ++ c ∷ []) 1 two_digits_in two_are_short (further_text q p t c g))
  letter_placed t p c six g = goes_on p t c zero_first (λ s. machine white_space apart a q (p ++ c ∷ []) s t) (long_escape a q t)
      (subst (λ o. Placed q o (machine white_space apart a q (p ++ c ∷ []) zero_first t)) (sym (long_is_zeros a q t)) (first_zero_placed t (p ++ c ∷ []) (further_text q p t c g)))
  letter_placed t p c name g = (refl, g)
  letter_placed t p c other g = subst (λ x. Placed q (got (itself (plain c)) t) (turn x (whole (itself (plain c))) (λ s. machine white_space apart a q (p ++ c ∷ []) s t) p c t)) (sym (end_itself a (plain c))) (refl, refl)

  pub letters_placed : (t p : Text) → q ≡ p ++ t → Placed q (letters_in white_space a q t) (machine white_space apart a q p letters t)
  letters_placed [] p g = tt
  letters_placed (c ∷ t) p g = letter_placed t p c (letter c) g

-- what the parts say of an escape is the machine's outcome
escape_placed : (white_space : ℕ → Bool) → Apart white_space → (a : Around) (t : Text) →
    Placed (0x5C ∷ t) (letters_in white_space a (0x5C ∷ t) t) (run (next white_space) (slip white_space a) [] start (0x5C ∷ t))
escape_placed white_space apart in_string t = letters_placed white_space apart in_string (0x5C ∷ t) t (0x5C ∷ []) refl
escape_placed white_space apart (in_bracket both) t = letters_placed white_space apart (in_bracket both) (0x5C ∷ t) t (0x5C ∷ []) refl

pub escapes_by_parts : EscapesByParts
escapes_by_parts white_space apart a q t e =
    subst (λ z. TellsOutcome (EscapeOutcome white_space a z) z (letters_in white_space a z t)) (sym e)
    (placed_tells (EscapeOutcome white_space a (0x5C ∷ t)) (0x5C ∷ t) (letters_in white_space a (0x5C ∷ t) t) (outcome white_space apart a (0x5C ∷ t))
    (escape_placed white_space apart a t) (escape_answered white_space apart a t))
