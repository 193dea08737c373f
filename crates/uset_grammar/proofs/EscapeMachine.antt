-- The machine of escapes, and that it reads their shapes.
use Rattle.std.proofs.Common.{◌≡◌, ◌≤◌, ℕ, zero, suc, ◌+◌, Bool, true, false, ◌&&◌, cond, List, [], ◌∷◌, ◌++◌, length, Option, Some, None, refl, sym, ap, ◌∙◌, inl, inr, append_assoc, append-nil, arith}
use Rattle.std.proofs.lemmas.List.{length_push}
use mathlib.Core.Logic.{◌⊎◌}
use Rattle.std.specs.Prelude.{◌==◌, nat_le, if◌then◌else◌}
use Rattle.std.specs.List.{list_all}
use Rattle.std.proofs.lemmas.Bool.{both_ways, cases_Bool, eqb-true, false_from_ne_true, le-leb, and_left, and_right}
use Rattle.std.proofs.lemmas.Bool.Decides.{nat_tests}
use Rattle.std.proofs.lemmas.List.Folds.{list_all-append}
use Rattle.uset_grammar.specs.Text.{Text, ◌>>=◌, behind_code}
use Rattle.uset_grammar.specs.Outcome.{Outcome, got, faulty, ended}
use Rattle.uset_grammar.specs.Escape.{Apart, is_hex, value, is_number, Spelled, named, itself, numbers, digits, up_to_brace, with_word, words, values, at_least_one, braced_or, plain, Letter, four, two, six, name, other, letter, escape_by, escape_at, escape_shape}
use Rattle.uset_grammar.proofs.Binding.{bind_assoc}
use Rattle.uset_grammar.proofs.UnitMachine.{Next, goes, whole, refuses, turn, run, free}

-- What an escape awaits.
pub data State : Type 0 where
  start : State
  letters : State
  -- a brace, or so many digits and one more
  brace_or : ℕ → State
  zero_first : State
  zero_second : State
  -- so many digits and one more, behind those read; whether there are six
  fixed : Bool → ℕ → Text → State
  -- a number or more white space, behind the numbers read
  awaits : List ℕ → State
  -- at most so many digits more, behind the numbers and the digits read, which began behind a text
  number : List ℕ → ℕ → Text → Text → State

abbrev pub at_letter : Letter → ℕ → Next State Spelled
at_letter four c = goes (brace_or 3)
at_letter two c = goes (brace_or 1)
at_letter six c = goes zero_first
at_letter name c = whole named
at_letter other c = whole (itself (plain c))

abbrev pub next_fixed : Bool → ℕ → Text → Next State Spelled
next_fixed long zero read = whole (numbers (value read ∷ []))
next_fixed long (suc k) read = goes (fixed long k read)

abbrev pub next_digit : List ℕ → ℕ → Text → Text → Next State Spelled
next_digit ns zero read before = refuses
next_digit ns (suc m) read before = goes (number ns m read before)

abbrev pub close_or : List ℕ → Next State Spelled
close_or [] = refuses
close_or (n ∷ ns) = whole (numbers (n ∷ ns))

module _ (white_space : ℕ → Bool) where
  abbrev pub next : Text → State → ℕ → Next State Spelled
  next p start c = if c == 0x5C then goes letters else refuses
  next p letters c = at_letter (letter c) c
  next p (brace_or k) c = if c == 0x7B then goes (awaits []) else if is_hex c then next_fixed false k (c ∷ []) else refuses
  next p zero_first c = if c == 0x30 then goes zero_second else refuses
  next p zero_second c = if c == 0x30 then goes (fixed true 5 []) else refuses
  next p (fixed long k read) c = if is_hex c then next_fixed long k (read ++ c ∷ []) else refuses
  next p (awaits ns) c =
      if is_hex c then goes (number ns 5 (c ∷ []) p)
      else if c == 0x7D then close_or ns
      else if white_space c then goes (awaits ns)
      else refuses
  next p (number ns m read before) c =
      if is_hex c then next_digit ns m (read ++ c ∷ []) before
      else if c == 0x7D then whole (numbers (ns ++ value read ∷ []))
      else if white_space c then goes (awaits (ns ++ value read ∷ []))
      else refuses

-- what was read whole, and what stands behind it
abbrev pub read_whole : {V : Type 0} → Outcome V → Option (V × Text)
read_whole (got v t) = Some (v, t)
read_whole (faulty k b) = None
read_whole ended = None

-- what a character is in braces
pub data Sort (white_space : ℕ → Bool) (c : ℕ) : Type 0 where
  digit : is_hex c ≡ true → (c == 0x7D) ≡ false → white_space c ≡ false → Sort white_space c
  brace : is_hex c ≡ false → (c == 0x7D) ≡ true → Sort white_space c
  white : is_hex c ≡ false → (c == 0x7D) ≡ false → white_space c ≡ true → Sort white_space c
  stray : is_hex c ≡ false → (c == 0x7D) ≡ false → white_space c ≡ false → Sort white_space c

is_brace : (c : ℕ) → (c == 0x7D) ≡ true → c ≡ 0x7D
is_brace c h = eqb-true c 0x7D h

brace_no_digit : is_hex 0x7D ≡ false
unfolding is_hex
brace_no_digit = refl

a_is_digit : is_hex 0x61 ≡ true
unfolding is_hex
a_is_digit = refl

-- An `a` is a hexadecimal digit, and so no white space.
pub letter_apart : (white_space : ℕ → Bool) → Apart white_space → white_space 0x61 ≡ false
letter_apart white_space apart = false_from_ne_true _ (λ e. both_ways _ (apart.no_digit 0x61 e) a_is_digit)

differ : (a : Bool) → a ≡ true → a ≡ false → ⊥
differ a h k = let e : true ≡ false = sym h ∙ k in cc

module _ (white_space : ℕ → Bool) (apart : Apart white_space) where
  sort_by : (c : ℕ) (h b w : Bool) → is_hex c ≡ h → (c == 0x7D) ≡ b → white_space c ≡ w → Sort white_space c
  sort_by c true true w eh eb ew = absurd (let e : true ≡ false = sym eh ∙ (ap is_hex (is_brace c eb) ∙ brace_no_digit) in cc)
  sort_by c true false true eh eb ew = absurd (differ (is_hex c) eh (apart.no_digit c ew))
  sort_by c true false false eh eb ew = digit eh eb ew
  sort_by c false true w eh eb ew = brace eh eb
  sort_by c false false true eh eb ew = white eh eb ew
  sort_by c false false false eh eb ew = stray eh eb ew

  pub sort : (c : ℕ) → Sort white_space c
  sort c = sort_by c (is_hex c) (c == 0x7D) (white_space c) refl refl refl

-- the digits of a number, of which at most so many more may come
pub record Digits (read : Text) (m : ℕ) : Type 0 where
  pub hex : list_all is_hex read ≡ true
  pub some : 1 ≤ length read
  pub most : length read + m ≡ 6

pub all_snoc : (test : ℕ → Bool) (w : Text) (c : ℕ) → list_all test w ≡ true → test c ≡ true → list_all test (w ++ c ∷ []) ≡ true
all_snoc test w c h k = list_all-append test w (c ∷ []) ∙ (λ i. h i && (k i && true))

pub one_digit : (c : ℕ) → is_hex c ≡ true → Digits (c ∷ []) 5
one_digit c h = record { hex = ap (λ b. b && true) h; some = omega arith; most = omega arith }

pub more_digits : (w : Text) (c m : ℕ) → is_hex c ≡ true → Digits w (suc m) → Digits (w ++ c ∷ []) m
more_digits w c m h d =
    let l = length_push w c in
    record { hex = all_snoc is_hex w c d.hex h; some = omega arith; most = omega arith }

pub digits_number : (w : Text) (m : ℕ) → Digits w m → is_number w ≡ true
unfolding is_number
digits_number w m d =
    (λ i. d.hex i && (le-leb 1 (length w) d.some i && le-leb (length w) 6 (omega arith) i))

-- what no number is, whatever stands behind it
record Bad (w : Text) : Type 0 where
  some : 1 ≤ length w
  bad : (list_all is_hex w ≡ false) ⊎ (7 ≤ length w)

bad_longer : (w : Text) (c : ℕ) → Bad w → Bad (w ++ c ∷ [])
bad_longer w c b = let l = length_push w c in record {
  some = omega (arith, b.some);
  bad = elim b.bad [
    | inl isnt ↦ inl (list_all-append is_hex w (c ∷ []) ∙ and_left (list_all is_hex w) (is_hex c && true) isnt)
    | inr long ↦ inr (omega arith)
  ];
}

bad_number : (w : Text) → Bad w → is_number w ≡ false
unfolding is_number
bad_number w b = elim b.bad [
  | inl isnt ↦ ap (λ x. x && (nat_le 1 (length w) && nat_le (length w) 6)) isnt
  | inr long ↦ and_right (list_all is_hex w) (nat_le 1 (length w) && nat_le (length w) 6) (and_right (nat_le 1 (length w)) (nat_le (length w) 6) (grind (arith, nat_tests)))
]

stray_bad : (w : Text) (c : ℕ) → is_hex c ≡ false → Bad (w ++ c ∷ [])
stray_bad w c h = let l = length_push w c in record {
  some = omega arith;
  bad = inl (list_all-append is_hex w (c ∷ []) ∙ and_right (list_all is_hex w) (is_hex c && true) (and_left (is_hex c) true h));
}

bad_word : (w : Text) (l : List Text) → Bad w → values (with_word w l) ≡ None
bad_word [] l b = absurd (let s = b.some in omega arith)
bad_word (c ∷ w) l b = rw (bad_number (c ∷ w) b) refl

good_word : (w : Text) (l : List Text) → is_number w ≡ true → values (with_word w l) ≡ (values l >>= λ ns. Some (value w ∷ ns))
unfolding is_number
good_word [] l h = absurd (let e = h in cc)
good_word (c ∷ w) l h = rw h refl

module _ (white_space : ℕ → Bool) where
  bad_words : (w i : Text) → Bad w → values (words white_space w i) ≡ None
  bad_words w [] b = bad_word w [] b
  bad_words w (c ∷ i) b = elim (cases_Bool (white_space c)) [
    | inl is ↦ rw is (bad_word w (words white_space [] i) b)
    | inr isnt ↦ rw isnt (bad_words (w ++ c ∷ []) i (bad_longer w c b))
  ]

  -- the numbers in braces behind those read and the digits read
  abbrev pub finish : List ℕ → Text → Text × Text → Option (Spelled × Text)
  finish ns w p = values (words white_space w p.0) >>= λ ms. at_least_one (ns ++ ms) p.1

  abbrev pub inner : List ℕ → Text → Text → Option (Spelled × Text)
  inner ns w t = up_to_brace t >>= finish ns w

  inner_step : (ns : List ℕ) (w t : Text) (c : ℕ) → (c == 0x7D) ≡ false → inner ns w (c ∷ t) ≡ (up_to_brace t >>= λ p. finish ns w (c ∷ p.0, p.1))
  inner_step ns w t c isnt = rw isnt (bind_assoc (up_to_brace t) (λ p. Some (c ∷ p.0, p.1)) (finish ns w))

  -- a character of a word
  inner_in_word : (ns : List ℕ) (w t : Text) (c : ℕ) → (c == 0x7D) ≡ false → white_space c ≡ false → inner ns w (c ∷ t) ≡ inner ns (w ++ c ∷ []) t
  inner_in_word ns w t c isnt word = inner_step ns w t c isnt ∙ (λ i. up_to_brace t >>= λ p. values (cond (word i) (with_word w (words white_space [] p.0)) (words white_space (w ++ c ∷ []) p.0)) >>= λ ms. at_least_one (ns ++ ms) p.1)

  inner_white : (ns : List ℕ) (t : Text) (c : ℕ) → (c == 0x7D) ≡ false → white_space c ≡ true → inner ns [] (c ∷ t) ≡ inner ns [] t
  inner_white ns t c isnt blank = inner_step ns [] t c isnt ∙ (λ i. up_to_brace t >>= λ p. values (cond (blank i) (words white_space [] p.0) (words white_space (c ∷ []) p.0)) >>= λ ms. at_least_one (ns ++ ms) p.1)

  word_ends : (ns : List ℕ) (w : Text) (p : Text × Text) (c : ℕ) → white_space c ≡ true → is_number w ≡ true → finish ns w (c ∷ p.0, p.1) ≡ finish (ns ++ value w ∷ []) [] p
  word_ends ns w p c blank counted =
      (λ i. values (cond (blank i) (with_word w (words white_space [] p.0)) (words white_space (w ++ c ∷ []) p.0)) >>= λ ms. at_least_one (ns ++ ms) p.1)
      ∙ (ap (λ o. o >>= λ ms. at_least_one (ns ++ ms) p.1) (good_word w (words white_space [] p.0) counted)
      ∙ (bind_assoc (values (words white_space [] p.0)) (λ ms. Some (value w ∷ ms)) (λ ms. at_least_one (ns ++ ms) p.1)
      ∙ (λ i. values (words white_space [] p.0) >>= λ ms. at_least_one (sym (append_assoc ns (value w ∷ []) ms) i) p.1)))

  inner_after_word : (ns : List ℕ) (w t : Text) (c : ℕ) → (c == 0x7D) ≡ false → white_space c ≡ true → is_number w ≡ true → inner ns w (c ∷ t) ≡ inner (ns ++ value w ∷ []) [] t
  inner_after_word ns w t c isnt blank counted = inner_step ns w t c isnt ∙ (λ i. up_to_brace t >>= λ p. word_ends ns w p c blank counted i)

  bad_inner : (ns : List ℕ) (w t : Text) → Bad w → inner ns w t ≡ None
  bad_inner ns w t b = none (up_to_brace t)
    where
      none : (o : Option (Text × Text)) → (o >>= finish ns w) ≡ None
      none None = refl
      none (Some p) = rw (bad_words w p.0 b) refl

close_read : (ns : List ℕ) (go : State → Outcome Spelled) (p t : Text) (c : ℕ) → read_whole (turn None (close_or ns) go p c t) ≡ at_least_one (ns ++ []) t
close_read [] go p t c = refl
close_read (n ∷ ns) go p t c = ap (λ ms. Some (numbers (n ∷ ms), t)) (sym (append-nil ns))

last_read : (ns : List ℕ) (n : ℕ) (t : Text) → Some (numbers (ns ++ n ∷ []), t) ≡ at_least_one (ns ++ n ∷ []) t
last_read [] n t = refl
last_read (m ∷ ns) n t = refl

module _ (white_space : ℕ → Bool) (apart : Apart white_space) where
  -- what the machine reads of a text, in braces
  abbrev pub Braces : Text → Type 0
  Braces t =
      ((p : Text) (ns : List ℕ) → read_whole (run (next white_space) free p (awaits ns) t) ≡ inner white_space ns [] t)
      × ((p : Text) (ns : List ℕ) (m : ℕ) (w b : Text) → Digits w m → read_whole (run (next white_space) free p (number ns m w b) t) ≡ inner white_space ns w t)

  -- a step that goes on
  step_on : (p t : Text) (s e : State) (c : ℕ) (o : Option (Spelled × Text)) → next white_space p s c ≡ goes e → read_whole (run (next white_space) free (p ++ c ∷ []) e t) ≡ o →
      read_whole (run (next white_space) free p s (c ∷ t)) ≡ o
  step_on p t s e c o is h = ap (λ n. read_whole (turn None n (λ s'. run (next white_space) free (p ++ c ∷ []) s' t) p c t)) is ∙ h

  step_refuses : (p t : Text) (s : State) (c : ℕ) → next white_space p s c ≡ refuses → read_whole (run (next white_space) free p s (c ∷ t)) ≡ None
  step_refuses p t s c is = ap (λ n. read_whole (turn None n (λ s'. run (next white_space) free (p ++ c ∷ []) s' t) p c t)) is

  awaits_step : (c : ℕ) (t : Text) (p : Text) (ns : List ℕ) → Braces t → Sort white_space c → read_whole (run (next white_space) free p (awaits ns) (c ∷ t)) ≡ inner white_space ns [] (c ∷ t)
  awaits_step c t p ns ih (digit h b w) =
      step_on p t (awaits ns) (number ns 5 (c ∷ []) p) c (inner white_space ns [] (c ∷ t)) (rw h refl) (ih.1 (p ++ c ∷ []) ns 5 (c ∷ []) p (one_digit c h) ∙ sym (inner_in_word white_space ns [] t c b w))
  awaits_step c t p ns ih (brace h b) = rw (h, b) (close_read ns (λ s'. run (next white_space) free (p ++ c ∷ []) s' t) p t c)
  awaits_step c t p ns ih (white h b w) =
      step_on p t (awaits ns) (awaits ns) c (inner white_space ns [] (c ∷ t)) (rw (h, b, w) refl) (ih.0 (p ++ c ∷ []) ns ∙ sym (inner_white white_space ns t c b w))
  awaits_step c t p ns ih (stray h b w) =
      step_refuses p t (awaits ns) c (rw (h, b, w) refl) ∙ sym (inner_in_word white_space ns [] t c b w ∙ bad_inner white_space ns (c ∷ []) t (stray_bad [] c h))

  too_many : (w : Text) (c : ℕ) → Digits w zero → Bad (w ++ c ∷ [])
  too_many w c d = let l = length_push w c in record { some = omega arith; bad = inr (omega (arith, d.most)) }

  digit_step : (c : ℕ) (t p : Text) (ns : List ℕ) (m : ℕ) (w b : Text) → Digits w m → Braces t → is_hex c ≡ true → (c == 0x7D) ≡ false → white_space c ≡ false →
      read_whole (run (next white_space) free p (number ns m w b) (c ∷ t)) ≡ inner white_space ns w (c ∷ t)
  digit_step c t p ns zero w b d ih h r s =
      step_refuses p t (number ns zero w b) c (rw h refl) ∙ sym (inner_in_word white_space ns w t c r s ∙ bad_inner white_space ns (w ++ c ∷ []) t (too_many w c d))
  digit_step c t p ns (suc m) w b d ih h r s =
      step_on p t (number ns (suc m) w b) (number ns m (w ++ c ∷ []) b) c (inner white_space ns w (c ∷ t)) (rw h refl)
      (ih.1 (p ++ c ∷ []) ns m (w ++ c ∷ []) b (more_digits w c m h d) ∙ sym (inner_in_word white_space ns w t c r s))

  number_step : (c : ℕ) (t p : Text) (ns : List ℕ) (m : ℕ) (w b : Text) → Digits w m → Braces t → Sort white_space c →
      read_whole (run (next white_space) free p (number ns m w b) (c ∷ t)) ≡ inner white_space ns w (c ∷ t)
  number_step c t p ns m w b d ih (digit h r s) = digit_step c t p ns m w b d ih h r s
  number_step c t p ns m w b d ih (brace h r) =
      rw (h, r) (sym (ap (λ o. o >>= λ ms. at_least_one (ns ++ ms) t) (good_word w [] (digits_number w m d)) ∙ sym (last_read ns (value w) t)))
  number_step c t p ns m w b d ih (white h r s) =
      step_on p t (number ns m w b) (awaits (ns ++ value w ∷ [])) c (inner white_space ns w (c ∷ t)) (rw (h, r, s) refl)
      (ih.0 (p ++ c ∷ []) (ns ++ value w ∷ []) ∙ sym (inner_after_word white_space ns w t c r s (digits_number w m d)))
  number_step c t p ns m w b d ih (stray h r s) =
      step_refuses p t (number ns m w b) c (rw (h, r, s) refl) ∙ sym (inner_in_word white_space ns w t c r s ∙ bad_inner white_space ns (w ++ c ∷ []) t (stray_bad w c h))

  pub braces_read : (t : Text) → Braces t
  braces_read [] = (λ p ns. refl, λ p ns m w b d. refl)
  braces_read (c ∷ t) =
      let ih = braces_read t in
      (λ p ns. awaits_step c t p ns ih (sort white_space apart c), λ p ns m w b d. number_step c t p ns m w b d ih (sort white_space apart c))

  fixed_read_by : (c : ℕ) (t p : Text) (long : Bool) (k : ℕ) (w : Text) (h : Bool) → ((p : Text) (k : ℕ) (w : Text) → read_whole (run (next white_space) free p (fixed long k w) t) ≡ digits (suc k) w t) →
      read_whole (turn None (cond h (next_fixed long k (w ++ c ∷ [])) refuses) (λ s'. run (next white_space) free (p ++ c ∷ []) s' t) p c t) ≡ cond h (digits k (w ++ c ∷ []) t) None
  fixed_read_by c t p long zero w true ih = refl
  fixed_read_by c t p long (suc k) w true ih = ih (p ++ c ∷ []) k (w ++ c ∷ [])
  fixed_read_by c t p long k w false ih = refl

  fixed_read : (t p : Text) (long : Bool) (k : ℕ) (w : Text) → read_whole (run (next white_space) free p (fixed long k w) t) ≡ digits (suc k) w t
  fixed_read [] p long k w = refl
  fixed_read (c ∷ t) p long k w = fixed_read_by c t p long k w (is_hex c) (λ q l v. fixed_read t q long l v)

  brace_or_by : (c : ℕ) (t p : Text) (k : ℕ) (b h : Bool) →
      read_whole (turn None (cond b (goes (awaits [])) (cond h (next_fixed false k (c ∷ [])) refuses)) (λ s'. run (next white_space) free (p ++ c ∷ []) s' t) p c t)
      ≡ braced_or white_space (cond h (digits k (c ∷ []) t) None) (cond b (Some t) None)
  brace_or_by c t p k true h = (braces_read t).0 (p ++ c ∷ []) []
  brace_or_by c t p k false h = fixed_read_by c t p false k [] h (λ q l v. fixed_read t q false l v)

  brace_or_read : (t p : Text) (k : ℕ) → read_whole (run (next white_space) free p (brace_or k) t) ≡ braced_or white_space (digits (suc k) [] t) (behind_code 0x7B t)
  brace_or_read [] p k = refl
  brace_or_read (c ∷ t) p k = brace_or_by c t p k (c == 0x7B) (is_hex c)

  zero_second_by : (c : ℕ) (t p : Text) (b : Bool) →
      read_whole (turn None (cond b (goes (fixed true 5 [])) refuses) (λ s'. run (next white_space) free (p ++ c ∷ []) s' t) p c t) ≡ (cond b (Some t) None >>= digits 6 [])
  zero_second_by c t p true = fixed_read t (p ++ c ∷ []) true 5 []
  zero_second_by c t p false = refl

  zero_second_read : (t p : Text) → read_whole (run (next white_space) free p zero_second t) ≡ (behind_code 0x30 t >>= digits 6 [])
  zero_second_read [] p = refl
  zero_second_read (c ∷ t) p = zero_second_by c t p (c == 0x30)

  zero_first_by : (c : ℕ) (t p : Text) (b : Bool) →
      read_whole (turn None (cond b (goes zero_second) refuses) (λ s'. run (next white_space) free (p ++ c ∷ []) s' t) p c t) ≡ (cond b (Some t) None >>= λ u. (behind_code 0x30 u >>= digits 6 []))
  zero_first_by c t p true = zero_second_read t (p ++ c ∷ [])
  zero_first_by c t p false = refl

  zero_first_read : (t p : Text) → read_whole (run (next white_space) free p zero_first t) ≡ (behind_code 0x30 t >>= λ u. (behind_code 0x30 u >>= digits 6 []))
  zero_first_read [] p = refl
  zero_first_read (c ∷ t) p = zero_first_by c t p (c == 0x30)

  letter_read : (c : ℕ) (t p : Text) (l : Letter) →
      read_whole (turn None (at_letter l c) (λ s'. run (next white_space) free (p ++ c ∷ []) s' t) p c t) ≡ escape_by white_space l c t
  letter_read c t p four = brace_or_read t (p ++ c ∷ []) 3
  letter_read c t p two = brace_or_read t (p ++ c ∷ []) 1
  letter_read c t p six = zero_first_read t (p ++ c ∷ [])
  letter_read c t p name = refl
  letter_read c t p other = refl

  letters_read : (t p : Text) → read_whole (run (next white_space) free p letters t) ≡ escape_at white_space t
  letters_read [] p = refl
  letters_read (c ∷ t) p = letter_read c t p (letter c)

  start_by : (c : ℕ) (t p : Text) (b : Bool) →
      read_whole (turn None (cond b (goes letters) refuses) (λ s'. run (next white_space) free (p ++ c ∷ []) s' t) p c t) ≡ (cond b (Some t) None >>= escape_at white_space)
  start_by c t p true = letters_read t (p ++ c ∷ [])
  start_by c t p false = refl

  pub shape_is_read : (t p : Text) → read_whole (run (next white_space) free p start t) ≡ escape_shape white_space t
  shape_is_read [] p = refl
  shape_is_read (c ∷ t) p = start_by c t p (c == 0x5C)
