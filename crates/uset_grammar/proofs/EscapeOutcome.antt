-- What begins as an escape has one outcome.
use Rattle.std.proofs.Common.{◌≡◌, ◌<◌, ◌≤◌, ℕ, zero, suc, ◌+◌, ◌*◌, ◌^◌, Bool, true, false, ◌||◌, ◌&&◌, cond, List, [], ◌∷◌, ◌++◌, length, Option, Some, None, refl, sym, ap, ◌∙◌, subst, inl, inr, append_assoc, arith}
use Rattle.std.proofs.lemmas.List.{length_push}
use Rattle.std.specs.Prelude.{◌==◌, nat_le}
use Rattle.std.specs.Option.{option_or}
use Rattle.std.specs.List.{list_all}
use Rattle.std.proofs.lemmas.Bool.{cases_Bool, and_parts, and_right}
use Rattle.std.proofs.lemmas.Bool.Decides.{nat_tests}
use Rattle.std.specs.Char.{digit_value}
use Rattle.std.proofs.Math.Nat.{lt_of_lt_of_le, mul-le-mul_right, mul_assoc, mul_right_comm, one-mul, pow-suc, pow-le-pow_right}
use Rattle.uset_grammar.specs.Text.{Text}
use Rattle.uset_grammar.specs.Outcome.{HasOutcome, Kind, invalid_escape, Outcome, got, Enough, NoSlip}
use Rattle.uset_grammar.specs.Escape.{Apart, is_hex, value, Spelled, named, itself, numbers, up_to_brace, words, values, at_least_one, plain, Letter, four, two, six, name, other, letter, is_above, is_surrogate, onto}
use Rattle.uset_grammar.specs.EscapeSlips.{EscapeShape, EscapeRead, Around, fits_in, so_many, in_string, in_bracket, allowed, EscapeSlips}
use Rattle.uset_grammar.proofs.Binding.{bound}
use Rattle.uset_grammar.proofs.UnitMachine.{Next, goes, whole, refuses, Slip, turn, Halts, run, reach, Stopped, free, run_on, Keeps, read_fits}
use Rattle.uset_grammar.proofs.EscapeMachine.{State, start, letters, brace_or, zero_first, zero_second, fixed, awaits, number, at_letter, next_fixed, next_digit, close_or, next, read_whole, Sort, digit, brace, white, stray, sort, Digits, one_digit, more_digits, shape_is_read, braces_read, inner, finish, all_snoc}
use Rattle.uset_grammar.proofs.UnitMachineOutcome.{Describes, answered}
use Rattle.uset_grammar.proofs.EscapeMachineSlips.{letter_slip, second, later, sixth, shorter, fixed_slip, within, end_slip, slip}
use Rattle.uset_grammar.proofs.EscapeMachineMeaning.{read_got, at_slip_law, slip_at_law, not_above}

zeros : ℕ → Text
zeros zero = 0x30 ∷ []
zeros (suc k) = 0x30 ∷ zeros k

-- Each state goes on to a whole shape.
module _ (white_space : ℕ → Bool) where
  abbrev Completes : Text → State → Type 0
  Completes p s = (u : Text) × (v : Spelled) × (run (next white_space) free p s u ≡ got v [])

  fixed_completes : (p : Text) (long : Bool) (k : ℕ) (w : Text) → (v : Spelled) × (run (next white_space) free p (fixed long k w) (zeros k) ≡ got v [])
  unfolding zeros is_hex
  fixed_completes p long zero w = (numbers (value (w ++ 0x30 ∷ []) ∷ []), refl)
  fixed_completes p long (suc k) w = fixed_completes (p ++ 0x30 ∷ []) long k (w ++ 0x30 ∷ [])

  one_number : (p : Text) (ns : List ℕ) (m : ℕ) (w b : Text) → run (next white_space) free p (number ns m w b) (0x7D ∷ []) ≡ got (numbers (ns ++ value w ∷ [])) []
  unfolding is_hex
  one_number p ns m w b = refl

  pub completes_law : (p : Text) (s : State) → Completes p s
  unfolding letter is_hex
  completes_law p start = (0x5C ∷ 0x61 ∷ [], itself (plain 0x61), refl)
  completes_law p letters = (0x61 ∷ [], itself (plain 0x61), refl)
  completes_law p (brace_or k) = (0x7B ∷ 0x30 ∷ 0x7D ∷ [], numbers (value (0x30 ∷ []) ∷ []), refl)
  completes_law p zero_first =
      let more = fixed_completes ((p ++ 0x30 ∷ []) ++ 0x30 ∷ []) true 5 [] in (0x30 ∷ 0x30 ∷ zeros 5, more.0, more.1)
  completes_law p zero_second = let more = fixed_completes (p ++ 0x30 ∷ []) true 5 [] in (0x30 ∷ zeros 5, more.0, more.1)
  completes_law p (fixed long k w) = let more = fixed_completes p long k w in (zeros k, more.0, more.1)
  completes_law p (awaits ns) = (0x30 ∷ 0x7D ∷ [], numbers (ns ++ value (0x30 ∷ []) ∷ []), one_number (p ++ 0x30 ∷ []) ns 5 (0x30 ∷ []) p)
  completes_law p (number ns m w b) = (0x7D ∷ [], numbers (ns ++ value w ∷ []), one_number p ns m w b)

hex_small : (c : ℕ) → is_hex c ≡ true → digit_value c < 16
unfolding is_hex
hex_small c h = grind (arith, nat_tests)

-- digits that are read onto a number
onto_below : (w : Text) (n : ℕ) → list_all is_hex w ≡ true → onto n w < (n + 1) * 16 ^ length w
onto_below [] n h = omega arith
onto_below (c ∷ t) n h =
    let p = and_parts (is_hex c) (list_all is_hex t) h in
    let k = 16 ^ length t in
    let further : n * 16 + digit_value c + 1 ≤ (n + 1) * 16 = omega (arith, hex_small c p.0) in
    let one_more : (n + 1) * 16 * k ≡ (n + 1) * 16 ^ suc (length t) =
    mul_right_comm (n + 1) 16 k ∙ (mul_assoc (n + 1) k 16 ∙ ap (λ m. (n + 1) * m) (sym (pow-suc 16 (length t)))) in
    subst (λ most. onto (n * 16 + digit_value c) t < most) one_more (lt_of_lt_of_le (onto_below t (n * 16 + digit_value c) p.1) (mul-le-mul_right k further))

-- a number of at most five digits is a code point
five_below : (w : Text) → list_all is_hex w ≡ true → length w ≤ 5 → is_above (value w) ≡ false
unfolding value is_above
five_below w h l =
    let below : onto 0 w < 16 ^ 5 = lt_of_lt_of_le (onto_below w 0 h) (subst (λ most. most ≤ 16 ^ 5) (sym (one-mul (16 ^ length w))) (pow-le-pow_right {n = 16} (omega arith) l)) in
    grind (arith, nat_tests, below)

-- WHERE THE VALUES ARE ALLOWED
module _ (a : Around) where
  -- the numbers before a further one
  abbrev pub Ready : List ℕ → Type 0
  Ready [] = Unit {0}
  Ready (n ∷ ns) = (list_all (fits_in a) (n ∷ ns) ≡ true) × ((b : Bool) → a ≡ in_bracket b → b ≡ true)

  -- the value of a number
  abbrev pub Last : Around → List ℕ → ℕ → Type 0
  Last (in_bracket both) ns v = is_above v ≡ false
  Last in_string [] v = is_above v ≡ false
  Last in_string (n ∷ ns) v = (is_above v ≡ false) × (is_surrogate v ≡ false)

  -- the numbers behind which a brace or a further one comes
  abbrev pub Fair : List ℕ → Type 0
  Fair [] = Unit {0}
  Fair (n ∷ []) = is_above n ≡ false
  Fair (n ∷ m ∷ ns) = allowed a (numbers (n ∷ m ∷ ns)) ≡ true

  abbrev pub Fine : State → Type 0
  Fine start = Unit {0}
  Fine letters = Unit {0}
  Fine (brace_or k) = k ≤ 4
  Fine zero_first = Unit {0}
  Fine zero_second = Unit {0}
  Fine (fixed true k w) = Unit {0}
  Fine (fixed false k w) = (list_all is_hex w ≡ true) × (length w + k ≤ 4)
  Fine (awaits ns) = Fair ns
  Fine (number ns m w b) = Ready ns × Digits w m × (m ≡ 0 → Last a ns (value w))

  abbrev pub Good : Next State Spelled → Type 0
  Good = Keeps Fine (λ v. allowed a v ≡ true)

  fits_bracket : (both : Bool) (n : ℕ) → is_above n ≡ false → fits_in (in_bracket both) n ≡ true
  fits_bracket both n h = rw h refl

  fits_string : (n : ℕ) → is_above n ≡ false → is_surrogate n ≡ false → fits_in in_string n ≡ true
  fits_string n h k = rw (h, k) refl

surrogate_none : (b : Bool) (x : Kind × Text) → ◌≡◌ {A = Slip} (cond b (Some x) None) None → b ≡ false
surrogate_none true x h = absurd (let e = h in cc)
surrogate_none false x h = refl

-- one number that isn't above
one_fits : (a : Around) (n : ℕ) → is_above n ≡ false → end_slip a (whole (numbers (n ∷ []))) ≡ None → allowed a (numbers (n ∷ [])) ≡ true
one_fits in_string n h e = let s = surrogate_none (is_surrogate n) (invalid_escape, []) e in rw (h, s) refl
one_fits (in_bracket true) n h e = rw h refl
one_fits (in_bracket false) n h e = rw h refl

several_fit : (a : Around) (n : ℕ) (ns : List ℕ) (v : ℕ) → Ready a (n ∷ ns) → Last a a (n ∷ ns) v → allowed a (numbers (n ∷ (ns ++ v ∷ []))) ≡ true
several_fit in_string n ns v r l =
    let all = all_snoc (fits_in in_string) (n ∷ ns) v r.0 (fits_string in_string v l.0 l.1) in ap (λ b. b && true) all
several_fit (in_bracket both) n ns v r l =
    let all = all_snoc (fits_in (in_bracket both)) (n ∷ ns) v r.0 (fits_bracket (in_bracket both) both v l) in
    let many : both ≡ true = r.1 both refl in
    (λ i. all i && (many i || nat_le (length (n ∷ (ns ++ v ∷ []))) 1))

last_fits : (a : Around) (ns : List ℕ) (v : ℕ) → Ready a ns → Last a a ns v → end_slip a (whole (numbers (ns ++ v ∷ []))) ≡ None → allowed a (numbers (ns ++ v ∷ [])) ≡ true
last_fits in_string [] v r l e = one_fits in_string v l e
last_fits (in_bracket both) [] v r l e = one_fits (in_bracket both) v l e
last_fits a (n ∷ ns) v r l e = several_fit a n ns v r l

fair_grows : (a : Around) (ns : List ℕ) (v : ℕ) → Ready a ns → Last a a ns v → Fair a (ns ++ v ∷ [])
fair_grows in_string [] v r l = l
fair_grows (in_bracket both) [] v r l = l
fair_grows a (n ∷ []) v r l = several_fit a n [] v r l
fair_grows a (n ∷ m ∷ ns) v r l = several_fit a n (m ∷ ns) v r l

ready_second : (a : Around) (n : ℕ) → is_above n ≡ false → second a (n ∷ []) ≡ None → Ready a (n ∷ [])
ready_second in_string n h e =
    (ap (λ b. b && true) (fits_string in_string n h (surrogate_none (is_surrogate n) (invalid_escape, []) e)), λ b f. absurd (let g = f in cc))
ready_second (in_bracket true) n h e = (ap (λ b. b && true) (fits_bracket (in_bracket true) true n h), λ b f. (let g : in_bracket true ≡ in_bracket b = f in cc))
ready_second (in_bracket false) n h e = absurd (let f = e in cc)

many_both : (a : Around) (n m : ℕ) (ns : List ℕ) → so_many a (n ∷ m ∷ ns) ≡ true → (b : Bool) → a ≡ in_bracket b → b ≡ true
many_both in_string n m ns h b e = absurd (let g = e in cc)
many_both (in_bracket true) n m ns h b e = cc
many_both (in_bracket false) n m ns h b e = absurd (let g : false ≡ true = sym (is_false (length ns)) ∙ h in cc)
  where
    is_false : (k : ℕ) → nat_le (suc (suc k)) 1 ≡ false
    is_false k = grind (arith, nat_tests)

ready_more : (a : Around) (n m : ℕ) (ns : List ℕ) → allowed a (numbers (n ∷ m ∷ ns)) ≡ true → Ready a (n ∷ m ∷ ns)
ready_more a n m ns h =
    let p = and_parts (list_all (fits_in a) (n ∷ m ∷ ns)) (so_many a (n ∷ m ∷ ns)) h in (p.0, many_both a n m ns p.1)

ready_after : (a : Around) (ns : List ℕ) → Fair a ns → second a ns ≡ None → Ready a ns
ready_after a [] f e = tt
ready_after a (n ∷ []) f e = ready_second a n f e
ready_after a (n ∷ m ∷ ns) f e = ready_more a n m ns f

close_fits : (a : Around) (ns : List ℕ) → Fair a ns → end_slip a (close_or ns) ≡ None → Good a (close_or ns)
close_fits a [] f e = tt
close_fits a (n ∷ []) f e = one_fits a n f e
close_fits a (n ∷ m ∷ ns) f e = f

pub option_or-none : (x y : Slip) → option_or x y ≡ None → (x ≡ None) × (y ≡ None)
option_or-none (Some z) y h = absurd (let e = h in cc)
option_or-none None y h = (refl, h)

later_last : (a : Around) (ns : List ℕ) (b : Text) (v : ℕ) → is_above v ≡ false → later a ns b v ≡ None → Last a a ns v
later_last (in_bracket both) ns b v h e = h
later_last in_string [] b v h e = h
later_last in_string (n ∷ ns) b v h e = (h, surrogate_none (is_surrogate v) (invalid_escape, b) e)

above_none : (b : Bool) (x : Kind × Text) (y : Slip) → cond b (Some x) y ≡ None → (b ≡ false) × (y ≡ None)
above_none true x y h = absurd (let e = h in cc)
above_none false x y h = (refl, h)

sixth_last : (a : Around) (p : Text) (ns : List ℕ) (m : ℕ) (b : Text) (v : ℕ) → sixth a p ns (suc m) b v ≡ None → m ≡ 0 → Last a a ns v
sixth_last a p ns zero b v h e = let n = above_none (is_above v) (invalid_escape, p) (later a ns b v) h in later_last a ns b v n.0 n.1
sixth_last a p ns (suc m) b v h e = absurd (omega (arith, e))

number_last : (a : Around) (ns : List ℕ) (m : ℕ) (w b : Text) → Digits w m → (m ≡ 0 → Last a a ns (value w)) → shorter a ns m b (value w) ≡ None → Last a a ns (value w)
number_last a ns zero w b d l e = l refl
number_last a ns (suc m) w b d l e = later_last a ns b (value w) (five_below w d.hex (let k = d.most in omega arith)) e

module _ (white_space : ℕ → Bool) (apart : Apart white_space) (a : Around) where
  good_fixed : (p : Text) (long : Bool) (k : ℕ) (w : Text) (c : ℕ) → is_hex c ≡ true → Fine a (fixed long k w) → within a p (fixed long k w) c ≡ None →
      end_slip a (next_fixed long k (w ++ c ∷ [])) ≡ None → Good a (next_fixed long k (w ++ c ∷ []))
  good_fixed p true (suc k) w c h f x e = tt
  good_fixed p true zero w c h f x e =
      let e' = ap (λ b. cond b (fixed_slip p zero (value (w ++ c ∷ []))) None) h in
      let n = above_none (is_above (value (w ++ c ∷ []))) (invalid_escape, p) None (sym e' ∙ x) in one_fits a (value (w ++ c ∷ [])) n.0 e
  good_fixed p false (suc k) w c h f x e =
      (all_snoc is_hex w c f.0 h, (let l = length_push w c in let g = f.1 in omega arith))
  good_fixed p false zero w c h f x e =
      one_fits a (value (w ++ c ∷ [])) (five_below (w ++ c ∷ []) (all_snoc is_hex w c f.0 h) (let l = length_push w c in let g = f.1 in omega arith)) e

  good_fixed_by : (p : Text) (long : Bool) (k : ℕ) (w : Text) (c : ℕ) (h : Bool) → is_hex c ≡ h → Fine a (fixed long k w) → within a p (fixed long k w) c ≡ None →
      end_slip a (cond h (next_fixed long k (w ++ c ∷ [])) refuses) ≡ None → Good a (cond h (next_fixed long k (w ++ c ∷ [])) refuses)
  good_fixed_by p long k w c true h f x e = good_fixed p long k w c h f x e
  good_fixed_by p long k w c false h f x e = tt

  good_letter : (p : Text) (l : Letter) (c : ℕ) → letter_slip p l ≡ None → Good a (at_letter l c)
  good_letter p four c h = omega arith
  good_letter p two c h = omega arith
  good_letter p six c h = tt
  good_letter p name c h = absurd (let e = h in cc)
  good_letter p other c h = refl

  good_brace : (p : Text) (k c : ℕ) (b h : Bool) → is_hex c ≡ h → k ≤ 4 → end_slip a (cond b (goes (awaits [])) (cond h (next_fixed false k (c ∷ [])) refuses)) ≡ None →
      Good a (cond b (goes (awaits [])) (cond h (next_fixed false k (c ∷ [])) refuses))
  good_brace p k c true h eh f e = tt
  good_brace p k c false false eh f e = tt
  good_brace p k c false true eh f e = good_fixed p false k [] c eh (refl, omega (arith, f)) refl e

  good_goes : (b : Bool) (s : State) → Fine a s → Good a (cond b (goes s) refuses)
  good_goes true s f = f
  good_goes false s f = tt

  good_awaits : (p : Text) (ns : List ℕ) (c : ℕ) → Sort white_space c → Fair a ns → within a p (awaits ns) c ≡ None → end_slip a (next white_space p (awaits ns) c) ≡ None →
      Good a (next white_space p (awaits ns) c)
  good_awaits p ns c (digit h b w) f x e =
      let x' = ap (λ t. cond t (second a ns) None) h in
      rw h (ready_after a ns f (sym x' ∙ x), one_digit c h, λ z. absurd (omega (arith, z)))
  good_awaits p ns c (brace h b) f x e =
      let is : next white_space p (awaits ns) c ≡ close_or ns = rw (h, b) refl in
      subst (Good a) (sym is) (close_fits a ns f (ap (end_slip a) (sym is) ∙ e))
  good_awaits p ns c (white h b w) f x e = rw (h, b, w) f
  good_awaits p ns c (stray h b w) f x e = rw (h, b, w) tt

  good_digit : (p : Text) (ns : List ℕ) (m : ℕ) (w b : Text) (c : ℕ) → is_hex c ≡ true → Fine a (number ns m w b) → sixth a p ns m b (value (w ++ c ∷ [])) ≡ None → Good a (next_digit ns m (w ++ c ∷ []) b)
  good_digit p ns zero w b c h f x = tt
  good_digit p ns (suc m) w b c h f x = (f.0, more_digits w c m h f.1, λ z. sixth_last a p ns m b (value (w ++ c ∷ [])) x z)

  good_number : (p : Text) (ns : List ℕ) (m : ℕ) (w b : Text) (c : ℕ) → Sort white_space c → Fine a (number ns m w b) → within a p (number ns m w b) c ≡ None →
      end_slip a (next white_space p (number ns m w b) c) ≡ None → Good a (next white_space p (number ns m w b) c)
  good_number p ns m w b c (digit h r s) f x e =
      let x' = ap (λ t. cond t (sixth a p ns m b (value (w ++ c ∷ []))) (shorter a ns m b (value w))) h in
      rw h (good_digit p ns m w b c h f (sym x' ∙ x))
  good_number p ns m w b c (brace h r) f x e =
      let x' = ap (λ t. cond t (sixth a p ns m b (value (w ++ c ∷ []))) (shorter a ns m b (value w))) h in
      let is : next white_space p (number ns m w b) c ≡ whole (numbers (ns ++ value w ∷ [])) = rw (h, r) refl in
      subst (Good a) (sym is) (last_fits a ns (value w) f.0 (number_last a ns m w b f.1 f.2 (sym x' ∙ x)) (ap (end_slip a) (sym is) ∙ e))
  good_number p ns m w b c (white h r s) f x e =
      let x' = ap (λ t. cond t (sixth a p ns m b (value (w ++ c ∷ []))) (shorter a ns m b (value w))) h in
      rw (h, r, s) (fair_grows a ns (value w) f.0 (number_last a ns m w b f.1 f.2 (sym x' ∙ x)))
  good_number p ns m w b c (stray h r s) f x e = rw (h, r, s) tt

  pub good : (p : Text) (s : State) (c : ℕ) → Fine a s → within a p s c ≡ None → end_slip a (next white_space p s c) ≡ None → Good a (next white_space p s c)
  good p start c f x e = good_goes (c == 0x5C) letters tt
  good p letters c f x e = good_letter p (letter c) c x
  good p (brace_or k) c f x e = good_brace p k c (c == 0x7B) (is_hex c) refl f e
  good p zero_first c f x e = good_goes (c == 0x30) zero_second tt
  good p zero_second c f x e = good_goes (c == 0x30) (fixed true 5 []) tt
  good p (fixed long k w) c f x e = good_fixed_by p long k w c (is_hex c) refl f x e
  good p (awaits ns) c f x e = good_awaits p ns c (sort white_space apart c) f x e
  good p (number ns m w b) c f x e = good_number p ns m w b c (sort white_space apart c) f x e

  -- what is read without a slip is allowed
  pub read_allowed : (p t : Text) (s : State) (v : Spelled) (r : Text) → Fine a s → run (next white_space) (slip white_space a) p s t ≡ got v r → allowed a v ≡ true
  read_allowed = read_fits (next white_space) (slip white_space a) (Fine a) (λ v. allowed a v ≡ true)
      (λ p s c f e. let n = option_or-none (within a p s c) (end_slip a (next white_space p s c)) e in good p s c f n.0 n.1)

-- WHAT IS ALLOWED HAS NO SLIP
not_among : (test : ℕ → Bool) (ns ms : List ℕ) (v : ℕ) → test v ≡ false → list_all test (ns ++ v ∷ ms) ≡ false
not_among test [] ms v h = ap (λ b. b && list_all test ms) h
not_among test (n ∷ ns) ms v h = and_right (test n) (list_all test (ns ++ v ∷ ms)) (not_among test ns ms v h)

above_unfit : (a : Around) (v : ℕ) → is_above v ≡ true → fits_in a v ≡ false
above_unfit in_string v h = rw h refl
above_unfit (in_bracket both) v h = rw h refl

surrogate_unfit : (v : ℕ) → is_surrogate v ≡ true → fits_in in_string v ≡ false
surrogate_unfit v h = rw (not_above v h, h) refl

refused_number : (a : Around) (ns ms : List ℕ) (v : ℕ) → fits_in a v ≡ false → allowed a (numbers (ns ++ v ∷ ms)) ≡ true → ⊥
refused_number a ns ms v h k =
    let e : true ≡ false = sym k ∙ ap (λ b. b && so_many a (ns ++ v ∷ ms)) (not_among (fits_in a) ns ms v h) in cc

-- the value read has these numbers first
abbrev pub Extends : List ℕ → Spelled → Type 0
Extends ns v = (ms : List ℕ) × (v ≡ numbers (ns ++ ms))

abbrev spelled_or : Spelled → Option (Spelled × Text) → Spelled
spelled_or d None = d
spelled_or d (Some p) = p.0

at_least_extends : (ns ms : List ℕ) (t r : Text) (v : Spelled) → at_least_one (ns ++ ms) t ≡ Some (v, r) → v ≡ numbers (ns ++ ms)
at_least_extends ns ms t r v h = by (ns ++ ms) h
  where
    by : (l : List ℕ) → at_least_one l t ≡ Some (v, r) → v ≡ numbers l
    by [] h = absurd (let e = h in cc)
    by (n ∷ l) h = ap (λ o. spelled_or v o) (sym h)

module _ (white_space : ℕ → Bool) (apart : Apart white_space) where
  awaits_extends : (p t r : Text) (ns : List ℕ) (v : Spelled) → run (next white_space) free p (awaits ns) t ≡ got v r → Extends ns v
  awaits_extends p t r ns v h =
      let read : inner white_space ns [] t ≡ Some (v, r) = sym ((braces_read white_space apart t).0 p ns) ∙ ap (λ o. read_whole o) h in
      let cut = bound (up_to_brace t) (finish white_space ns []) (v, r) read in
      let some = bound (values (words white_space [] cut.0.0)) (λ ms. at_least_one (ns ++ ms) cut.0.1) (v, r) cut.2 in
      (some.0, at_least_extends ns some.0 cut.0.1 r v some.2)

  run_step : (p t : Text) (s : State) (c : ℕ) (n : Next State Spelled) (o : Outcome Spelled) → next white_space p s c ≡ n → run (next white_space) free p s (c ∷ t) ≡ o →
      turn None n (λ s'. run (next white_space) free (p ++ c ∷ []) s' t) p c t ≡ o
  run_step p t s c n o e h = sym (ap (λ m. turn None m (λ s'. run (next white_space) free (p ++ c ∷ []) s' t) p c t) e) ∙ h

  -- a number is read to its end
  number_ends : (p t r : Text) (ns : List ℕ) (m : ℕ) (w b : Text) (c : ℕ) (v : Spelled) → Sort white_space c → is_hex c ≡ false →
      run (next white_space) free p (number ns m w b) (c ∷ t) ≡ got v r → (ms : List ℕ) × (v ≡ numbers (ns ++ value w ∷ ms))
  number_ends p t r ns m w b c v (digit h s u) isnt e = absurd (let f : true ≡ false = sym h ∙ isnt in cc)
  number_ends p t r ns m w b c v (brace h s) isnt e =
      let f = run_step p t (number ns m w b) c (whole (numbers (ns ++ value w ∷ []))) (got v r) (rw (h, s) refl) e in ([], cc)
  number_ends p t r ns m w b c v (white h s u) isnt e =
      let f = run_step p t (number ns m w b) c (goes (awaits (ns ++ value w ∷ []))) (got v r) (rw (h, s, u) refl) e in
      let more = awaits_extends (p ++ c ∷ []) t r (ns ++ value w ∷ []) v f in
      (more.0, more.1 ∙ ap (λ z. numbers z) (append_assoc ns (value w ∷ []) more.0))
  number_ends p t r ns m w b c v (stray h s u) isnt e =
      absurd (let f = run_step p t (number ns m w b) c refuses (got v r) (rw (h, s, u) refl) e in cc)

  number_full : (p t r : Text) (ns : List ℕ) (w b : Text) (v : Spelled) → run (next white_space) free p (number ns zero w b) t ≡ got v r → (ms : List ℕ) × (v ≡ numbers (ns ++ value w ∷ ms))
  number_full p [] r ns w b v e = absurd (let f = e in cc)
  number_full p (c ∷ t) r ns w b v e = elim (cases_Bool (is_hex c)) [
    | inl is ↦ absurd (let f = run_step p t (number ns zero w b) c refuses (got v r) (rw is refl) e in cc)
    | inr isnt ↦ number_ends p t r ns zero w b c v (sort white_space apart c) isnt e
  ]

  number_more : (t p r : Text) (ns : List ℕ) (m : ℕ) (w b : Text) (v : Spelled) → run (next white_space) free p (number ns m w b) t ≡ got v r → (k : ℕ) × (ms : List ℕ) × (v ≡ numbers (ns ++ k ∷ ms))
  number_more [] p r ns m w b v e = absurd (let f = e in cc)
  number_more (c ∷ t) p r ns zero w b v e = let end = number_full p (c ∷ t) r ns w b v e in (value w, end.0, end.1)
  number_more (c ∷ t) p r ns (suc m) w b v e = elim (cases_Bool (is_hex c)) [
    | inl is ↦ number_more t (p ++ c ∷ []) r ns m (w ++ c ∷ []) b v (run_step p t (number ns (suc m) w b) c (goes (number ns m (w ++ c ∷ []) b)) (got v r) (rw is refl) e)
    | inr isnt ↦ (let end = number_ends p t r ns (suc m) w b c v (sort white_space apart c) isnt e in (value w, end.0, end.1))
  ]

  module _ (a : Around) where
    -- behind a slip nothing is read that is allowed
    abbrev pub Lost : Text → State → ℕ → Type 0
    Lost p s c = (t r : Text) (v : Spelled) → run (next white_space) free p s (c ∷ t) ≡ got v r → allowed a v ≡ true → ⊥

    lost_letter : (p : Text) (c : ℕ) (l : Letter) (x : Kind × Text) → letter c ≡ l → letter_slip p l ≡ Some x → Lost p letters c
    lost_letter p c four x e h t r v read ok = absurd (let f = h in cc)
    lost_letter p c two x e h t r v read ok = absurd (let f = h in cc)
    lost_letter p c six x e h t r v read ok = absurd (let f = h in cc)
    lost_letter p c other x e h t r v read ok = absurd (let f = h in cc)
    lost_letter p c name x e h t r v read ok =
        let f = run_step p t letters c (whole named) (got v r) (ap (λ l. at_letter l c) e) read in
        let is : named ≡ v = cc in let g : false ≡ true = ap (allowed a) is ∙ ok in cc

    cond_some : (b : Bool) (y : Slip) (x : Kind × Text) → cond b y None ≡ Some x → (b ≡ true) × (y ≡ Some x)
    cond_some true y x h = (refl, h)
    cond_some false y x h = absurd (let e = h in cc)

    lost_fixed : (p : Text) (k : ℕ) (w : Text) (c : ℕ) (x : Kind × Text) → is_hex c ≡ true → fixed_slip p k (value (w ++ c ∷ [])) ≡ Some x → Lost p (fixed true k w) c
    lost_fixed p (suc k) w c x h e t r v read ok = absurd (let f = e in cc)
    lost_fixed p zero w c x h e t r v read ok =
        let above = cond_some (is_above (value (w ++ c ∷ []))) (Some (invalid_escape, p)) x e in
        let f = run_step p t (fixed true zero w) c (whole (numbers (value (w ++ c ∷ []) ∷ []))) (got v r) (rw h refl) read in
        let is : numbers (value (w ++ c ∷ []) ∷ []) ≡ v = cc in
        refused_number a [] [] (value (w ++ c ∷ [])) (above_unfit a (value (w ++ c ∷ [])) above.0) (ap (allowed a) is ∙ ok)

    lost_number_sixth : (p : Text) (ns : List ℕ) (m : ℕ) (w b : Text) (c : ℕ) (x : Kind × Text) → is_hex c ≡ true → sixth a p ns m b (value (w ++ c ∷ [])) ≡ Some x → Lost p (number ns m w b) c
    lost_number_sixth p ns zero w b c x h e t r v read ok = absurd (let f = e in cc)
    lost_number_sixth p ns (suc (suc m)) w b c x h e t r v read ok = absurd (let f = e in cc)
    lost_number_sixth p ns (suc zero) w b c x h e t r v read ok =
        let f = run_step p t (number ns 1 w b) c (goes (number ns zero (w ++ c ∷ []) b)) (got v r) (rw h refl) read in
        let full = number_full (p ++ c ∷ []) t r ns (w ++ c ∷ []) b v f in
        refused_number a ns full.0 (value (w ++ c ∷ [])) (unfit (is_above (value (w ++ c ∷ []))) refl e) (ap (allowed a) (sym full.1) ∙ ok)
      where
        later_unfit : (a' : Around) (ns' : List ℕ) (v' : ℕ) → later a' ns' b v' ≡ Some x → fits_in a' v' ≡ false
        later_unfit (in_bracket both) ns' v' e = absurd (let f = e in cc)
        later_unfit in_string [] v' e = absurd (let f = e in cc)
        later_unfit in_string (n ∷ ns') v' e = surrogate_unfit v' (cond_some (is_surrogate v') (Some (invalid_escape, b)) x e).0

        unfit : (z : Bool) → is_above (value (w ++ c ∷ [])) ≡ z → cond z (Some (invalid_escape, p)) (later a ns b (value (w ++ c ∷ []))) ≡ Some x → fits_in a (value (w ++ c ∷ [])) ≡ false
        unfit true ez e = above_unfit a (value (w ++ c ∷ [])) ez
        unfit false ez e = later_unfit a ns (value (w ++ c ∷ [])) e

    lost_number_shorter : (p : Text) (ns : List ℕ) (m : ℕ) (w b : Text) (c : ℕ) (x : Kind × Text) → is_hex c ≡ false → shorter a ns m b (value w) ≡ Some x → Lost p (number ns m w b) c
    lost_number_shorter p ns zero w b c x h e t r v read ok = absurd (let f = e in cc)
    lost_number_shorter p ns (suc m) w b c x h e t r v read ok =
        let end = number_ends p t r ns (suc m) w b c v (sort white_space apart c) h read in
        refused_number a ns end.0 (value w) (later_unfit a ns e) (ap (allowed a) (sym end.1) ∙ ok)
      where
        later_unfit : (a' : Around) (ns' : List ℕ) → later a' ns' b (value w) ≡ Some x → fits_in a' (value w) ≡ false
        later_unfit (in_bracket both) ns' e = absurd (let f = e in cc)
        later_unfit in_string [] e = absurd (let f = e in cc)
        later_unfit in_string (n ∷ ns') e = surrogate_unfit (value w) (cond_some (is_surrogate (value w)) (Some (invalid_escape, b)) x e).0

    lost_number : (p : Text) (ns : List ℕ) (m : ℕ) (w b : Text) (c : ℕ) (x : Kind × Text) (h : Bool) → is_hex c ≡ h →
        cond h (sixth a p ns m b (value (w ++ c ∷ []))) (shorter a ns m b (value w)) ≡ Some x → Lost p (number ns m w b) c
    lost_number p ns m w b c x true h e = lost_number_sixth p ns m w b c x h e
    lost_number p ns m w b c x false h e = lost_number_shorter p ns m w b c x h e

  lost_awaits : (a : Around) (p : Text) (ns : List ℕ) (c : ℕ) (x : Kind × Text) → is_hex c ≡ true → second a ns ≡ Some x → Lost a p (awaits ns) c
  lost_awaits a p [] c x h e t r v read ok = absurd (let f = e in cc)
  lost_awaits in_string p (n ∷ m ∷ ns) c x h e t r v read ok = absurd (let f = e in cc)
  lost_awaits (in_bracket both) p (n ∷ m ∷ ns) c x h e t r v read ok = absurd (let f = e in cc)
  lost_awaits (in_bracket true) p (n ∷ []) c x h e t r v read ok = absurd (let f = e in cc)
  lost_awaits in_string p (n ∷ []) c x h e t r v read ok =
      let f = run_step p t (awaits (n ∷ [])) c (goes (number (n ∷ []) 5 (c ∷ []) p)) (got v r) (rw h refl) read in
      let more = number_more t (p ++ c ∷ []) r (n ∷ []) 5 (c ∷ []) p v f in
      refused_number in_string [] (more.0 ∷ more.1) n (surrogate_unfit n (cond_some in_string (is_surrogate n) (Some (invalid_escape, [])) x e).0) (ap (allowed in_string) (sym more.2) ∙ ok)
  lost_awaits (in_bracket false) p (n ∷ []) c x h e t r v read ok =
      let f = run_step p t (awaits (n ∷ [])) c (goes (number (n ∷ []) 5 (c ∷ []) p)) (got v r) (rw h refl) read in
      let more = number_more t (p ++ c ∷ []) r (n ∷ []) 5 (c ∷ []) p v f in
      let fits : allowed (in_bracket false) (numbers (n ∷ more.0 ∷ more.1)) ≡ true = ap (allowed (in_bracket false)) (sym more.2) ∙ ok in
      let bad = many_both (in_bracket false) n more.0 more.1 (and_parts (list_all (fits_in (in_bracket false)) (n ∷ more.0 ∷ more.1)) (so_many (in_bracket false) (n ∷ more.0 ∷ more.1)) fits).1 false refl in cc

  lost_end : (a : Around) (p : Text) (s : State) (c : ℕ) (n : Next State Spelled) (x : Kind × Text) → next white_space p s c ≡ n → end_slip a n ≡ Some x → Lost a p s c
  lost_end (in_bracket both) p s c n x en e t r v read ok = absurd (let f = e in cc)
  lost_end in_string p s c (goes s') x en e t r v read ok = absurd (let f = e in cc)
  lost_end in_string p s c refuses x en e t r v read ok = absurd (let f = e in cc)
  lost_end in_string p s c (whole named) x en e t r v read ok = absurd (let f = e in cc)
  lost_end in_string p s c (whole (itself d)) x en e t r v read ok = absurd (let f = e in cc)
  lost_end in_string p s c (whole (numbers [])) x en e t r v read ok = absurd (let f = e in cc)
  lost_end in_string p s c (whole (numbers (n ∷ m ∷ ns))) x en e t r v read ok = absurd (let f = e in cc)
  lost_end in_string p s c (whole (numbers (n ∷ []))) x en e t r v read ok =
      let f = run_step p t s c (whole (numbers (n ∷ []))) (got v r) en read in
      let is : numbers (n ∷ []) ≡ v = cc in
      refused_number in_string [] [] n (surrogate_unfit n (cond_some in_string (is_surrogate n) (Some (invalid_escape, [])) x e).0) (ap (allowed in_string) is ∙ ok)

  lost_within : (a : Around) (p : Text) (s : State) (c : ℕ) (x : Kind × Text) → within a p s c ≡ Some x → Lost a p s c
  lost_within a p start c x e t r v read ok = absurd (let f = e in cc)
  lost_within a p letters c x e t r v read ok = lost_letter a p c (letter c) x refl e t r v read ok
  lost_within a p (brace_or k) c x e t r v read ok = absurd (let f = e in cc)
  lost_within a p zero_first c x e t r v read ok = absurd (let f = e in cc)
  lost_within a p zero_second c x e t r v read ok = absurd (let f = e in cc)
  lost_within a p (fixed false k w) c x e t r v read ok = absurd (let f = e in cc)
  lost_within a p (fixed true k w) c x e t r v read ok =
      let is = cond_some a (is_hex c) (fixed_slip p k (value (w ++ c ∷ []))) x e in lost_fixed a p k w c x is.0 is.1 t r v read ok
  lost_within a p (awaits ns) c x e t r v read ok = let is = cond_some a (is_hex c) (second a ns) x e in lost_awaits a p ns c x is.0 is.1 t r v read ok
  lost_within a p (number ns m w b) c x e t r v read ok = lost_number a p ns m w b c x (is_hex c) refl e t r v read ok

  pub lost_by : (a : Around) (p : Text) (s : State) (c : ℕ) (y : Kind × Text) (x : Slip) → within a p s c ≡ x → option_or x (end_slip a (next white_space p s c)) ≡ Some y → Lost a p s c
  lost_by a p s c y (Some x) ex e = lost_within a p s c x ex
  lost_by a p s c y None ex e = lost_end a p s c (next white_space p s c) y refl e

  -- a shape that is allowed has no slip
  pub allowed_no_slip : (a : Around) (unit : Text) (v : Spelled) → run (next white_space) free [] start unit ≡ got v [] → allowed a v ≡ true → NoSlip (EscapeSlips white_space a) unit
  allowed_no_slip a unit v read ok p u c k b parts slips' =
      let at = slip_at_law white_space apart a p c k b slips' in
      lost_by a p at.0 c (k, b) (within a p at.0 c) refl at.2 u [] v
      (sym (run_on (next white_space) free [] p (c ∷ u) start at.0 at.1) ∙ (ap (λ z. run (next white_space) free [] start z) (sym parts) ∙ read)) ok

  pub escape_machine : (a : Around) → Describes (next white_space) (slip white_space a) start (EscapeShape white_space) (EscapeSlips white_space a)
  escape_machine a = record {
    read_shape = λ t shape. (shape.0, read_got (run (next white_space) free [] start t) shape.0 [] (shape_is_read white_space apart t [] ∙ shape.1));
    shape_read = λ t v read. (v, sym (shape_is_read white_space apart t []) ∙ ap (λ o. read_whole o) read);
    completes = completes_law white_space;
    slip_at = slip_at_law white_space apart a;
    at_slip = at_slip_law white_space apart a;
  }

  -- the outcome of a text in front of which an escape stands
  abbrev pub outcome : Around → Text → Outcome Spelled
  outcome a q = run (next white_space) (slip white_space a) [] start q

  not_early : (a : Around) (t : Text) (stop : Stopped (next white_space) (slip white_space a) [] start (0x5C ∷ t)) → Enough stop.front
  not_early a t stop = by stop.front stop.at stop.more stop.state stop.parts stop.reached stop.halts
    where
      by : (f : Text) (c : ℕ) (m : Text) (s : State) → 0x5C ∷ t ≡ f ++ c ∷ m → reach (next white_space) (slip white_space a) [] start f ≡ Some s →
          Halts (slip white_space a f s c) (next white_space f s c) → Enough f
      by [] c m s parts on h =
          let is : 0x5C ≡ c = cc in
          let same : start ≡ s = cc in
          absurd (moved a (subst (λ z. Halts (slip white_space a [] z 0x5C) (next white_space [] z 0x5C)) (sym same)
          (subst (λ d. Halts (slip white_space a [] s d) (next white_space [] s d)) (sym is) h)))
        where
          moved : (a : Around) → Halts (slip white_space a [] start 0x5C) (next white_space [] start 0x5C) → ⊥
          moved in_string h = h
          moved (in_bracket both) h = h
      by (d ∷ f) c m s parts on h = (λ e. (let e' = e in cc), λ e. (let d_is : d ≡ 0x5B = cc in let is : 0x5C ≡ d = cc in absurd (omega (arith, d_is, is))))

  pub escape_answered : (a : Around) (t : Text) → HasOutcome (EscapeRead white_space a) (EscapeShape white_space) (EscapeSlips white_space a) (0x5C ∷ t) (outcome a (0x5C ∷ t))
  escape_answered a t =
      answered (next white_space) (slip white_space a) start (EscapeShape white_space) (EscapeSlips white_space a) (escape_machine a) (λ v. allowed a v ≡ true)
      (λ q v r h. read_allowed white_space apart a [] q start v r tt h) (allowed_no_slip a) (EscapeRead white_space a) (0x5C ∷ t)
      (λ v r. (
        λ read. (read_got (run (next white_space) free [] start (0x5C ∷ t)) v r (shape_is_read white_space apart (0x5C ∷ t) [] ∙ read.shape), read.fits),
        λ (read, fits). record { shape = sym (shape_is_read white_space apart (0x5C ∷ t) []) ∙ ap (λ o. read_whole o) read; fits = fits },
      ))
      enough (not_early a t)
    where
      enough : Enough (0x5C ∷ t)
      enough = (λ e. (let e' = e in cc), λ e. (let is : ◌≡◌ {A = ℕ} 0x5C 0x5B = cc in absurd (omega (arith, is))))

pub one_escape_law : (white_space : ℕ → Bool) → Apart white_space → (a : Around) (t : Text) →
    (o : Outcome Spelled) × HasOutcome (EscapeRead white_space a) (EscapeShape white_space) (EscapeSlips white_space a) (0x5C ∷ t) o
one_escape_law white_space apart a t = (outcome white_space apart a (0x5C ∷ t), escape_answered white_space apart a t)

pub escape_is : (white_space : ℕ → Bool) (apart : Apart white_space) (a : Around) (t : Text) → (one_escape_law white_space apart a t).0 ≡ outcome white_space apart a (0x5C ∷ t)
unfolding one_escape_law
escape_is white_space apart a t = refl
