-- The numbers of an escape in braces, one behind another.
use Rattle.std.proofs.Common.{◌≡◌, ◌≤◌, ◌<◌, arith, length, ℕ, zero, suc, Bool, true, false, cond, List, [], ◌∷◌, ◌++◌, Option, Some, None, refl, sym, ap, ◌∙◌, subst}
use Rattle.std.specs.Prelude.{◌==◌}
use Rattle.std.proofs.lemmas.Bool.{eqb-true}
use Rattle.std.specs.Char.{digit_value}
use Rattle.uset_grammar.specs.Text.{Text, skip}
use Rattle.uset_grammar.specs.Outcome.{Outcome, got, faulty, ended, unexpected}
use Rattle.uset_grammar.specs.Escape.{Spelled, is_hex}
use Rattle.uset_grammar.specs.EscapeSlips.{Around}
use Rattle.uset_read.specs.declared.stop.Stop.{Stop}
use Rattle.uset_read.specs.declared.stop.Stop.TheVariants.{Fault, Ended, NoMemory}
use Rattle.uset_read.specs.Stops.{Stops}
use Rattle.uset_grammar.specs.Parts.{and_then}
use Rattle.uset_grammar.specs.EscapeParts.{all_in, further_digits_in, number_at, at_next_in, number_in, next_in, behind_number, number_or, numbers_in, braced_in}

-- what stops the first part stops the whole
pub stops_then : {A B : Type 0} (o : Outcome A) (f : A → Text → Outcome B) (stop : Stop) → Stops o stop → Stops (and_then o f) stop
stops_then o f (Fault kind rest) h = ap (λ z. and_then z f) h
stops_then o f Ended h = ap (λ z. and_then z f) h
stops_then o f NoMemory h = tt

module _ (white_space : ℕ → Bool) (a : Around) (begin : Text) where
  abbrev behind : ℕ → List ℕ → Text → Outcome Spelled
  behind left ns t = behind_number white_space a begin (numbers_in white_space a begin left) ns t

  -- what the closing brace or a further number makes of the numbers
  abbrev pub go_on : ℕ → List ℕ → Option ℕ → Text → Outcome Spelled
  go_on left ns None t = all_in a begin 0x7D ns t
  go_on left ns (Some n) t = behind left (ns ++ n ∷ []) t

  further : (left : ℕ) (ns : List ℕ) (o : Outcome ℕ) → and_then o (λ n. behind left (ns ++ n ∷ [])) ≡ and_then (and_then o (λ n. got (Some n))) (go_on left ns)
  further left ns (got n t) = refl
  further left ns (faulty k r) = refl
  further left ns ended = refl

  at_next_by : (left : ℕ) (ns : List ℕ) (c : ℕ) (t : Text) (b : Bool) → (c == 0x7D) ≡ b →
      cond b (all_in a begin c ns t) (and_then (number_at a begin ns (c ∷ t)) (λ n. behind left (ns ++ n ∷ [])))
      ≡ and_then (cond b (got None t) (and_then (number_at a begin ns (c ∷ t)) (λ n. got (Some n)))) (go_on left ns)
  at_next_by left ns c t true e = ap (λ z. all_in a begin z ns t) (eqb-true c 0x7D e)
  at_next_by left ns c t false e = further left ns (number_at a begin ns (c ∷ t))

  at_next : (left : ℕ) (ns : List ℕ) (t : Text) → numbers_in white_space a begin (suc left) ns t ≡ and_then (at_next_in a begin ns (skip white_space t)) (go_on left ns)
  at_next left ns t = by (skip white_space t)
    where
      by : (u : Text) → number_or white_space a begin (numbers_in white_space a begin left) ns u ≡ and_then (at_next_in a begin ns u) (go_on left ns)
      by [] = refl
      by (c ∷ u) = at_next_by left ns c u (c == 0x7D) refl

  next_by : (left : ℕ) (ns : List ℕ) (c : ℕ) (t : Text) (b h w : Bool) → (c == 0x7D) ≡ b →
      cond b (all_in a begin c ns t) (cond h (faulty (unexpected c) (c ∷ t)) (cond w (numbers_in white_space a begin (suc left) ns t) (faulty (unexpected c) (c ∷ t))))
      ≡ and_then (cond b (got None t) (cond h (faulty (unexpected c) (c ∷ t)) (cond w (at_next_in a begin ns (skip white_space t)) (faulty (unexpected c) (c ∷ t))))) (go_on left ns)
  next_by left ns c t true h w e = ap (λ z. all_in a begin z ns t) (eqb-true c 0x7D e)
  next_by left ns c t false true w e = refl
  next_by left ns c t false false true e = at_next left ns t
  next_by left ns c t false false false e = refl

  pub behind_is_next : (left : ℕ) (ns : List ℕ) (t : Text) → behind (suc left) ns t ≡ and_then (next_in white_space a begin ns t) (go_on left ns)
  behind_is_next left ns [] = refl
  behind_is_next left ns (c ∷ t) = next_by left ns c t (c == 0x7D) (is_hex c) (white_space c) refl

  first_by : (left c : ℕ) (t : Text) (b h : Bool) → (c == 0x7D) ≡ b → is_hex c ≡ h →
      cond b (all_in a begin c [] t) (and_then (cond h (further_digits_in 5 (digit_value c) t) (faulty (unexpected c) (c ∷ t))) (λ n. behind left (n ∷ [])))
      ≡ and_then (cond h (further_digits_in 5 (digit_value c) t) (faulty (unexpected c) (c ∷ t))) (λ n. behind left (n ∷ []))
  unfolding is_hex
  first_by left c t true true e k = absurd (let g : true ≡ false = sym k ∙ ap is_hex (eqb-true c 0x7D e) in cc)
  first_by left c t true false e k = refl
  first_by left c t false h e k = refl

  -- the first number, and what stands behind it
  pub first_number : (t : Text) → braced_in white_space a begin t ≡ and_then (number_in (skip white_space t)) (λ n. behind (length t) (n ∷ []))
  unfolding braced_in
  first_number t = by (skip white_space t)
    where
      by : (u : Text) → number_or white_space a begin (numbers_in white_space a begin (length t)) [] u
          ≡ and_then (number_in u) (λ n. behind (length t) (n ∷ []))
      by [] = refl
      by (c ∷ u) = first_by (length t) c u (c == 0x7D) (is_hex c) refl refl

  pub first_stops : (t : Text) (stop : Stop) → Stops (number_in (skip white_space t)) stop → Stops (braced_in white_space a begin t) stop
  first_stops t stop h =
      subst (λ o. Stops o stop) (sym (first_number t)) (stops_then (number_in (skip white_space t)) (λ n. behind (length t) (n ∷ [])) stop h)

  pub first_goes : (t u : Text) (n : ℕ) → number_in (skip white_space t) ≡ got n u → braced_in white_space a begin t ≡ behind (length t) (n ∷ []) u
  first_goes t u n h = first_number t ∙ ap (λ z. and_then z (λ n. behind (length t) (n ∷ []))) h

  -- behind numbers, with at least as many turns left as characters
  pub next_stops : (left : ℕ) (ns : List ℕ) (t : Text) (o : Outcome Spelled) (stop : Stop) → o ≡ behind left ns t → length t ≤ left → Stops (next_in white_space a begin ns t) stop → Stops o stop
  next_stops zero ns [] o stop e few h = subst (λ z. Stops z stop) (sym e) (stops_then {A = Option ℕ} ended (go_on zero ns) stop h)
  next_stops zero ns (c ∷ t) o stop e few h = absurd (omega (arith, few))
  next_stops (suc left) ns t o stop e few h =
      subst (λ z. Stops z stop) (sym (e ∙ behind_is_next left ns t)) (stops_then (next_in white_space a begin ns t) (go_on left ns) stop h)

  pub next_closes : (left : ℕ) (ns : List ℕ) (t u : Text) (o : Outcome Spelled) → o ≡ behind left ns t → length t ≤ left → next_in white_space a begin ns t ≡ got None u → o ≡ all_in a begin 0x7D ns u
  next_closes zero ns [] u o e few h = absurd (let g : ◌≡◌ {A = Outcome (Option ℕ)} ended (got None u) = h in cc)
  next_closes zero ns (c ∷ t) u o e few h = absurd (omega (arith, few))
  next_closes (suc left) ns t u o e few h = e ∙ (behind_is_next left ns t ∙ ap (λ z. and_then z (go_on left ns)) h)

  pub next_goes : (left n : ℕ) (ns : List ℕ) (t u : Text) (o : Outcome Spelled) → o ≡ behind left ns t → length t ≤ left → next_in white_space a begin ns t ≡ got (Some n) u → length u < length t →
      (k : ℕ) × (length u ≤ k) × (o ≡ behind k (ns ++ n ∷ []) u)
  next_goes zero n ns t u o e few h less = absurd (omega (arith, few, less))
  next_goes (suc left) n ns t u o e few h less = (left, omega (arith, few, less), e ∙ (behind_is_next left ns t ∙ ap (λ z. and_then z (go_on left ns)) h))
