-- A string that is read piece by piece, at most as many as there are characters, has the outcome of the machine.
use Rattle.std.proofs.Common.{◌≡◌, ◌<◌, ℕ, zero, suc, Bool, true, false, cond, Some, None, List, [], ◌∷◌, ◌++◌, length, refl, sym, ap, ◌∙◌, subst, append_assoc, arith}
use Rattle.std.specs.Prelude.{◌==◌}
use Rattle.uset_grammar.specs.Text.{Text}
use Rattle.uset_grammar.specs.Outcome.{Outcome, got, faulty, ended}
use Rattle.uset_grammar.specs.Escape.{Apart, Spelled, itself}
use Rattle.uset_grammar.specs.EscapeSlips.{in_string}
use Rattle.uset_grammar.proofs.UnitMachine.{Next, goes, whole, refuses, Slip, turn, run}
use Rattle.uset_grammar.proofs.EscapeMachine as E
use Rattle.uset_grammar.proofs.EscapeMachineSlips as S
use Rattle.uset_grammar.proofs.StringMachine.{State, start, pieces, inside, lift, behind_text, next, slip}
use Rattle.uset_grammar.specs.BracedString.{StringOutcome}
use Rattle.uset_grammar.specs.Parts.{and_then, TellsOutcome}
use Rattle.uset_grammar.specs.EscapeParts.{letters_in}
use Rattle.uset_grammar.specs.StringParts.{with_piece_in, pieces_in}
use Rattle.uset_grammar.specs.Laws.{StringsByParts}
use Rattle.uset_grammar.proofs.StringOutcome.{string_answered, outcome}
use Rattle.uset_grammar.proofs.Placed.{Placed, placed_tells, further_text}
use Rattle.uset_grammar.proofs.EscapeByParts.{then_then, letters_placed}

module _ (white_space : ℕ → Bool) (apart : Apart white_space) (q : Text) where
  abbrev machine : Text → State → Text → Outcome (List Spelled)
  machine p s t = run (next white_space) (slip white_space) p s t

  abbrev Reads : ℕ → Type 0
  Reads f = (t p : Text) (ps : List Spelled) → length t < f → q ≡ p ++ t → Placed q (pieces_in white_space f ps t) (machine p (pieces ps) t)

  abbrev more : ℕ → List Spelled → Spelled → Text → Outcome (List Spelled)
  more f ps s u = pieces_in white_space f (ps ++ s ∷ []) u

  inside_by : (f : ℕ) (t p b r : Text) (c : ℕ) (ps : List Spelled) (o : Outcome Spelled) (x : Slip) (m : Next E.State Spelled) → Reads f → length t < f → q ≡ b ++ (r ++ c ∷ t) → p ≡ b ++ r →
      ((e : E.State) → Placed (r ++ c ∷ t) o (run (E.next white_space) (S.slip white_space in_string) (r ++ c ∷ []) e t) → Placed q (and_then o (more f ps)) (machine (p ++ c ∷ []) (inside ps b (r ++ c ∷ []) e) t)) →
      Placed (r ++ c ∷ t) o (turn x m (λ s. run (E.next white_space) (S.slip white_space in_string) (r ++ c ∷ []) s t) r c t) →
      Placed q (and_then o (more f ps)) (turn (behind_text b x) (lift ps b (r ++ c ∷ []) m) (λ s. machine (p ++ c ∷ []) s t) p c t)
  inside_by f t p b r c ps (got s u) (Some y) m all few g h ih placed = absurd placed
  inside_by f t p b r c ps (faulty k u) (Some y) m all few g h ih placed = (placed.0, g ∙ (ap (λ z. b ++ z) placed.1 ∙ sym (append_assoc b y.1 u)))
  inside_by f t p b r c ps ended (Some y) m all few g h ih placed = absurd placed
  inside_by f t p b r c ps o None (goes e) all few g h ih placed = ih e placed
  inside_by f t p b r c ps (got s u) None (whole w) all few g h ih placed =
      subst (λ z. Placed q (more f ps z u) (machine (p ++ c ∷ []) (pieces (ps ++ w ∷ [])) t)) (sym placed.0)
      (subst (λ z. Placed q (more f ps w z) (machine (p ++ c ∷ []) (pieces (ps ++ w ∷ [])) t)) (sym placed.1)
      (all t (p ++ c ∷ []) (ps ++ w ∷ []) few (g ∙ (sym (append_assoc b r (c ∷ t)) ∙ (ap (λ z. z ++ c ∷ t) (sym h) ∙ sym (append_assoc p (c ∷ []) t))))))
  inside_by f t p b r c ps (faulty k u) None (whole w) all few g h ih placed = absurd placed
  inside_by f t p b r c ps ended None (whole w) all few g h ih placed = absurd placed
  inside_by f t p b r c ps (got s u) None refuses all few g h ih placed = absurd placed
  inside_by f t p b r c ps (faulty k u) None refuses all few g h ih placed =
      (placed.0, g ∙ (ap (λ z. b ++ z) placed.1 ∙ (sym (append_assoc b r u) ∙ ap (λ z. z ++ u) (sym h))))
  inside_by f t p b r c ps ended None refuses all few g h ih placed = absurd placed

  nothing_left : (f : ℕ) (r : Text) (ps : List Spelled) (o : Outcome Spelled) → Placed r o ended → Placed q (and_then o (more f ps)) ended
  nothing_left f r ps (got s u) h = absurd h
  nothing_left f r ps (faulty k u) h = absurd h
  nothing_left f r ps ended h = tt

  inside_placed : (t : Text) (f : ℕ) (p b r : Text) (ps : List Spelled) (e : E.State) (o : Outcome Spelled) → Reads f → length t < f → q ≡ b ++ (r ++ t) → p ≡ b ++ r →
      Placed (r ++ t) o (run (E.next white_space) (S.slip white_space in_string) r e t) → Placed q (and_then o (more f ps)) (machine p (inside ps b r e) t)
  inside_placed [] f p b r ps e o all few g h placed = nothing_left f (r ++ []) ps o placed
  inside_placed (c ∷ t) f p b r ps e o all few g h placed =
      inside_by f t p b r c ps o (S.slip white_space in_string r e c) (E.next white_space r e c) all (omega (arith, few)) g h
      (λ e' k. inside_placed t f (p ++ c ∷ []) b (r ++ c ∷ []) ps e' o all (omega (arith, few)) (g ∙ ap (λ z. b ++ z) (sym (append_assoc r (c ∷ []) t)))
      (ap (λ z. z ++ c ∷ []) h ∙ append_assoc b r (c ∷ []))
      (subst (λ z. Placed z o (run (E.next white_space) (S.slip white_space in_string) (r ++ c ∷ []) e' t)) (sym (append_assoc r (c ∷ []) t)) k)) placed

  pieces_by : (f : ℕ) (t p : Text) (c : ℕ) (ps : List Spelled) (x w s : Bool) → (c == 0x5C) ≡ s → Reads f → length t < f → q ≡ p ++ c ∷ t →
      Placed q (and_then (cond x (got None t) (cond w (got (Some None) t) (cond s (and_then (letters_in white_space in_string (c ∷ t) t) (λ s. got (Some (Some s)))) (got (Some (Some (itself c))) t))))
      (with_piece_in (pieces_in white_space f) ps))
      (turn None (cond x (whole ps) (cond w (goes (pieces ps)) (cond s (goes (inside ps p (c ∷ []) E.letters)) (goes (pieces (ps ++ itself c ∷ []))))))
      (λ s. machine (p ++ c ∷ []) s t) p c t)
  pieces_by f t p c ps true w s e all few g = (refl, refl)
  pieces_by f t p c ps false true s e all few g = all t (p ++ c ∷ []) ps few (further_text q p t c g)
  pieces_by f t p c ps false false true e all few g =
      let read = letters_in white_space in_string (c ∷ t) t in
      subst (λ o. Placed q o (machine (p ++ c ∷ []) (inside ps p (c ∷ []) E.letters) t)) (sym (then_then read (λ s. got (Some (Some s))) (with_piece_in (pieces_in white_space f) ps)))
      (inside_placed t f (p ++ c ∷ []) p (c ∷ []) ps E.letters read all few g refl (letters_placed white_space apart in_string (c ∷ t) t (c ∷ []) refl))
  pieces_by f t p c ps false false false e all few g = all t (p ++ c ∷ []) (ps ++ itself c ∷ []) few (further_text q p t c g)

  pub pieces_placed : (f : ℕ) → Reads f
  pieces_placed zero t p ps few g = absurd (omega (arith, few))
  pieces_placed (suc f) [] p ps few g = tt
  pieces_placed (suc f) (c ∷ t) p ps few g = pieces_by f t p c ps (c == 0x7D) (white_space c) (c == 0x5C) refl (pieces_placed f) (omega (arith, few)) g

-- what the pieces say of a string is the machine's outcome
string_placed : (white_space : ℕ → Bool) → Apart white_space → (most : ℕ) (t : Text) → length t < most →
    Placed (0x7B ∷ t) (pieces_in white_space most [] t) (run (next white_space) (slip white_space) [] start (0x7B ∷ t))
string_placed white_space apart most t few = pieces_placed white_space apart (0x7B ∷ t) most t (0x7B ∷ []) [] few refl

pub strings_by_parts : StringsByParts
strings_by_parts white_space apart most q t e few =
    subst (λ z. TellsOutcome (StringOutcome white_space z) z (pieces_in white_space most [] t)) (sym e)
    (placed_tells (StringOutcome white_space (0x7B ∷ t)) (0x7B ∷ t) (pieces_in white_space most [] t) (outcome white_space apart (0x7B ∷ t))
    (string_placed white_space apart most t few) (string_answered white_space apart t))
