-- The machine of strings in braces, and that it reads their shapes.
use Rattle.std.proofs.Common.{◌≡◌, ◌≤◌, ℕ, zero, suc, Bool, true, false, cond, List, [], ◌∷◌, ◌++◌, length, Option, Some, None, refl, sym, ap, ◌∙◌, append_assoc, append-nil, arith}
use Rattle.std.specs.Prelude.{◌==◌, if◌then◌else◌}
use Rattle.uset_grammar.specs.Text.{Text, ◌>>=◌}
use Rattle.uset_grammar.specs.EscapeSlips.{in_string}
use Rattle.uset_grammar.specs.Escape.{Apart, Spelled, itself, escape_shape}
use Rattle.uset_grammar.specs.BracedString.{with_piece, pieces_shape, string_shape}
use Rattle.uset_grammar.proofs.UnitMachine.{Next, goes, whole, refuses, Slip, turn, run, free}
use Rattle.uset_grammar.proofs.EscapeMachine as E
use Rattle.uset_grammar.proofs.EscapeMachine.{read_whole}
use Rattle.uset_grammar.proofs.EscapeMachineSlips as S

-- What a string awaits.
pub data State : Type 0 where
  start : State
  -- further pieces
  pieces : List Spelled → State
  -- the end of an escape, behind pieces, the text before it and its own
  inside : List Spelled → Text → Text → E.State → State

abbrev pub lift : List Spelled → Text → Text → Next E.State Spelled → Next State (List Spelled)
lift ps b q (goes e) = goes (inside ps b q e)
lift ps b q (whole s) = goes (pieces (ps ++ s ∷ []))
lift ps b q refuses = refuses

abbrev pub behind_text : Text → Slip → Slip
behind_text b None = None
behind_text b (Some x) = Some (x.0, b ++ x.1)

module _ (white_space : ℕ → Bool) where
  abbrev pub next : Text → State → ℕ → Next State (List Spelled)
  next p start c = if c == 0x7B then goes (pieces []) else refuses
  next p (pieces ps) c =
      if c == 0x7D then whole ps
      else if white_space c then goes (pieces ps)
      else if c == 0x5C then goes (inside ps p (c ∷ []) E.letters)
      else goes (pieces (ps ++ itself c ∷ []))
  next p (inside ps b q e) c = lift ps b (q ++ c ∷ []) (E.next white_space q e c)

  abbrev pub slip : Text → State → ℕ → Slip
  slip p start c = None
  slip p (pieces ps) c = None
  slip p (inside ps b q e) c = behind_text b (S.slip white_space in_string q e c)

-- what is read behind pieces
abbrev pub in_front : List Spelled → Option (List Spelled × Text) → Option (List Spelled × Text)
in_front ps read = read >>= λ q. Some (ps ++ q.0, q.1)

front_piece : (ps : List Spelled) (x : Spelled) (o : Option (List Spelled × Text)) → in_front (ps ++ x ∷ []) o ≡ in_front ps (with_piece x o)
front_piece ps x None = refl
front_piece ps x (Some q) = ap (λ z. Some (z, q.1)) (append_assoc ps (x ∷ []) q.0)

front_bind : (ps : List Spelled) (o : Option (Spelled × Text)) (f : Text → Option (List Spelled × Text)) →
    (o >>= λ x. in_front (ps ++ x.0 ∷ []) (f x.1)) ≡ in_front ps (o >>= λ x. with_piece x.0 (f x.1))
front_bind ps None f = refl
front_bind ps (Some x) f = front_piece ps x.0 (f x.1)

front_none : (o : Option (List Spelled × Text)) → o ≡ in_front [] o
front_none None = refl
front_none (Some q) = refl

module _ (white_space : ℕ → Bool) (apart : Apart white_space) where
  abbrev pub Pieces : ℕ → Type 0
  Pieces n = (t p : Text) (ps : List Spelled) → length t ≤ n → read_whole (run (next white_space) free p (pieces ps) t) ≡ in_front ps (pieces_shape white_space n t)

  abbrev rest : ℕ → List Spelled → Spelled × Text → Option (List Spelled × Text)
  rest n ps x = in_front (ps ++ x.0 ∷ []) (pieces_shape white_space n x.1)

  inside_by : (n : ℕ) (t p b q : Text) (c : ℕ) (ps : List Spelled) (m : Next E.State Spelled) → Pieces n → length t ≤ n →
      ((e : E.State) → read_whole (run (next white_space) free (p ++ c ∷ []) (inside ps b (q ++ c ∷ []) e) t) ≡ (read_whole (run (E.next white_space) free (q ++ c ∷ []) e t) >>= rest n ps)) →
      read_whole (turn None (lift ps b (q ++ c ∷ []) m) (λ s'. run (next white_space) free (p ++ c ∷ []) s' t) p c t)
      ≡ (read_whole (turn None m (λ s'. run (E.next white_space) free (q ++ c ∷ []) s' t) q c t) >>= rest n ps)
  inside_by n t p b q c ps (goes e) all few ih = ih e
  inside_by n t p b q c ps (whole s) all few ih = all t (p ++ c ∷ []) (ps ++ s ∷ []) few
  inside_by n t p b q c ps refuses all few ih = refl

  inside_read : (n : ℕ) (t p b q : Text) (ps : List Spelled) (e : E.State) → Pieces n → length t ≤ n →
      read_whole (run (next white_space) free p (inside ps b q e) t) ≡ (read_whole (run (E.next white_space) free q e t) >>= rest n ps)
  inside_read n [] p b q ps e all few = refl
  inside_read n (c ∷ t) p b q ps e all few =
      inside_by n t p b q c ps (E.next white_space q e c) all (omega (arith, few)) (λ e'. inside_read n t (p ++ c ∷ []) b (q ++ c ∷ []) ps e' all (omega (arith, few)))

  escape_from : (c : ℕ) (t : Text) → (c == 0x5C) ≡ true → read_whole (run (E.next white_space) free (c ∷ []) E.letters t) ≡ escape_shape white_space (c ∷ t)
  escape_from c t is =
      sym (ap (λ b. read_whole (turn None (cond b (goes E.letters) refuses) (λ s'. run (E.next white_space) free (c ∷ []) s' t) [] c t)) is) ∙ E.shape_is_read white_space apart (c ∷ t) []

  pieces_by : (n : ℕ) (t p : Text) (c : ℕ) (ps : List Spelled) (x w s : Bool) → (c == 0x5C) ≡ s → Pieces n → length t ≤ n →
      read_whole (turn None (cond x (whole ps) (cond w (goes (pieces ps)) (cond s (goes (inside ps p (c ∷ []) E.letters)) (goes (pieces (ps ++ itself c ∷ []))))))
      (λ s'. run (next white_space) free (p ++ c ∷ []) s' t) p c t)
      ≡ in_front ps (cond x (Some ([], t)) (cond w (pieces_shape white_space n t) (cond s (escape_shape white_space (c ∷ t) >>= λ p. with_piece p.0 (pieces_shape white_space n p.1))
      (with_piece (itself c) (pieces_shape white_space n t)))))
  pieces_by n t p c ps true w s es all few = ap (λ z. Some (z, t)) (sym (append-nil ps))
  pieces_by n t p c ps false true s es all few = all t (p ++ c ∷ []) ps few
  pieces_by n t p c ps false false true es all few =
      inside_read n t (p ++ c ∷ []) p (c ∷ []) ps E.letters all few ∙ (ap (λ o. o >>= rest n ps) (escape_from c t es)
      ∙ front_bind ps (escape_shape white_space (c ∷ t)) (pieces_shape white_space n))
  pieces_by n t p c ps false false false es all few = all t (p ++ c ∷ []) (ps ++ itself c ∷ []) few ∙ front_piece ps (itself c) (pieces_shape white_space n t)

  pub pieces_read : (n : ℕ) → Pieces n
  pieces_read zero [] p ps few = refl
  pieces_read zero (c ∷ t) p ps few = absurd (omega (arith, few))
  pieces_read (suc n) [] p ps few = refl
  pieces_read (suc n) (c ∷ t) p ps few = pieces_by n t p c ps (c == 0x7D) (white_space c) (c == 0x5C) refl (pieces_read n) (omega (arith, few))

  start_by : (c : ℕ) (t p : Text) (b : Bool) →
      read_whole (turn None (cond b (goes (pieces [])) refuses) (λ s'. run (next white_space) free (p ++ c ∷ []) s' t) p c t) ≡ (cond b (Some t) None >>= λ u. pieces_shape white_space (length u) u)
  start_by c t p true = pieces_read (length t) t (p ++ c ∷ []) [] (omega arith) ∙ sym (front_none (pieces_shape white_space (length t) t))
  start_by c t p false = refl

  pub shape_is_read : (t p : Text) → read_whole (run (next white_space) free p start t) ≡ string_shape white_space t
  shape_is_read [] p = refl
  shape_is_read (c ∷ t) p = start_by c t p (c == 0x7B)
