-- The pieces of a string, one behind another.
use Rattle.std.proofs.Common.{◌≡◌, ◌≤◌, ◌<◌, ℕ, zero, suc, Bool, true, false, cond, length, List, [], ◌∷◌, ◌++◌, Option, Some, None, refl, sym, ap, ◌∙◌, subst, append-nil, append_assoc, arith}
use Rattle.std.specs.Prelude.{◌==◌}
use Rattle.std.specs.Str.{chars, IsUtf8}
use Rattle.std.proofs.lemmas.Bool.{eqb-true}
use Rattle.std.proofs.lemmas.Str.{chars-nil, encodes-chars, length-le-encodes}
use Rattle.cp_invlist.specs.InversionList.{contains}
use Rattle.uset_grammar.specs.Text.{Text}
use Rattle.uset_grammar.specs.Outcome.{Outcome, got, faulty, ended}
use Rattle.uset_grammar.specs.Escape.{Apart, Spelled, itself, codes_of}
use Rattle.uset_grammar.specs.EscapeSlips.{in_string, allowed, EscapeOutcome}
use Rattle.uset_grammar.specs.BracedString.{text_of}
use Rattle.uset_read.specs.declared.stop.Stop.{Stop}
use Rattle.uset_read.specs.Stops.{Stops}
use Rattle.uset_grammar.specs.Parts.{and_then, TellsOutcome}
use Rattle.uset_grammar.specs.EscapeParts.{letters_in}
use Rattle.uset_grammar.specs.StringParts.{piece_in, with_piece_in, pieces_in}
use Rattle.uset_grammar.specs.Laws.{EscapesByParts}
use Rattle.uset_read.specs.Pieces.{PiecesAre, PiecesStop}
use Rattle.uset_read.proofs.NumbersInBraces.{stops_then}

-- the pieces read so far, with at least as many turns left as bytes
pub record SoFar (white_space text string rest : List ℕ) : Type 0 where
  pub pieces : List Spelled
  pub left : ℕ
  pub few : length rest < left
  pub same : pieces_in (contains white_space) (suc (length text)) [] (chars text) ≡ pieces_in (contains white_space) left pieces (chars rest)
  pub characters : chars string ≡ text_of pieces
  pub bounded : length (chars text) ≤ length text

-- a text has no more characters than bytes
few_characters : (text : List ℕ) → IsUtf8 text → length (chars text) ≤ length text
few_characters text utf8 = let n = length-le-encodes (chars text) in let same = ap length (encodes-chars text utf8) in omega arith

pub nothing_yet : (white_space text string : List ℕ) → IsUtf8 text → string ≡ [] → SoFar white_space text string text
nothing_yet white_space text string utf8 is = record { pieces = []; left = suc (length text); few = omega arith; same = refl; characters = ap chars is ∙ chars-nil; bounded = few_characters text utf8 }

-- what an escape among the pieces was read as
inner_got : (o : Outcome Spelled) (s : Spelled) (u : Text) → and_then o (λ s. got (Some (Some s))) ≡ got (Some (Some s)) u → o ≡ got s u
inner_got (got s' u') s u h =
    let g : got (Some (Some s')) u' ≡ got (Some (Some s)) u = h in
    let k : s' ≡ s = cc in
    let j : u' ≡ u = cc in
    ap (λ z. got z u') k ∙ ap (λ z. got s z) j
inner_got (faulty k r) s u h = absurd (let g : ◌≡◌ {A = Outcome (Option (Option Spelled))} (faulty k r) (got (Some (Some s)) u) = h in cc)
inner_got ended s u h = absurd (let g : ◌≡◌ {A = Outcome (Option (Option Spelled))} ended (got (Some (Some s)) u) = h in cc)

-- a piece that is read is allowed in a string
module _ (white_space : ℕ → Bool) (escapes : EscapesByParts) where
  allowed_by : Apart white_space → (c : ℕ) (t : Text) (s : Spelled) (u : Text) (b w e : Bool) → (c == 0x5C) ≡ e →
      cond b (got None t) (cond w (got (Some None) t) (cond e (and_then (letters_in white_space in_string (c ∷ t) t) (λ s. got (Some (Some s)))) (got (Some (Some (itself c))) t))) ≡ got (Some (Some s)) u → allowed in_string s ≡ true
  allowed_by apart c t s u true w e is h = absurd (let g : ◌≡◌ {A = Outcome (Option (Option Spelled))} (got None t) (got (Some (Some s)) u) = h in cc)
  allowed_by apart c t s u false true e is h = absurd (let g : got (Some None) t ≡ got (Some (Some s)) u = h in cc)
  allowed_by apart c t s u false false true is h =
      let read = inner_got (letters_in white_space in_string (c ∷ t) t) s u h in
      let here : EscapeOutcome white_space in_string (c ∷ t) (got s u) =
      subst (TellsOutcome (EscapeOutcome white_space in_string (c ∷ t)) (c ∷ t)) read (escapes white_space apart in_string (c ∷ t) t (ap (λ z. z ∷ t) (eqb-true c 0x5C is))) in
      ((here.reads s u).0 refl).fits
  allowed_by apart c t s u false false false is h =
      let g : got (Some (Some (itself c))) t ≡ got (Some (Some s)) u = h in
      let k : itself c ≡ s = cc in
      sym (ap (allowed in_string) k)

  piece_allowed : Apart white_space → (t : Text) (s : Spelled) (u : Text) → piece_in white_space t ≡ got (Some (Some s)) u → allowed in_string s ≡ true
  piece_allowed apart [] s u h = absurd (let g : ◌≡◌ {A = Outcome (Option (Option Spelled))} ended (got (Some (Some s)) u) = h in cc)
  piece_allowed apart (c ∷ t) s u h = allowed_by apart c t s u (c == 0x7D) (white_space c) (c == 0x5C) refl h

text_snoc : (ps : List Spelled) (s : Spelled) → text_of (ps ++ s ∷ []) ≡ text_of ps ++ codes_of s
text_snoc [] s = append-nil (codes_of s)
text_snoc (p ∷ ps) s = ap (λ z. codes_of p ++ z) (text_snoc ps s) ∙ sym (append_assoc (codes_of p) (text_of ps) (codes_of s))

module _ (white_space text string rest : List ℕ) (far : SoFar white_space text string rest) where
  abbrev whole : Outcome (List Spelled)
  whole = pieces_in (contains white_space) (suc (length text)) [] (chars text)

  one_turn : (k : ℕ) × (length rest ≤ k) × (whole ≡ and_then (piece_in (contains white_space) (chars rest)) (with_piece_in (pieces_in (contains white_space) k) far.pieces))
  one_turn = by far.left far.few far.same
    where
      by : (n : ℕ) → length rest < n → whole ≡ pieces_in (contains white_space) n far.pieces (chars rest) →
          (k : ℕ) × (length rest ≤ k) × (whole ≡ and_then (piece_in (contains white_space) (chars rest)) (with_piece_in (pieces_in (contains white_space) k) far.pieces))
      by zero few same = absurd (omega (arith, few))
      by (suc k) few same = (k, omega (arith, few), same)

  pub piece_stops : (stop : Stop) → Stops (piece_in (contains white_space) (chars rest)) stop → PiecesStop white_space text stop
  piece_stops stop h apart =
      (subst (λ o. Stops o stop) (sym one_turn.2) (stops_then (piece_in (contains white_space) (chars rest)) (with_piece_in (pieces_in (contains white_space) one_turn.0) far.pieces) stop h), far.bounded)

  pub piece_closes : (behind : List ℕ) → piece_in (contains white_space) (chars rest) ≡ got None (chars behind) → PiecesAre white_space text string behind
  piece_closes behind h = record { pieces = far.pieces; read = one_turn.2 ∙ ap (λ z. and_then z (with_piece_in (pieces_in (contains white_space) one_turn.0) far.pieces)) h; characters = far.characters; few = far.bounded }

  pub piece_skips : (behind : List ℕ) → length behind < length rest → piece_in (contains white_space) (chars rest) ≡ got (Some None) (chars behind) → SoFar white_space text string behind
  piece_skips behind less h = record {
    pieces = far.pieces;
    left = one_turn.0;
    few = let k = one_turn.1 in omega (arith, less);
    same = one_turn.2 ∙ ap (λ z. and_then z (with_piece_in (pieces_in (contains white_space) one_turn.0) far.pieces)) h;
    characters = far.characters;
    bounded = far.bounded;
  }

  pub piece_adds : (longer behind : List ℕ) (s : Spelled) → length behind < length rest → piece_in (contains white_space) (chars rest) ≡ got (Some (Some s)) (chars behind) →
      chars longer ≡ chars string ++ codes_of s → SoFar white_space text longer behind
  piece_adds longer behind s less h more = record {
    pieces = far.pieces ++ s ∷ [];
    left = one_turn.0;
    few = let k = one_turn.1 in omega (arith, less);
    same = one_turn.2 ∙ ap (λ z. and_then z (with_piece_in (pieces_in (contains white_space) one_turn.0) far.pieces)) h;
    characters = more ∙ (ap (λ z. z ++ codes_of s) far.characters ∙ sym (text_snoc far.pieces s));
    bounded = far.bounded;
  }

  -- no piece that is read has a number that is no character's
  pub piece_is_allowed : EscapesByParts → (behind : List ℕ) (s : Spelled) → piece_in (contains white_space) (chars rest) ≡ got (Some (Some s)) (chars behind) → allowed in_string s ≡ false → Apart (contains white_space) → ⊥
  piece_is_allowed escapes behind s h refused apart =
      let g : true ≡ false = sym (piece_allowed (contains white_space) escapes apart (chars rest) s (chars behind) h) ∙ refused in cc
