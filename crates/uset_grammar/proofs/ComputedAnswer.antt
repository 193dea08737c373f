-- The machine that reads a source with the outcomes of the units in it, so that it computes; what it answers is the answer of the
-- source.
use Rattle.std.proofs.Common.{◌≡◌, ◌+◌, length, option_map, ℕ, zero, suc, Bool, true, false, cond, List, [], ◌∷◌, ◌++◌, Option, Some, None, refl, ap, ◌∙◌, subst}
use Rattle.std.specs.Prelude.{◌==◌}
use Rattle.uset_grammar.specs.Text.{Text, skip}
use Rattle.uset_grammar.specs.Outcome.{eof, Outcome, ended, meaning}
use Rattle.uset_grammar.specs.Property.{Query, PropertyBegins}
use Rattle.uset_grammar.specs.Unit.{Meaning, a_string, a_property, UnitBegins, brace_begins, posix_begins, backslash_begins, begins_property}
use Rattle.uset_grammar.proofs.EscapeMachine.{letter_apart}
use Rattle.uset_grammar.proofs.StringOutcome as SL
use Rattle.uset_grammar.proofs.PropertyOutcome as PL
use Rattle.uset_grammar.proofs.UnitOutcome as BL
use Rattle.uset_grammar.specs.Language.{Language, Lawful, resolves, lacks}
use Rattle.uset_grammar.specs.Front.{Front, nothing, closing, opening, single, of_name, begins_unit, caret, front, First, too_short, stray, bare, of_variable, of_bracket, of_property, first}
use Rattle.uset_grammar.specs.Reached.{OpenBracket, is_short}
use Rattle.uset_grammar.specs.Turn.{Verdict, rejected, Turn, goes, stops, two, turn, unit_turn, front_turn, property_turn, first_turn}
use Rattle.uset_grammar.proofs.UnitInFront.{UnitAnswer, PropertyAnswer, same_outcome, unit_begins, property_begins, unit_at, property_at, unit_answered, property_answered, reader}
use Rattle.uset_grammar.specs.Arranging.{fit}
use Rattle.uset_grammar.specs.Answers.{Answer, IsAnswer}
use Rattle.uset_grammar.proofs.OneAnswer.{Runs, stop, go, in_bytes, decided, decided_by_run}

module _ (l : Language) (lawful : Lawful l) where
  abbrev pub backslash_of : Bool → Text → Outcome Meaning
  backslash_of both [] = ended
  backslash_of both (d ∷ t) = BL.backslash_outcome l.white_space lawful both (resolves l) (lacks l) (begins_property d) d t

  abbrev pub unit_of : Bool → Text → Outcome Meaning
  unit_of both [] = ended
  unit_of both (c ∷ t) =
      cond (c == 0x7B) (meaning a_string (SL.outcome l.white_space lawful (c ∷ t)))
      (cond (c == 0x5B) (meaning a_property (PL.outcome l.white_space (resolves l) (lacks l) (c ∷ t))) (backslash_of both t))

  abbrev pub property_of : Text → Outcome Query
  property_of q = PL.outcome l.white_space (resolves l) (lacks l) q

  answered_of : (both : Bool) (q : Text) → UnitBegins q → UnitAnswer l both q (unit_of both q)
  answered_of both _ (brace_begins {t}) =
      subst (λ o. UnitAnswer l both (0x7B ∷ t) o) (BL.string_unit_is l.white_space lawful both (resolves l) (lacks l) t t)
      (BL.one_unit_law l.white_space lawful both (resolves l) (lacks l) (0x7B ∷ t) t brace_begins).1
  answered_of both _ (posix_begins {t}) =
      subst (λ o. UnitAnswer l both (0x5B ∷ 0x3A ∷ t) o) (BL.posix_unit_is l.white_space lawful both (resolves l) (lacks l) t t)
      (BL.one_unit_law l.white_space lawful both (resolves l) (lacks l) (0x5B ∷ 0x3A ∷ t) t posix_begins).1
  answered_of both _ (backslash_begins {d} {t}) =
      subst (λ o. UnitAnswer l both (0x5C ∷ d ∷ t) o) (BL.backslash_unit_is l.white_space lawful both (resolves l) (lacks l) d t t)
      (BL.one_unit_law l.white_space lawful both (resolves l) (lacks l) (0x5C ∷ d ∷ t) t backslash_begins).1

  unit_is : (both : Bool) (q : Text) → front l q ≡ begins_unit → is_short q ≡ false → unit_at l lawful both q ≡ unit_of both q
  unit_is both q f long = same_outcome _ _ _ q (unit_at l lawful both q) (unit_of both q) (unit_answered l lawful both q f long) (answered_of both q (unit_begins l q f long))

  property_answered_of : (q : Text) → PropertyBegins q → PropertyAnswer l q (property_of q)
  property_answered_of q b =
      subst (λ o. PropertyAnswer l q o) (PL.property_is l.white_space (letter_apart l.white_space lawful) (resolves l) (lacks l) q b.0 b.1)
      (PL.one_property_law l.white_space (letter_apart l.white_space lawful) (resolves l) (lacks l) q b.0 b.1).1

  property_is : (q : Text) → first l q ≡ of_property → property_at l lawful q ≡ property_of q
  property_is q f = same_outcome _ _ _ q (property_at l lawful q) (property_of q) (property_answered l lawful q f) (property_answered_of q (property_begins l q f))

  module _ (source : Text) where
    abbrev pub front_of : OpenBracket → List OpenBracket → Text → Front → Turn
    front_of b bs q begins_unit = unit_turn l (reader l lawful) source b bs q (unit_of (fit (b.items ++ two ∷ [])) q)
    front_of b bs q nothing = front_turn l (reader l lawful) source b bs q nothing
    front_of b bs q (closing r) = front_turn l (reader l lawful) source b bs q (closing r)
    front_of b bs q (opening o inner) = front_turn l (reader l lawful) source b bs q (opening o inner)
    front_of b bs q (single i r) = front_turn l (reader l lawful) source b bs q (single i r)
    front_of b bs q (of_name n r) = front_turn l (reader l lawful) source b bs q (of_name n r)
    front_of b bs q caret = front_turn l (reader l lawful) source b bs q caret

    abbrev pub first_of : Text → First → Turn
    first_of t of_property = property_turn l (reader l lawful) source t (property_of t)
    first_of t too_short = first_turn l (reader l lawful) source t too_short
    first_of t (stray c) = first_turn l (reader l lawful) source t (stray c)
    first_of t bare = first_turn l (reader l lawful) source t bare
    first_of t (of_variable n r) = first_turn l (reader l lawful) source t (of_variable n r)
    first_of t (of_bracket o inner) = first_turn l (reader l lawful) source t (of_bracket o inner)

    abbrev pub turn_of : List OpenBracket → Text → Turn
    turn_of [] t = first_of t (first l t)
    turn_of (b ∷ bs) t = cond (is_short (skip l.white_space t)) (stops (rejected eof None)) (front_of b bs (skip l.white_space t) (front l (skip l.white_space t)))

    front_is : (b : OpenBracket) (bs : List OpenBracket) (q : Text) (f : Front) → front l q ≡ f → is_short q ≡ false → front_turn l (reader l lawful) source b bs q f ≡ front_of b bs q f
    front_is b bs q begins_unit e long = ap (λ o. unit_turn l (reader l lawful) source b bs q o) (unit_is (fit (b.items ++ two ∷ [])) q e long)
    front_is b bs q nothing e long = refl
    front_is b bs q (closing r) e long = refl
    front_is b bs q (opening o inner) e long = refl
    front_is b bs q (single i r) e long = refl
    front_is b bs q (of_name n r) e long = refl
    front_is b bs q caret e long = refl

    first_is : (t : Text) (f : First) → first l t ≡ f → first_turn l (reader l lawful) source t f ≡ first_of t f
    first_is t of_property e = ap (λ o. property_turn l (reader l lawful) source t o) (property_is t e)
    first_is t too_short e = refl
    first_is t (stray c) e = refl
    first_is t bare e = refl
    first_is t (of_variable n r) e = refl
    first_is t (of_bracket o inner) e = refl

    in_bracket_is : (b : OpenBracket) (bs : List OpenBracket) (q : Text) (x : Bool) → is_short q ≡ x →
        cond x (stops (rejected eof None)) (front_turn l (reader l lawful) source b bs q (front l q)) ≡ cond x (stops (rejected eof None)) (front_of b bs q (front l q))
    in_bracket_is b bs q true e = refl
    in_bracket_is b bs q false e = front_is b bs q (front l q) refl e

    turn_is : (bs : List OpenBracket) (t : Text) → turn l (reader l lawful) source bs t ≡ turn_of bs t
    turn_is [] t = first_is t (first l t) refl
    turn_is (b ∷ bs) t = in_bracket_is b bs (skip l.white_space t) (is_short (skip l.white_space t)) refl

    abbrev pub on : Turn → (List OpenBracket → Text → Option Verdict) → Option Verdict
    on (goes bs t) k = k bs t
    on (stops a) k = Some a

    -- the machine's answer in so many turns
    abbrev pub answer_of : ℕ → List OpenBracket → Text → Option Verdict
    answer_of zero bs t = None
    answer_of (suc n) bs t = on (turn_of bs t) (λ cs u. answer_of n cs u)

    runs_of : (n : ℕ) (bs : List OpenBracket) (t : Text) (a : Verdict) → answer_of n bs t ≡ Some a → Runs l (reader l lawful) source bs t a
    runs_of zero bs t a h = absurd (let g = h in cc)
    runs_of (suc n) bs t a h = by (turn_of bs t) refl (λ cs u k. runs_of n cs u a k) h
      where
        by : (x : Turn) → turn_of bs t ≡ x → ((cs : List OpenBracket) (u : Text) → answer_of n cs u ≡ Some a → Runs l (reader l lawful) source cs u a) → on x (λ cs u. answer_of n cs u) ≡ Some a → Runs l (reader l lawful) source bs t a
        by (stops b) e more k = stop (turn_is bs t ∙ (e ∙ (let g : b ≡ a = cc in ap (λ z. stops z) g)))
        by (goes cs u) e more k = go (turn_is bs t ∙ e) (more cs u k)
        -- the answer in bytes

  abbrev pub computed : Text → Option Answer
  computed source = option_map in_bytes (answer_of source (length source + 3) [] source)

  computed_decides : (source : Text) (o : Option Verdict) (a : Answer) → answer_of source (length source + 3) [] source ≡ o → option_map in_bytes o ≡ Some a → IsAnswer (Some l) source a
  computed_decides source None a e h = absurd (let g = h in cc)
  computed_decides source (Some v) a e h =
      let g : Some (in_bytes v) ≡ Some a = h in
      let same : in_bytes v ≡ a = cc in
      subst (λ z. IsAnswer (Some l) source z) same (decided (Some l) source v (decided_by_run l (reader l lawful) source v (runs_of source (length source + 3) [] source v e)))

  -- what is computed is the one answer
  pub computed_is_answer : (source : Text) (a : Answer) → computed source ≡ Some a → IsAnswer (Some l) source a
  computed_is_answer source a h = computed_decides source (answer_of source (length source + 3) [] source) a refl h
