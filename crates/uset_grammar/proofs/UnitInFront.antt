-- The outcome of the unit or the property that stands in front, as a function.
use Rattle.std.proofs.Common.{◌≡◌, ℕ, Bool, true, false, cond, [], ◌∷◌, Option, Some, None, refl, sym, ap, ◌∙◌, subst, inl, inr}
use Rattle.std.specs.Prelude.{◌==◌, is_some}
use Rattle.std.proofs.lemmas.Bool.{eqb-true}
use Rattle.uset_grammar.specs.Text.{Text, behind_code}
use Rattle.uset_grammar.specs.Outcome.{Kind, Outcome, got, faulty, ended, HasOutcome}
use Rattle.uset_grammar.specs.Property.{Query, PropertyBegins, PropertyRead, PropertyShape, PropertySlips}
use Rattle.uset_grammar.specs.Unit.{Meaning, UnitBegins, brace_begins, posix_begins, backslash_begins, UnitShape, UnitSlips, UnitRead}
use Rattle.uset_grammar.proofs.EscapeMachine.{letter_apart}
use Rattle.uset_grammar.proofs.UnitOutcome.{one_unit_law}
use Rattle.uset_grammar.proofs.PropertyOutcome.{one_property_law}
use Rattle.uset_grammar.specs.Language.{Language, Lawful, resolves, lacks}
use Rattle.uset_grammar.specs.Front.{Sign, open_bracket, close_bracket, hyphen_sign, ampersand_sign, dollar_sign, backslash, open_brace, caret_sign, other, sign, Front, nothing, closing, opening, single, of_name, begins_unit, caret, name, header, named_or, front_of, front, First, too_short, stray, bare, of_variable, of_bracket, of_property, first_named, first_of, first}
use Rattle.uset_grammar.specs.Reached.{is_short}
use Rattle.uset_grammar.specs.Turn.{UnitReader}
use Rattle.uset_grammar.proofs.FrontRests.{Code, sign_code}

-- one answer is told by its three clauses
pub same_outcome : {V : Type 0} (R : Text → V → Text → Type 0) (S : Text → Type 0) (L : Text → ℕ → Kind → Text → Type 0) (q : Text) (o k : Outcome V) →
    HasOutcome R S L q o → HasOutcome R S L q k → o ≡ k
same_outcome R S L q (got v r) k h j = sym ((j.reads v r).1 ((h.reads v r).0 refl))
same_outcome R S L q (faulty w b) k h j = sym ((j.faults w b).1 ((h.faults w b).0 refl))
same_outcome R S L q ended k h j = sym (j.ends.1 (h.ends.0 refl))

module _ (l : Language) where
  abbrev Begun : Front → ℕ → Text → Type 0
  Begun begins_unit c t = is_short (c ∷ t) ≡ false → UnitBegins (c ∷ t)
  Begun nothing c t = Unit {0}
  Begun (closing r) c t = Unit {0}
  Begun (opening o inner) c t = Unit {0}
  Begun (single i r) c t = Unit {0}
  Begun (of_name n r) c t = Unit {0}
  Begun caret c t = Unit {0}

  colon : (c : ℕ) (t : Text) → c ≡ 0x5B → (x : Bool) → is_some (behind_code 0x3A t) ≡ x → Begun (cond x begins_unit (opening (header l t).0 (header l t).1)) c t
  colon c t e false h = tt
  colon c [] e true h = absurd (let g = h in cc)
  colon c (d ∷ t) e true h = by (d == 0x3A) refl h
    where
      by : (y : Bool) → (d == 0x3A) ≡ y → is_some (cond y (Some t) None) ≡ true → is_short (c ∷ d ∷ t) ≡ false → UnitBegins (c ∷ d ∷ t)
      by true k h long = subst (λ z. UnitBegins (z ∷ d ∷ t)) (sym e) (subst (λ z. UnitBegins (0x5B ∷ z ∷ t)) (sym (eqb-true d 0x3A k)) posix_begins)
      by false k h long = absurd (let g = h in cc)

  begun_named : (c : ℕ) (t : Text) (o : Option (Text × Text)) → Begun (named_or l t o) c t
  begun_named c t None = tt
  begun_named c t (Some n) = tt

  begun_of : (c : ℕ) (t : Text) (s : Sign) → Code s c → Begun (front_of l s c t) c t
  begun_of c t open_bracket e = colon c t e (is_some (behind_code 0x3A t)) refl
  begun_of c t close_bracket e = tt
  begun_of c t hyphen_sign e = tt
  begun_of c t ampersand_sign e = tt
  begun_of c t dollar_sign e = begun_named c t (name l t)
  begun_of c [] backslash e = λ long. absurd (let g : true ≡ false = subst (λ z. is_short (z ∷ []) ≡ false) e long in cc)
  begun_of c (d ∷ t) backslash e = λ long. subst (λ z. UnitBegins (z ∷ d ∷ t)) (sym e) backslash_begins
  begun_of c t open_brace e = λ long. subst (λ z. UnitBegins (z ∷ t)) (sym e) brace_begins
  begun_of c t caret_sign e = tt
  begun_of c t other e = tt

  pub unit_begins : (q : Text) → front l q ≡ begins_unit → is_short q ≡ false → UnitBegins q
  unit_begins [] f long = absurd (let g = f in cc)
  unit_begins (c ∷ t) f long = subst (λ z. Begun z c t) f (begun_of c t (sign c) (sign_code c (sign c) refl)) long

  abbrev BegunFirst : First → ℕ → Text → Type 0
  BegunFirst of_property c t = PropertyBegins (c ∷ t)
  BegunFirst too_short c t = Unit {0}
  BegunFirst (stray d) c t = Unit {0}
  BegunFirst bare c t = Unit {0}
  BegunFirst (of_variable n r) c t = Unit {0}
  BegunFirst (of_bracket o inner) c t = Unit {0}

  colon_first : (c : ℕ) (t : Text) → c ≡ 0x5B → (x : Bool) → is_some (behind_code 0x3A t) ≡ x → BegunFirst (cond x of_property (of_bracket (header l t).0 (header l t).1)) c t
  colon_first c t e false h = tt
  colon_first c [] e true h = absurd (let g = h in cc)
  colon_first c (d ∷ t) e true h = by (d == 0x3A) refl h
    where
      by : (y : Bool) → (d == 0x3A) ≡ y → is_some (cond y (Some t) None) ≡ true → PropertyBegins (c ∷ d ∷ t)
      by true k h = (t, inl (ap (λ z. z ∷ d ∷ t) e ∙ ap (λ z. 0x5B ∷ z ∷ t) (eqb-true d 0x3A k)))
      by false k h = absurd (let g = h in cc)

  named_first : (c : ℕ) (t : Text) (o : Option (Text × Text)) → BegunFirst (first_named l t o) c t
  named_first c [] None = tt
  named_first c (d ∷ t) None = tt
  named_first c [] (Some n) = tt
  named_first c (d ∷ t) (Some n) = tt

  begun_first : (c : ℕ) (t : Text) (s : Sign) → Code s c → BegunFirst (first_of l s c t) c t
  begun_first c t open_bracket e = colon_first c t e (is_some (behind_code 0x3A t)) refl
  begun_first c t close_bracket e = tt
  begun_first c t hyphen_sign e = tt
  begun_first c t ampersand_sign e = tt
  begun_first c t dollar_sign e = named_first c t (name l t)
  begun_first c t backslash e = (t, inr (ap (λ z. z ∷ t) e))
  begun_first c t open_brace e = tt
  begun_first c t caret_sign e = tt
  begun_first c t other e = tt

  pub property_begins : (q : Text) → first l q ≡ of_property → PropertyBegins q
  property_begins [] f = absurd (let g = f in cc)
  property_begins (c ∷ t) f = subst (λ z. BegunFirst z c t) f (begun_first c t (sign c) (sign_code c (sign c) refl))

  abbrev pub UnitAnswer : Bool → Text → Outcome Meaning → Type 0
  UnitAnswer both = HasOutcome (UnitRead l.white_space both (resolves l) (lacks l)) (UnitShape l.white_space) (UnitSlips l.white_space both (resolves l) (lacks l))

  abbrev pub PropertyAnswer : Text → Outcome Query → Type 0
  PropertyAnswer = HasOutcome (PropertyRead l.white_space (resolves l) (lacks l)) (PropertyShape l.white_space) (PropertySlips l.white_space (resolves l) (lacks l))

  module _ (lawful : Lawful l) where
    the_unit : (both : Bool) (q : Text) → UnitBegins q → (o : Outcome Meaning) × UnitAnswer both q o
    the_unit both q b = one_unit_law l.white_space lawful both (resolves l) (lacks l) q q b

    the_property : (q : Text) → PropertyBegins q → (o : Outcome Query) × PropertyAnswer q o
    the_property q b = one_property_law l.white_space (letter_apart l.white_space lawful) (resolves l) (lacks l) q b.0 b.1

    unit_by : Bool → (q : Text) (f : Front) (x : Bool) → front l q ≡ f → is_short q ≡ x → Outcome Meaning
    unit_by both q begins_unit false f long = (the_unit both q (unit_begins q f long)).0
    unit_by both q begins_unit true f long = ended
    unit_by both q nothing x f long = ended
    unit_by both q (closing r) x f long = ended
    unit_by both q (opening o inner) x f long = ended
    unit_by both q (single i r) x f long = ended
    unit_by both q (of_name n r) x f long = ended
    unit_by both q caret x f long = ended

    -- what the unit answers that begins there
    pub unit_at : Bool → Text → Outcome Meaning
    unit_at both q = unit_by both q (front l q) (is_short q) refl refl

    answered_by : (both : Bool) (q : Text) (f : Front) (x : Bool) (e : front l q ≡ f) (k : is_short q ≡ x) → f ≡ begins_unit → x ≡ false → UnitAnswer both q (unit_by both q f x e k)
    unfolding unit_by
    answered_by both q begins_unit false e k is long = (the_unit both q (unit_begins q e k)).1
    answered_by both q begins_unit true e k is long = absurd (let g : true ≡ false = long in cc)
    answered_by both q nothing x e k is long = absurd (let g = is in cc)
    answered_by both q (closing r) x e k is long = absurd (let g = is in cc)
    answered_by both q (opening o inner) x e k is long = absurd (let g = is in cc)
    answered_by both q (single i r) x e k is long = absurd (let g = is in cc)
    answered_by both q (of_name n r) x e k is long = absurd (let g = is in cc)
    answered_by both q caret x e k is long = absurd (let g = is in cc)

    pub unit_answered : (both : Bool) (q : Text) → front l q ≡ begins_unit → is_short q ≡ false → UnitAnswer both q (unit_at both q)
    unfolding unit_at
    unit_answered both q f long = answered_by both q (front l q) (is_short q) refl refl f long

    property_by : (q : Text) (f : First) → first l q ≡ f → Outcome Query
    property_by q of_property f = (the_property q (property_begins q f)).0
    property_by q too_short f = ended
    property_by q (stray c) f = ended
    property_by q bare f = ended
    property_by q (of_variable n r) f = ended
    property_by q (of_bracket o inner) f = ended

    pub property_at : Text → Outcome Query
    property_at q = property_by q (first l q) refl

    property_answered_by : (q : Text) (f : First) (e : first l q ≡ f) → f ≡ of_property → PropertyAnswer q (property_by q f e)
    unfolding property_by
    property_answered_by q of_property e is = (the_property q (property_begins q e)).1
    property_answered_by q too_short e is = absurd (let g = is in cc)
    property_answered_by q (stray c) e is = absurd (let g = is in cc)
    property_answered_by q bare e is = absurd (let g = is in cc)
    property_answered_by q (of_variable n r) e is = absurd (let g = is in cc)
    property_answered_by q (of_bracket o inner) e is = absurd (let g = is in cc)

    pub property_answered : (q : Text) → first l q ≡ of_property → PropertyAnswer q (property_at q)
    unfolding property_at
    property_answered q f = property_answered_by q (first l q) refl f

-- the units and the properties of a lawful language
abbrev pub reader : (l : Language) → Lawful l → UnitReader l
reader l lawful = record {
  unit_at = unit_at l lawful;
  property_at = property_at l lawful;
  units = unit_answered l lawful;
  properties = property_answered l lawful;
  only_unit = λ both q o f long h. same_outcome _ _ _ q (unit_at l lawful both q) o (unit_answered l lawful both q f long) h;
  only_property = λ t o f h. same_outcome _ _ _ t (property_at l lawful t) o (property_answered l lawful t f) h;
  unit_begins = unit_begins l;
  property_begins = property_begins l;
}
