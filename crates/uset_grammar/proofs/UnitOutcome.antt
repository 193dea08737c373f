-- What begins as a unit in a bracket has one outcome: a place where one unit begins is the beginning of no other.
use Rattle.std.proofs.Common.{◌≡◌, ◌≢◌, ◌↔◌, arith, ℕ, Bool, true, false, ◌||◌, cond, length, List, [], ◌∷◌, ◌++◌, Option, Some, None, refl, sym, ap, ◌∙◌, subst, inl, inr, append_assoc, append-nil}
use mathlib.Core.Logic.{◌⊎◌}
use Rattle.std.specs.Prelude.{◌==◌}
use Rattle.std.specs.Option.{option_or}
use Rattle.std.proofs.lemmas.Bool.{eqb-true}
use Rattle.uset_grammar.specs.Text.{Text, ◌>>=◌, behind_code}
use Rattle.uset_grammar.specs.Outcome.{Kind, Outcome, got, faulty, ended, Enough, Begins, NoSlip, Sound, FailsAt, slips, unfit, Faulty, HasOutcome, meaning}
use Rattle.uset_grammar.specs.Escape.{Spelled, Apart, itself, plain, Letter, four, two, six, name, other, letter}
use Rattle.uset_grammar.specs.EscapeSlips.{in_bracket, EscapeShape, EscapeSlips, EscapeRead}
use Rattle.uset_grammar.specs.BracedString.{StringShape, StringSlips, StringRead, pieces_shape, in_escape}
use Rattle.uset_grammar.specs.Property.{Query, PropertyShape, PropertySlips, PropertyRead, property_shape, posix_mark, perl_mark, perl, perl_shape, caret_or, inner, is_key}
use Rattle.uset_grammar.specs.Laws.{KindsTell}
use Rattle.uset_grammar.proofs.UnitMachine.{goes, refuses, onward, reach, free}
use Rattle.uset_grammar.proofs.EscapeMachine as E
use Rattle.uset_grammar.proofs.EscapeMachine.{letter_apart}
use Rattle.uset_grammar.proofs.EscapeMachineSlips.{letter_slip, slip, letter_name}
use Rattle.uset_grammar.proofs.EscapeMachineMeaning.{slip_at_law, SlipsHere}
use Rattle.uset_grammar.proofs.EscapeOutcome.{one_escape_law}
use Rattle.uset_grammar.proofs.StringOutcome.{one_string_law}
use Rattle.uset_grammar.proofs.PropertyOutcome.{one_property_law}
use Rattle.uset_grammar.proofs.EscapeOutcome as EL
use Rattle.uset_grammar.proofs.StringOutcome as SL
use Rattle.uset_grammar.proofs.PropertyOutcome as PL
use Rattle.uset_grammar.specs.Unit.{UnitBegins, brace_begins, posix_begins, backslash_begins, begins_property, Meaning, an_escape, a_string, a_property, UnitShape, escape_shaped, string_shaped, property_shaped, UnitSlips, escape_slips, string_slips, property_slips, UnitRead, escape_read, string_read, property_read}

-- The shapes and slips of one kind of unit are those of all, at the beginnings of a text.
pub record Agree (S L₁ : Text → Type 0) (L M : Text → ℕ → Kind → Text → Type 0) (q : Text) : Type 0 where
  pub begins : (f u : Text) → q ≡ f ++ u → Enough f → Begins S f ↔ Begins L₁ f
  pub follows : (f u w : Text) (c : ℕ) → q ≡ f ++ c ∷ u → Enough f → S (f ++ c ∷ w) ↔ L₁ (f ++ c ∷ w)
  pub slips_too : (p u b : Text) (c : ℕ) (k : Kind) → q ≡ p ++ c ∷ u → L p c k b ↔ M p c k b

module _ (S T : Text → Type 0) (L M : Text → ℕ → Kind → Text → Type 0) (q : Text) (agree : Agree S T L M q) where
  no_slip_too : (f u : Text) → q ≡ f ++ u → NoSlip L f → NoSlip M f
  no_slip_too f u parts none p v c k b e s =
      none p v c k b e ((agree.slips_too p (v ++ u) b c k (parts ∙ (ap (λ z. z ++ u) e ∙ append_assoc p (c ∷ v) u))).1 s)

  sound_too : (f u : Text) → q ≡ f ++ u → Sound S L f → Sound T M f
  sound_too f u parts s = record { enough = s.enough; begins = (agree.begins f u parts s.enough).0 s.begins; no_slip = no_slip_too f u parts s.no_slip }

  fails_too : (f u : Text) (c : ℕ) (k : Kind) (b : Text) → q ≡ f ++ c ∷ u → Enough f → FailsAt S L f c k b → FailsAt T M f c k b
  fails_too f u c k b parts enough (slips s) = slips ((agree.slips_too f u b c k parts).0 s)
  fails_too f u c _ _ parts enough (unfit none unshaped) =
      unfit (λ k b s. none k b ((agree.slips_too f u b c k parts).1 s)) (λ w s. unshaped w ((agree.follows f u w c parts enough).1 s))

  faulty_too : (k : Kind) (b : Text) → Faulty S L q k b → Faulty T M q k b
  faulty_too k b f = record {
    front = f.front;
    next = f.next;
    more = f.more;
    parts = f.parts;
    sound = sound_too f.front (f.next ∷ f.more) f.parts f.sound;
    fails = fails_too f.front f.more f.next k b f.parts f.sound.enough f.fails;
  }

turned : (S T : Text → Type 0) (L M : Text → ℕ → Kind → Text → Type 0) (q : Text) → Agree S T L M q → Agree T S M L q
turned S T L M q a = record {
  begins = λ f u e n. ((a.begins f u e n).1, (a.begins f u e n).0);
  follows = λ f u w c e n. ((a.follows f u w c e n).1, (a.follows f u w c e n).0);
  slips_too = λ p u b c k e. ((a.slips_too p u b c k e).1, (a.slips_too p u b c k e).0);
}

module _ {V W : Type 0} (f : V → W) where
  meaning_faulty : (o : Outcome V) (k : Kind) (b : Text) → meaning f o ≡ faulty k b → o ≡ faulty k b
  meaning_faulty (got v r) k b h = absurd (let e = h in cc)
  meaning_faulty (faulty l a) k b h = let e : l ≡ k = cc in let g : a ≡ b = cc in (λ i. faulty (e i) (g i))
  meaning_faulty ended k b h = absurd (let e = h in cc)

  meaning_ended : (o : Outcome V) → meaning f o ≡ ended → o ≡ ended
  meaning_ended (got v r) h = absurd (let e = h in cc)
  meaning_ended (faulty l a) h = absurd (let e = h in cc)
  meaning_ended ended h = refl

  meaning_got : (o : Outcome V) (w : W) (r : Text) → meaning f o ≡ got w r → (v : V) × (o ≡ got v r) × (f v ≡ w)
  meaning_got (got v u) w r h = let e : u ≡ r = cc in (v, ap (λ z. got v z) e, cc)
  meaning_got (faulty l a) w r h = absurd (let e = h in cc)
  meaning_got ended w r h = absurd (let e = h in cc)

  -- the answer for one kind of unit is that for all
  pub answer_too : (Read : Text → V → Text → Type 0) (ReadToo : Text → W → Text → Type 0) (S T : Text → Type 0) (L M : Text → ℕ → Kind → Text → Type 0) (q : Text) (o : Outcome V) →
      Agree S T L M q → ((v : V) (r : Text) → Read q v r → ReadToo q (f v) r) → ((w : W) (r : Text) → ReadToo q w r → (v : V) × (f v ≡ w) × Read q v r) →
      HasOutcome Read S L q o → HasOutcome ReadToo T M q (meaning f o)
  answer_too Read ReadToo S T L M q o agree to from a = record {
    reads = λ w r. (
      λ h. (let g = meaning_got o w r h in subst (λ z. ReadToo q z r) g.2 (to g.0 r ((a.reads g.0 r).0 g.1))),
      λ h. (let g = from w r h in ap (meaning f) ((a.reads g.0 r).1 g.2) ∙ ap (λ z. got z r) g.1),
    );
    faults = λ k b. (
      λ h. faulty_too S T L M q agree k b ((a.faults k b).0 (meaning_faulty o k b h)),
      λ h. ap (meaning f) ((a.faults k b).1 (faulty_too T S M L q (turned S T L M q agree) k b h)),
    );
    ends = (
      λ h. sound_too S T L M q agree q [] (sym (append-nil q)) (a.ends.0 (meaning_ended o h)),
      λ h. ap (meaning f) (a.ends.1 (sound_too T S M L q (turned S T L M q agree) q [] (sym (append-nil q)) h)),
    );
  }

-- no equal heads
heads : {c d : ℕ} {t u : Text} → c ∷ t ≡ d ∷ u → c ≡ d
heads h = cc

tails : {c d : ℕ} {t u : Text} → c ∷ t ≡ d ∷ u → t ≡ u
tails h = cc

module _ (white_space : ℕ → Bool) (apart : Apart white_space) (both : Bool) (resolves lacks : Query → Bool) where
  abbrev Slips : Text → ℕ → Kind → Text → Type 0
  Slips = UnitSlips white_space both resolves lacks

  -- HOW SHAPES AND SLIPS BEGIN
  abbrev Posix : Text → Type 0
  Posix t = (u : Text) × (t ≡ 0x5B ∷ u)

  abbrev Perl : Text → Type 0
  Perl t = (d : ℕ) × (u : Text) × (t ≡ 0x5C ∷ d ∷ u) × (begins_property d ≡ true)

  perl_front : (c : ℕ) (t : Text) (n : Query × Text) → perl_shape white_space t ≡ Some n → c ≡ 0x5C → Perl (c ∷ t)
  perl_front c [] n h e = absurd (let f = h in cc)
  perl_front c (d ∷ t) n h e = (d, t, ap (λ z. z ∷ d ∷ t) e, by (d == 0x70) (d == 0x50) h)
    where
      by : (x y : Bool) → cond x (behind_code 0x7B t >>= inner white_space perl false) (cond y (behind_code 0x7B t >>= inner white_space perl true) None) ≡ Some n → (x || y) ≡ true
      by true y h = refl
      by false true h = refl
      by false false h = absurd (let f = h in cc)

  property_front : (t : Text) (n : Query × Text) → property_shape white_space t ≡ Some n → Posix t ⊎ Perl t
  property_front [] n h = absurd (let f = h in cc)
  property_front (c ∷ t) n h = by (c == 0x5B) (c == 0x5C) refl refl h
    where
      by : (x y : Bool) → (c == 0x5B) ≡ x → (c == 0x5C) ≡ y → cond x (behind_code 0x3A t >>= λ u. caret_or white_space u (behind_code 0x5E u)) (cond y (perl_shape white_space t) None) ≡ Some n → Posix (c ∷ t) ⊎ Perl (c ∷ t)
      by true y ex ey h = inl (t, ap (λ z. z ∷ t) (eqb-true c 0x5B ex))
      by false true ex ey h = inr (perl_front c t n h (eqb-true c 0x5C ey))
      by false false ex ey h = absurd (let f = h in cc)

  behind_front : {V : Type 0} (m : ℕ) (t : Text) (f : Text → Option V) (v : V) → (behind_code m t >>= f) ≡ Some v → (u : Text) × (t ≡ m ∷ u)
  behind_front m [] f v h = absurd (let g = h in cc)
  behind_front {V} m (c ∷ t) f v h = by (c == m) refl h
    where
      by : (x : Bool) → (c == m) ≡ x → (cond x (Some t) None >>= f) ≡ Some v → (u : Text) × (c ∷ t ≡ m ∷ u)
      by true ex h = (t, ap (λ z. z ∷ t) (eqb-true c m ex))
      by false ex h = absurd (let g = h in cc)

  string_front : (t : Text) → StringShape white_space t → (u : Text) × (t ≡ 0x7B ∷ u)
  string_front t s = behind_front 0x7B t (λ u. pieces_shape white_space (length u) u) (s.0, []) s.1

  string_slip_front : (p : Text) (c : ℕ) (k : Kind) (b : Text) → StringSlips white_space p c k b → (u : Text) × (p ≡ 0x7B ∷ u)
  string_slip_front _ c k _ (in_escape {e} before shape s) = by before (string_front (before ++ 0x7D ∷ []) shape)
    where
      by : (f : Text) → (u : Text) × (f ++ 0x7D ∷ [] ≡ 0x7B ∷ u) → (u : Text) × (f ++ e ≡ 0x7B ∷ u)
      by [] (u, h) = absurd (let g : ◌≡◌ {A = ℕ} 0x7D 0x7B = heads h in omega (arith, g))
      by (x ∷ f) (u, h) = (f ++ e, ap (λ z. z ∷ (f ++ e)) (heads h))

  mark_front : (f : Text) (m : ℕ) (w : Text) → (m ≡ 0x5B → ⊥) → (m ≡ 0x5C → ⊥) → begins_property m ≡ false → Posix (f ++ m ∷ w) ⊎ Perl (f ++ m ∷ w) → Posix f ⊎ Perl f
  mark_front [] m w n o e (inl (u, h)) = absurd (n (heads h))
  mark_front [] m w n o e (inr (d, u, h, is)) = absurd (o (heads h))
  mark_front (x ∷ f) m w n o e (inl (u, h)) = inl (f, ap (λ z. z ∷ f) (heads h))
  mark_front (x ∷ []) m w n o e (inr (d, u, h, is)) =
      absurd (let same : m ≡ d = heads (tails h) in let g : false ≡ true = sym e ∙ (ap begins_property same ∙ is) in cc)
  mark_front (x ∷ y ∷ f) m w n o e (inr (d, u, h, is)) = inr (y, f, ap (λ z. z ∷ y ∷ f) (heads h), ap begins_property (heads (tails h)) ∙ is)

  property_slip_front : (p : Text) (c : ℕ) (k : Kind) (b : Text) → PropertySlips white_space resolves lacks p c k b → Posix p ⊎ Perl p
  property_slip_front p _ _ _ (posix_mark {n} shape r) = mark_front p 0x3A (0x5D ∷ []) (λ e. omega (arith, e)) (λ e. omega (arith, e)) refl (property_front (p ++ 0x3A ∷ 0x5D ∷ []) (n, []) shape)
  property_slip_front p _ _ _ (perl_mark {n} shape r) = mark_front p 0x7D [] (λ e. omega (arith, e)) (λ e. omega (arith, e)) refl (property_front (p ++ 0x7D ∷ []) (n, []) shape)

  -- the `p` of a property begins no escape that slips
  property_letter : (d : ℕ) → begins_property d ≡ true → letter d ≡ other
  unfolding letter
  property_letter d h = by (d == 0x70) (d == 0x50) refl refl h
    where
      by : (x y : Bool) → (d == 0x70) ≡ x → (d == 0x50) ≡ y → (x || y) ≡ true → letter d ≡ other
      by true y ex ey h = ap letter (eqb-true d 0x70 ex)
      by false true ex ey h = ap letter (eqb-true d 0x50 ey)
      by false false ex ey h = absurd (let f = h in cc)

  abbrev EscapeFront : Text → ℕ → Type 0
  EscapeFront p c = ((p ≡ 0x5C ∷ []) × (c ≡ 0x4E)) ⊎ ((d : ℕ) × (u : Text) × (p ≡ 0x5C ∷ d ∷ u) × (begins_property d ≡ false))

  escape_slip_front : (p : Text) (c : ℕ) (k : Kind) (b : Text) → EscapeSlips white_space (in_bracket both) p c k b → EscapeFront p c
  escape_slip_front p c k b s = by p (slip_at_law white_space apart (in_bracket both) p c k b s)
    where
      second : (d : ℕ) (u : Text) (s' : E.State) (x : Bool) → begins_property d ≡ x →
          onward {V = Spelled} None (E.at_letter (letter d) d) (λ z. reach (E.next white_space) free (0x5C ∷ d ∷ []) z u) ≡ Some s' → begins_property d ≡ false
      second d u s' false e h = e
      second d u s' true e h =
          absurd (let g = ap (λ l. onward {V = Spelled} None (E.at_letter l d) (λ z. reach (E.next white_space) free (0x5C ∷ d ∷ []) z u)) (property_letter d e) in let n : None ≡ Some s' = sym g ∙ h in cc)

      one : (l : Letter) → letter c ≡ l → option_or (letter_slip (0x5C ∷ []) l) None ≡ Some (k, b) → c ≡ 0x4E
      one four e h = absurd (let f = h in cc)
      one two e h = absurd (let f = h in cc)
      one six e h = absurd (let f = h in cc)
      one name e h = letter_name c e
      one other e h = absurd (let f = h in cc)

      first : (x : ℕ) (f : Text) (y : Bool) (s' : E.State) → (x == 0x5C) ≡ y → onward {V = Spelled} None (cond y (goes E.letters) refuses) (λ z. reach (E.next white_space) free (x ∷ []) z f) ≡ Some s' →
          slip white_space (in_bracket both) (x ∷ f) s' c ≡ Some (k, b) → EscapeFront (x ∷ f) c
      first x f false s' ex h sl = absurd (let g = h in cc)
      first x [] true s' ex h sl =
          let is = eqb-true x 0x5C ex in let same : E.letters ≡ s' = cc in
          inl (
            ap (λ z. z ∷ []) is,
            one (letter c) refl (subst (λ z. slip white_space (in_bracket both) z E.letters c ≡ Some (k, b)) (ap (λ z. z ∷ []) is)
                (subst (λ z. slip white_space (in_bracket both) (x ∷ []) z c ≡ Some (k, b)) (sym same) sl)),
          )
      first x (d ∷ f) true s' ex h sl =
          let is = eqb-true x 0x5C ex in
          inr (
            d,
            f,
            ap (λ z. z ∷ d ∷ f) is,
            second d f s' (begins_property d) refl
                (ap (λ y. onward {V = Spelled} None (E.at_letter (letter d) d) (λ z. reach (E.next white_space) free (y ∷ d ∷ []) z f)) (sym is) ∙ h),
          )

      by : (f : Text) → SlipsHere white_space (in_bracket both) f c k b → EscapeFront f c
      by [] (s', on, sl) = absurd (let same : E.start ≡ s' = cc in let g = subst (λ z. slip white_space (in_bracket both) [] z c ≡ Some (k, b)) (sym same) sl in cc)
      by (x ∷ f) (s', on, sl) = first x f (x == 0x5C) s' refl on sl

  -- the front of a text that isn't empty
  front_head : (a : ℕ) (t f u : Text) → a ∷ t ≡ f ++ u → (f ≢ []) → (g : Text) × (f ≡ a ∷ g)
  front_head a t [] u h n = absurd (n refl)
  front_head a t (x ∷ f) u h n = (f, ap (λ z. z ∷ f) (sym (heads h)))

  slip_head : (a : ℕ) (t p u : Text) (b c : ℕ) (g : Text) → a ∷ t ≡ p ++ c ∷ u → p ≡ b ∷ g → a ≡ b
  slip_head a t p u b c g h e = heads (h ∙ ap (λ z. z ++ c ∷ u) e)

  -- HEADS: what the first character tells
  only_string : (t u : Text) (a : ℕ) → t ≡ a ∷ u → a ≡ 0x7B → UnitShape white_space t → StringShape white_space t
  only_string _ u a e is (escape_shaped n shape) = absurd (let h = heads e in omega (arith, h, is))
  only_string t u a e is (string_shaped shape) = shape
  only_string t u a e is (property_shaped shape) = absurd (elim (property_front t (shape.0, []) shape.1) [
    | inl posix' ↦ (let h = heads (sym e ∙ posix'.1) in omega (arith, h, is))
    | inr perl' ↦ (let h = heads (sym e ∙ perl'.2) in omega (arith, h, is))
  ])

  only_posix : (t u : Text) (a : ℕ) → t ≡ a ∷ u → a ≡ 0x5B → UnitShape white_space t → PropertyShape white_space t
  only_posix _ u a e is (escape_shaped n shape) = absurd (let h = heads e in omega (arith, h, is))
  only_posix t u a e is (property_shaped shape) = shape
  only_posix t u a e is (string_shaped shape) = absurd (let f = string_front t shape in let h = heads (sym e ∙ f.1) in omega (arith, h, is))

  only_perl : (t u : Text) (d : ℕ) → t ≡ 0x5C ∷ d ∷ u → begins_property d ≡ true → UnitShape white_space t → PropertyShape white_space t
  only_perl _ u d e is (escape_shaped n shape) = absurd (let h = heads (tails e) in let g : true ≡ false = sym is ∙ (ap begins_property (sym h) ∙ n) in cc)
  only_perl t u d e is (property_shaped shape) = shape
  only_perl t u d e is (string_shaped shape) = absurd (let f = string_front t shape in let h : ◌≡◌ {A = ℕ} 0x5C 0x7B = heads (sym e ∙ f.1) in omega (arith, h))

  only_escape : (t u : Text) (d : ℕ) → t ≡ 0x5C ∷ d ∷ u → begins_property d ≡ false → UnitShape white_space t → EscapeShape white_space t
  only_escape _ u d e is (escape_shaped n shape) = shape
  only_escape t u d e is (string_shaped shape) = absurd (let f = string_front t shape in let h : ◌≡◌ {A = ℕ} 0x5C 0x7B = heads (sym e ∙ f.1) in omega (arith, h))
  only_escape t u d e is (property_shaped shape) = absurd (elim (property_front t (shape.0, []) shape.1) [
    | inl posix' ↦ (let h : ◌≡◌ {A = ℕ} 0x5C 0x5B = heads (sym e ∙ posix'.1) in omega (arith, h))
    | inr perl' ↦ (let h = heads (tails (sym e ∙ perl'.2)) in let g : false ≡ true = sym is ∙ (ap begins_property h ∙ perl'.3) in cc)
  ])

  as_unit : (t u : Text) (d : ℕ) → t ≡ 0x5C ∷ d ∷ u → begins_property d ≡ false → EscapeShape white_space t → UnitShape white_space t
  as_unit t u d e is shape = subst (UnitShape white_space) (sym e) (escape_shaped is (subst (EscapeShape white_space) e shape))

  -- STRINGS
  string_agrees : (t : Text) → Agree (StringShape white_space) (UnitShape white_space) (StringSlips white_space) Slips (0x7B ∷ t)
  string_agrees t = record {
    begins = λ f u e n. (let g = front_head 0x7B t f u e n.0 in (
      λ b. record { next = b.next; more = b.more; shape = string_shaped b.shape },
      λ b. record { next = b.next; more = b.more; shape = only_string (f ++ b.next ∷ b.more) (g.0 ++ b.next ∷ b.more) 0x7B (ap (λ z. z ++ b.next ∷ b.more) g.1) refl b.shape },
    ));
    follows = λ f u w c e n. (let g = front_head 0x7B t f (c ∷ u) e n.0 in (
      λ s. string_shaped s,
      λ s. only_string (f ++ c ∷ w) (g.0 ++ c ∷ w) 0x7B (ap (λ z. z ++ c ∷ w) g.1) refl s,
    ));
    slips_too = λ p u b c k e. (λ s. string_slips s, λ s. back p u b c k e s);
  }
    where
      back : (p u b : Text) (c : ℕ) (k : Kind) → 0x7B ∷ t ≡ p ++ c ∷ u → Slips p c k b → StringSlips white_space p c k b
      back p u b c k e (string_slips s) = s
      back p u b c k e (escape_slips s) = absurd (elim (escape_slip_front p c k b s) [
        | inl f ↦ (let h = slip_head 0x7B t p u 0x5C c [] e f.0 in omega (arith, h))
        | inr f ↦ (let h = slip_head 0x7B t p u 0x5C c (f.0 ∷ f.1) e f.2 in omega (arith, h))
      ])
      back p u b c k e (property_slips s) = absurd (elim (property_slip_front p c k b s) [
        | inl f ↦ (let h = slip_head 0x7B t p u 0x5B c f.0 e f.1 in omega (arith, h))
        | inr f ↦ (let h = slip_head 0x7B t p u 0x5C c (f.0 ∷ f.1) e f.2 in omega (arith, h))
      ])

  -- POSIX PROPERTIES
  posix_agrees : (t : Text) → Agree (PropertyShape white_space) (UnitShape white_space) (PropertySlips white_space resolves lacks) Slips (0x5B ∷ t)
  posix_agrees t = record {
    begins = λ f u e n. (let g = front_head 0x5B t f u e n.0 in (
      λ b. record { next = b.next; more = b.more; shape = property_shaped b.shape },
      λ b. record { next = b.next; more = b.more; shape = only_posix (f ++ b.next ∷ b.more) (g.0 ++ b.next ∷ b.more) 0x5B (ap (λ z. z ++ b.next ∷ b.more) g.1) refl b.shape },
    ));
    follows = λ f u w c e n. (let g = front_head 0x5B t f (c ∷ u) e n.0 in (
      λ s. property_shaped s,
      λ s. only_posix (f ++ c ∷ w) (g.0 ++ c ∷ w) 0x5B (ap (λ z. z ++ c ∷ w) g.1) refl s,
    ));
    slips_too = λ p u b c k e. (λ s. property_slips s, λ s. back p u b c k e s);
  }
    where
      back : (p u b : Text) (c : ℕ) (k : Kind) → 0x5B ∷ t ≡ p ++ c ∷ u → Slips p c k b → PropertySlips white_space resolves lacks p c k b
      back p u b c k e (property_slips s) = s
      back p u b c k e (string_slips s) = absurd (let f = string_slip_front p c k b s in let h = slip_head 0x5B t p u 0x7B c f.0 e f.1 in omega (arith, h))
      back p u b c k e (escape_slips s) = absurd (elim (escape_slip_front p c k b s) [
        | inl f ↦ (let h = slip_head 0x5B t p u 0x5C c [] e f.0 in omega (arith, h))
        | inr f ↦ (let h = slip_head 0x5B t p u 0x5C c (f.0 ∷ f.1) e f.2 in omega (arith, h))
      ])

  -- the first two characters
  two_heads : (a d : ℕ) (t f u w : Text) (c : ℕ) → a ∷ d ∷ t ≡ f ++ c ∷ u → (f ≢ []) → (g : Text) × (f ++ c ∷ w ≡ a ∷ d ∷ g)
  two_heads a d t [] u w c h n = absurd (n refl)
  two_heads a d t (x ∷ []) u w c h n = (w, (λ i. sym (heads h) i ∷ sym (heads (tails h)) i ∷ w))
  two_heads a d t (x ∷ y ∷ f) u w c h n = (f ++ c ∷ w, (λ i. sym (heads h) i ∷ sym (heads (tails h)) i ∷ (f ++ c ∷ w)))

  -- the first character alone, or the first two
  one_or_two : (a d : ℕ) (t f u : Text) → a ∷ d ∷ t ≡ f ++ u → (f ≢ []) → (f ≡ a ∷ []) ⊎ ((g : Text) × (f ≡ a ∷ d ∷ g))
  one_or_two a d t [] u h n = absurd (n refl)
  one_or_two a d t (x ∷ []) u h n = inl (ap (λ z. z ∷ []) (sym (heads h)))
  one_or_two a d t (x ∷ y ∷ f) u h n = inr (f, (λ i. sym (heads h) i ∷ sym (heads (tails h)) i ∷ f))

  an_escape_begins : Begins (EscapeShape white_space) (0x5C ∷ [])
  unfolding letter
  an_escape_begins = record { next = 0x61; more = []; shape = (itself (plain 0x61), refl) }

  a_property_begins : Begins (PropertyShape white_space) (0x5C ∷ [])
  unfolding is_key
  a_property_begins = record { next = 0x70; more = 0x7B ∷ 0x61 ∷ 0x7D ∷ []; shape = (record { negated = false; key = 0x61 ∷ []; value = None }, rw (letter_apart white_space apart) refl) }

  a_unit_begins : Begins (UnitShape white_space) (0x5C ∷ [])
  unfolding is_key
  a_unit_begins = record { next = 0x70; more = 0x7B ∷ 0x61 ∷ 0x7D ∷ []; shape = property_shaped (record { negated = false; key = 0x61 ∷ []; value = None }, rw (letter_apart white_space apart) refl) }

  -- ESCAPES
  escape_agrees : (d : ℕ) (t : Text) → begins_property d ≡ false → Agree (EscapeShape white_space) (UnitShape white_space) (EscapeSlips white_space (in_bracket both)) Slips (0x5C ∷ d ∷ t)
  escape_agrees d t is = record {
    begins = λ f u e n. (there f u (one_or_two 0x5C d t f u e n.0), back_again f u (one_or_two 0x5C d t f u e n.0));
    follows = λ f u w c e n. (let g = two_heads 0x5C d t f u w c e n.0 in (λ s. as_unit (f ++ c ∷ w) g.0 d g.1 is s, λ s. only_escape (f ++ c ∷ w) g.0 d g.1 is s));
    slips_too = λ p u b c k e. (λ s. escape_slips s, λ s. back p u b c k e s);
  }
    where
      there : (f u : Text) → (f ≡ 0x5C ∷ []) ⊎ ((g : Text) × (f ≡ 0x5C ∷ d ∷ g)) → Begins (EscapeShape white_space) f → Begins (UnitShape white_space) f
      there f u (inl e) b = subst (Begins (UnitShape white_space)) (sym e) a_unit_begins
      there f u (inr (g, e)) b = record { next = b.next; more = b.more; shape = as_unit (f ++ b.next ∷ b.more) (g ++ b.next ∷ b.more) d (ap (λ z. z ++ b.next ∷ b.more) e) is b.shape }

      back_again : (f u : Text) → (f ≡ 0x5C ∷ []) ⊎ ((g : Text) × (f ≡ 0x5C ∷ d ∷ g)) → Begins (UnitShape white_space) f → Begins (EscapeShape white_space) f
      back_again f u (inl e) b = subst (Begins (EscapeShape white_space)) (sym e) an_escape_begins
      back_again f u (inr (g, e)) b = record { next = b.next; more = b.more; shape = only_escape (f ++ b.next ∷ b.more) (g ++ b.next ∷ b.more) d (ap (λ z. z ++ b.next ∷ b.more) e) is b.shape }

      back : (p u b : Text) (c : ℕ) (k : Kind) → 0x5C ∷ d ∷ t ≡ p ++ c ∷ u → Slips p c k b → EscapeSlips white_space (in_bracket both) p c k b
      back p u b c k e (escape_slips s) = s
      back p u b c k e (string_slips s) = absurd (let f = string_slip_front p c k b s in let h = slip_head 0x5C (d ∷ t) p u 0x7B c f.0 e f.1 in omega (arith, h))
      back p u b c k e (property_slips s) = absurd (elim (property_slip_front p c k b s) [
        | inl f ↦ (let h = slip_head 0x5C (d ∷ t) p u 0x5B c f.0 e f.1 in omega (arith, h))
        | inr f ↦ (let h = heads (tails (e ∙ ap (λ z. z ++ c ∷ u) f.2)) in let g : false ≡ true = sym is ∙ (ap begins_property h ∙ f.3) in cc)
      ])

  -- PERL PROPERTIES
  perl_agrees : (d : ℕ) (t : Text) → begins_property d ≡ true → Agree (PropertyShape white_space) (UnitShape white_space) (PropertySlips white_space resolves lacks) Slips (0x5C ∷ d ∷ t)
  perl_agrees d t is = record {
    begins = λ f u e n. (λ b. record { next = b.next; more = b.more; shape = property_shaped b.shape }, back_again f u (one_or_two 0x5C d t f u e n.0));
    follows = λ f u w c e n. (let g = two_heads 0x5C d t f u w c e n.0 in (λ s. property_shaped s, λ s. only_perl (f ++ c ∷ w) g.0 d g.1 is s));
    slips_too = λ p u b c k e. (λ s. property_slips s, λ s. back p u b c k e s);
  }
    where
      back_again : (f u : Text) → (f ≡ 0x5C ∷ []) ⊎ ((g : Text) × (f ≡ 0x5C ∷ d ∷ g)) → Begins (UnitShape white_space) f → Begins (PropertyShape white_space) f
      back_again f u (inl e) b = subst (Begins (PropertyShape white_space)) (sym e) a_property_begins
      back_again f u (inr (g, e)) b = record { next = b.next; more = b.more; shape = only_perl (f ++ b.next ∷ b.more) (g ++ b.next ∷ b.more) d (ap (λ z. z ++ b.next ∷ b.more) e) is b.shape }

      back : (p u b : Text) (c : ℕ) (k : Kind) → 0x5C ∷ d ∷ t ≡ p ++ c ∷ u → Slips p c k b → PropertySlips white_space resolves lacks p c k b
      back p u b c k e (property_slips s) = s
      back p u b c k e (string_slips s) = absurd (let f = string_slip_front p c k b s in let h = slip_head 0x5C (d ∷ t) p u 0x7B c f.0 e f.1 in omega (arith, h))
      back p u b c k e (escape_slips s) = absurd (elim (escape_slip_front p c k b s) [
        | inl f ↦ (let h : d ≡ c = heads (tails (e ∙ ap (λ z. z ++ c ∷ u) f.0)) in let g : true ≡ false = sym is ∙ ap begins_property (h ∙ f.1) in cc)
        | inr f ↦ (let h = heads (tails (e ∙ ap (λ z. z ++ c ∷ u) f.2)) in let g : true ≡ false = sym is ∙ (ap begins_property h ∙ f.3) in cc)
      ])

  -- READINGS
  abbrev Read : Text → Meaning → Text → Type 0
  Read = UnitRead white_space both resolves lacks

  read_string_front : (q : Text) (v : List Spelled) (r : Text) → StringRead white_space q v r → (u : Text) × (q ≡ 0x7B ∷ u)
  read_string_front q v r s = behind_front 0x7B q (λ u. pieces_shape white_space (length u) u) (v, r) s.shape

  read_property_front : (q : Text) (v : Query) (r : Text) → PropertyRead white_space resolves lacks q v r → Posix q ⊎ Perl q
  read_property_front q v r s = property_front q (v, r) s.shape

  string_only : (q t : Text) (w : Meaning) (r : Text) → q ≡ 0x7B ∷ t → Read q w r → (v : List Spelled) × (a_string v ≡ w) × StringRead white_space q v r
  string_only q t _ r e (string_read {v} s) = (v, refl, s)
  string_only _ t _ r e (escape_read n s) = absurd (let h : ◌≡◌ {A = ℕ} 0x5C 0x7B = heads e in omega (arith, h))
  string_only q t _ r e (property_read {v} s) = absurd (elim (read_property_front q v r s) [
    | inl f ↦ (let h : ◌≡◌ {A = ℕ} 0x7B 0x5B = heads (sym e ∙ f.1) in omega (arith, h))
    | inr f ↦ (let h : ◌≡◌ {A = ℕ} 0x7B 0x5C = heads (sym e ∙ f.2) in omega (arith, h))
  ])

  posix_only : (q t : Text) (w : Meaning) (r : Text) → q ≡ 0x5B ∷ t → Read q w r → (v : Query) × (a_property v ≡ w) × PropertyRead white_space resolves lacks q v r
  posix_only q t _ r e (property_read {v} s) = (v, refl, s)
  posix_only _ t _ r e (escape_read n s) = absurd (let h : ◌≡◌ {A = ℕ} 0x5C 0x5B = heads e in omega (arith, h))
  posix_only q t _ r e (string_read {v} s) = absurd (let f = read_string_front q v r s in let h : ◌≡◌ {A = ℕ} 0x5B 0x7B = heads (sym e ∙ f.1) in omega (arith, h))

  perl_only : (q t : Text) (d : ℕ) (w : Meaning) (r : Text) → q ≡ 0x5C ∷ d ∷ t → begins_property d ≡ true → Read q w r → (v : Query) × (a_property v ≡ w) × PropertyRead white_space resolves lacks q v r
  perl_only q t d _ r e is (property_read {v} s) = (v, refl, s)
  perl_only _ t d _ r e is (escape_read n s) = absurd (let h = heads (tails e) in let g : true ≡ false = sym is ∙ (ap begins_property (sym h) ∙ n) in cc)
  perl_only q t d _ r e is (string_read {v} s) = absurd (let f = read_string_front q v r s in let h : ◌≡◌ {A = ℕ} 0x5C 0x7B = heads (sym e ∙ f.1) in omega (arith, h))

  escape_only : (q t : Text) (d : ℕ) (w : Meaning) (r : Text) → q ≡ 0x5C ∷ d ∷ t → begins_property d ≡ false → Read q w r → (v : Spelled) × (an_escape v ≡ w) × EscapeRead white_space (in_bracket both) q v r
  escape_only _ t d _ r e is (escape_read {v} n s) = (v, refl, s)
  escape_only q t d _ r e is (string_read {v} s) = absurd (let f = read_string_front q v r s in let h : ◌≡◌ {A = ℕ} 0x5C 0x7B = heads (sym e ∙ f.1) in omega (arith, h))
  escape_only q t d _ r e is (property_read {v} s) = absurd (elim (read_property_front q v r s) [
    | inl f ↦ (let h : ◌≡◌ {A = ℕ} 0x5C 0x5B = heads (sym e ∙ f.1) in omega (arith, h))
    | inr f ↦ (let h = heads (tails (sym e ∙ f.2)) in let g : false ≡ true = sym is ∙ (ap begins_property h ∙ f.3) in cc)
  ])

  -- the outcome of a string, a property and an escape is that of the unit
  pub string_unit : (t : Text) (o : Outcome (List Spelled)) → HasOutcome (StringRead white_space) (StringShape white_space) (StringSlips white_space) (0x7B ∷ t) o →
      HasOutcome Read (UnitShape white_space) Slips (0x7B ∷ t) (meaning a_string o)
  string_unit t o a =
      answer_too a_string (StringRead white_space) Read (StringShape white_space) (UnitShape white_space) (StringSlips white_space) Slips (0x7B ∷ t) o
      (string_agrees t) (λ v r s. string_read s) (λ w r s. string_only (0x7B ∷ t) t w r refl s) a

  pub posix_unit : (t : Text) (o : Outcome Query) → HasOutcome (PropertyRead white_space resolves lacks) (PropertyShape white_space) (PropertySlips white_space resolves lacks) (0x5B ∷ t) o →
      HasOutcome Read (UnitShape white_space) Slips (0x5B ∷ t) (meaning a_property o)
  posix_unit t o a =
      answer_too a_property (PropertyRead white_space resolves lacks) Read (PropertyShape white_space) (UnitShape white_space) (PropertySlips white_space resolves lacks) Slips
      (0x5B ∷ t) o (posix_agrees t) (λ v r s. property_read s) (λ w r s. posix_only (0x5B ∷ t) t w r refl s) a

  pub perl_unit : (d : ℕ) (t : Text) (o : Outcome Query) → begins_property d ≡ true →
      HasOutcome (PropertyRead white_space resolves lacks) (PropertyShape white_space) (PropertySlips white_space resolves lacks) (0x5C ∷ d ∷ t) o →
      HasOutcome Read (UnitShape white_space) Slips (0x5C ∷ d ∷ t) (meaning a_property o)
  perl_unit d t o is a =
      answer_too a_property (PropertyRead white_space resolves lacks) Read (PropertyShape white_space) (UnitShape white_space) (PropertySlips white_space resolves lacks) Slips
      (0x5C ∷ d ∷ t) o (perl_agrees d t is) (λ v r s. property_read s) (λ w r s. perl_only (0x5C ∷ d ∷ t) t d w r refl is s) a

  pub escape_unit : (d : ℕ) (t : Text) (o : Outcome Spelled) → begins_property d ≡ false →
      HasOutcome (EscapeRead white_space (in_bracket both)) (EscapeShape white_space) (EscapeSlips white_space (in_bracket both)) (0x5C ∷ d ∷ t) o →
      HasOutcome Read (UnitShape white_space) Slips (0x5C ∷ d ∷ t) (meaning an_escape o)
  escape_unit d t o is a =
      answer_too an_escape (EscapeRead white_space (in_bracket both)) Read (EscapeShape white_space) (UnitShape white_space) (EscapeSlips white_space (in_bracket both)) Slips
      (0x5C ∷ d ∷ t) o (escape_agrees d t is) (λ v r s. escape_read is s) (λ w r s. escape_only (0x5C ∷ d ∷ t) t d w r refl is s) a

  -- THE LAW
  backslash_unit : (d : ℕ) (t : Text) (b : Bool) → begins_property d ≡ b → (o : Outcome Meaning) × HasOutcome Read (UnitShape white_space) Slips (0x5C ∷ d ∷ t) o
  backslash_unit d t true is =
      let a = one_property_law white_space (letter_apart white_space apart) resolves lacks (0x5C ∷ d ∷ t) (d ∷ t) (inr refl) in
      (meaning a_property a.0, perl_unit d t a.0 is a.1)
  backslash_unit d t false is =
      let a = one_escape_law white_space apart (in_bracket both) (d ∷ t) in
      (meaning an_escape a.0, escape_unit d t a.0 is a.1)

  pub one_unit_law : (q t : Text) → UnitBegins q → (o : Outcome Meaning) × HasOutcome Read (UnitShape white_space) Slips q o
  one_unit_law _ t (brace_begins {t = u}) = let a = one_string_law white_space apart u in (meaning a_string a.0, string_unit u a.0 a.1)
  one_unit_law _ t (posix_begins {t = u}) =
      let a = one_property_law white_space (letter_apart white_space apart) resolves lacks (0x5B ∷ 0x3A ∷ u) u (inl refl) in
      (meaning a_property a.0, posix_unit (0x3A ∷ u) a.0 a.1)
  one_unit_law _ t (backslash_begins {d} {t = u}) = backslash_unit d u (begins_property d) refl

  -- WHAT IS ANSWERED
  abbrev pub backslash_outcome : Bool → ℕ → Text → Outcome Meaning
  backslash_outcome true d t = meaning a_property (PL.outcome white_space resolves lacks (0x5C ∷ d ∷ t))
  backslash_outcome false d t = meaning an_escape (EL.outcome white_space apart (in_bracket both) (0x5C ∷ d ∷ t))

  pub string_unit_is : (t u : Text) → (one_unit_law (0x7B ∷ t) u brace_begins).0 ≡ meaning a_string (SL.outcome white_space apart (0x7B ∷ t))
  unfolding one_unit_law
  string_unit_is t u = ap (λ o. meaning a_string o) (SL.string_is white_space apart t)

  pub posix_unit_is : (t u : Text) → (one_unit_law (0x5B ∷ 0x3A ∷ t) u posix_begins).0 ≡ meaning a_property (PL.outcome white_space resolves lacks (0x5B ∷ 0x3A ∷ t))
  unfolding one_unit_law
  posix_unit_is t u = ap (λ o. meaning a_property o) (PL.property_is white_space (letter_apart white_space apart) resolves lacks (0x5B ∷ 0x3A ∷ t) t (inl refl))

  backslash_is : (d : ℕ) (t : Text) (b : Bool) (e : begins_property d ≡ b) → (backslash_unit d t b e).0 ≡ backslash_outcome b d t
  unfolding backslash_unit
  backslash_is d t true e = ap (λ o. meaning a_property o) (PL.property_is white_space (letter_apart white_space apart) resolves lacks (0x5C ∷ d ∷ t) (d ∷ t) (inr refl))
  backslash_is d t false e = ap (λ o. meaning an_escape o) (EL.escape_is white_space apart (in_bracket both) (d ∷ t))

  pub backslash_unit_is : (d : ℕ) (t u : Text) → (one_unit_law (0x5C ∷ d ∷ t) u backslash_begins).0 ≡ backslash_outcome (begins_property d) d t
  unfolding one_unit_law
  backslash_unit_is d t u = backslash_is d t (begins_property d) refl

pub units_of_kinds : KindsTell
units_of_kinds white_space apart both resolves lacks = record {
  escapes = λ d t o is a. escape_unit white_space apart both resolves lacks d t o is a;
  strings = λ t o a. string_unit white_space apart both resolves lacks t o a;
  posix_properties = λ t o a. posix_unit white_space apart both resolves lacks t o a;
  perl_properties = λ d t o is a. perl_unit white_space apart both resolves lacks d t o is a;
}
