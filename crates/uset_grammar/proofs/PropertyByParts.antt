-- A property that is read part by part has the outcome of the machine.
use Rattle.std.proofs.Common.{◌≡◌, ℕ, Bool, true, false, cond, [], ◌∷◌, ◌++◌, Some, None, refl, sym, ap, subst, inl, inr}
use Rattle.std.specs.Prelude.{◌==◌, not}
use Rattle.uset_grammar.specs.Text.{Text}
use Rattle.uset_grammar.specs.Outcome.{Outcome, got, faulty, ended, unexpected}
use Rattle.uset_grammar.specs.Property.{PropertyBegins, PropertyOutcome, Query, Form, posix, perl, mark, is_key, no_value, with_value, unresolved}
use Rattle.uset_grammar.proofs.UnitMachine.{Next, goes, whole, refuses, turn, run}
use Rattle.uset_grammar.proofs.PropertyOutcome.{one_property_law, property_is, State, colon, caret_due, letter, brace, in_key, in_value, bracket, done, done_or, to_value, next_key, next, slip, slip_by, outcome}
use Rattle.uset_grammar.specs.Parts.{and_then, char_in}
use Rattle.uset_grammar.specs.PropertyParts.{end_mark, equal, unequal, KeyPart, space, letter as of_key, ends, unfit, is_nothing, caret_in, posix_front_in, perl_front_in, key_goes, key_in, value_in, ended_key_in, query_in, closing_in, close_in, judged, property_in}
use Rattle.uset_grammar.specs.Laws.{PropertiesByParts}
use Rattle.uset_grammar.proofs.Placed.{Placed, placed_tells, further_text}

-- a character that is due, or another one
abbrev char_by : Bool → ℕ → Text → Outcome (Unit {0})
char_by b c t = cond b (got tt t) (faulty (unexpected c) (c ∷ t))

-- at the end mark
closes_here : (form : Form) (c : ℕ) (t : Text) → (c == mark form) ≡ true → close_in form (c ∷ t) ≡ closing_in form t
closes_here form c t is = ap (λ b. and_then (char_by b c t) (λ z. closing_in form)) is

abbrev valued : Bool → Text → Text → Query
valued negated key value = record { negated = negated; key = key; value = Some value }

module _ (white_space : ℕ → Bool) (resolves lacks : Query → Bool) where
  abbrev inner : Form → Bool → Text → Outcome Query
  inner form negated t = and_then (query_in white_space form negated t) (judged white_space resolves lacks form)

  module _ (q : Text) where
    abbrev machine : Text → State → Text → Outcome Query
    machine p s t = run (next white_space) (slip white_space resolves lacks) p s t

    bracket_by : (n : Query) (p t : Text) (c : ℕ) (b : Bool) → q ≡ p ++ c ∷ t →
        Placed q (and_then (char_by b c t) (λ z. got n)) (turn None (cond b (whole n) refuses) (λ s. machine (p ++ c ∷ []) s t) p c t)
    bracket_by n p t c true h = (refl, refl)
    bracket_by n p t c false h = (refl, h)

    bracket_placed : (n : Query) (p t : Text) → q ≡ p ++ t → Placed q (and_then (char_in 0x5D t) (λ z. got n)) (machine p (bracket n) t)
    bracket_placed n p [] h = tt
    bracket_placed n p (c ∷ t) h = bracket_by n p t c (c == 0x5D) h

    end_by : (form : Form) (n : Query) (p t : Text) (c : ℕ) (b : Bool) → (c == mark form) ≡ true → q ≡ p ++ c ∷ t →
        Placed q (cond b (and_then (close_in form (c ∷ t)) (λ z. got n)) (faulty (unresolved white_space resolves lacks n) (c ∷ t)))
        (turn (cond b None (Some (unresolved white_space resolves lacks n, p))) (done form n) (λ s. machine (p ++ c ∷ []) s t) p c t)
    end_by posix n p t c true is h =
        subst (λ o. Placed q (and_then o (λ z. got n)) (machine (p ++ c ∷ []) (bracket n) t)) (sym (closes_here posix c t is)) (bracket_placed n (p ++ c ∷ []) t (further_text q p t c h))
    end_by perl n p t c true is h = subst (λ o. Placed q (and_then o (λ z. got n)) (got n t)) (sym (closes_here perl c t is)) (refl, refl)
    end_by form n p t c false is h = (refl, h)

    end_placed : (form : Form) (n : Query) (p t : Text) (c : ℕ) → (c == mark form) ≡ true → q ≡ p ++ c ∷ t →
        Placed q (judged white_space resolves lacks form n (c ∷ t)) (turn (slip_by white_space resolves lacks p (done form n)) (done form n) (λ s. machine (p ++ c ∷ []) s t) p c t)
    end_placed posix n p t c is h = end_by posix n p t c (resolves n) is h
    end_placed perl n p t c is h = end_by perl n p t c (resolves n) is h

    abbrev ValueReads : Text → Type 0
    ValueReads t = (p : Text) (form : Form) (negated : Bool) (d : ℕ) (key value : Text) → q ≡ p ++ t →
        Placed q (and_then (and_then (value_in white_space form value t) (λ v. got (valued negated (d ∷ key) v))) (judged white_space resolves lacks form)) (machine p (in_value form negated d key value) t)

    abbrev value_next : Form → Bool → ℕ → Text → Text → ℕ → Bool → Bool → Next State Query
    value_next form negated d key value c m w =
        cond m (done_or form (with_value negated (d ∷ key) value)) (cond w (goes (in_value form negated d key value)) (goes (in_value form negated d key (value ++ c ∷ []))))

    value_by : (p t : Text) (c : ℕ) (form : Form) (negated : Bool) (d : ℕ) (key value : Text) (m w : Bool) → (c == mark form) ≡ m → ValueReads t → q ≡ p ++ c ∷ t →
        Placed q (and_then (and_then (cond m (cond (is_nothing value) (faulty (unexpected c) (c ∷ t)) (got value (c ∷ t)))
        (cond w (value_in white_space form value t) (value_in white_space form (value ++ c ∷ []) t))) (λ v. got (valued negated (d ∷ key) v))) (judged white_space resolves lacks form))
        (turn (slip_by white_space resolves lacks p (value_next form negated d key value c m w)) (value_next form negated d key value c m w) (λ s. machine (p ++ c ∷ []) s t) p c t)
    value_by p t c form negated d key [] true w is ih h = (refl, h)
    value_by p t c form negated d key (v ∷ value) true w is ih h = end_placed form (valued negated (d ∷ key) (v ∷ value)) p t c is h
    value_by p t c form negated d key value false true is ih h = ih (p ++ c ∷ []) form negated d key value (further_text q p t c h)
    value_by p t c form negated d key value false false is ih h = ih (p ++ c ∷ []) form negated d key (value ++ c ∷ []) (further_text q p t c h)

    value_placed : (t : Text) → ValueReads t
    value_placed [] p form negated d key value h = tt
    value_placed (c ∷ t) p form negated d key value h = value_by p t c form negated d key value (c == mark form) (white_space c) refl (value_placed t) h

    abbrev KeyReads : Text → Type 0
    KeyReads t = (p : Text) (form : Form) (negated : Bool) (key : Text) → q ≡ p ++ t →
        Placed q (and_then (and_then (key_in white_space form key t) (λ x. ended_key_in white_space form negated x.0 x.1)) (judged white_space resolves lacks form)) (machine p (in_key form negated key) t)

    abbrev part : Bool → Bool → Bool → Bool → Bool → KeyPart
    part m w k e u = cond m (ends end_mark) (cond w space (cond k of_key (cond e (ends equal) (cond u (ends unequal) unfit))))

    abbrev key_next : Form → Bool → Text → ℕ → Bool → Bool → Bool → Bool → Bool → Next State Query
    key_next form negated key c m w k e u =
        cond m (done_or form (no_value negated key)) (cond w (goes (in_key form negated key)) (cond k (goes (in_key form negated (key ++ c ∷ [])))
        (cond e (to_value form negated key) (cond u (to_value form (not negated) key) refuses))))

    key_by : (p t : Text) (c : ℕ) (form : Form) (negated : Bool) (key : Text) (m w k e u : Bool) → (c == mark form) ≡ m → KeyReads t → q ≡ p ++ c ∷ t →
        Placed q (and_then (and_then (key_goes white_space form (part m w k e u) key c t (λ x. key_in white_space form x t)) (λ x. ended_key_in white_space form negated x.0 x.1)) (judged white_space resolves lacks form))
        (turn (slip_by white_space resolves lacks p (key_next form negated key c m w k e u)) (key_next form negated key c m w k e u) (λ s. machine (p ++ c ∷ []) s t) p c t)
    key_by p t c form negated [] true w k e u is ih h = (refl, h)
    key_by p t c form negated (d ∷ key) true w k e u is ih h = end_placed form (record { negated = negated; key = d ∷ key; value = None }) p t c is h
    key_by p t c form negated key false true k e u is ih h = ih (p ++ c ∷ []) form negated key (further_text q p t c h)
    key_by p t c form negated key false false true e u is ih h = ih (p ++ c ∷ []) form negated (key ++ c ∷ []) (further_text q p t c h)
    key_by p t c form negated [] false false false true u is ih h = (refl, h)
    key_by p t c form negated (d ∷ key) false false false true u is ih h = value_placed t (p ++ c ∷ []) form negated d key [] (further_text q p t c h)
    key_by p t c form negated [] false false false false true is ih h = (refl, h)
    key_by p t c form negated (d ∷ key) false false false false true is ih h = value_placed t (p ++ c ∷ []) form (not negated) d key [] (further_text q p t c h)
    key_by p t c form negated key false false false false false is ih h = (refl, h)

    key_placed : (t : Text) → KeyReads t
    key_placed [] p form negated key h = tt
    key_placed (c ∷ t) p form negated key h =
        key_by p t c form negated key (c == mark form) (white_space c) (is_key c) (c == 0x3D) (c == 0x2260) refl (key_placed t) h

    caret_by : (p t : Text) (c : ℕ) (b : Bool) → q ≡ p ++ c ∷ t →
        Placed q (and_then (cond b (got true t) (got false (c ∷ t))) (inner posix))
        (turn (slip_by white_space resolves lacks p (cond b (goes (in_key posix true [])) (next_key white_space posix false [] c))) (cond b (goes (in_key posix true [])) (next_key white_space posix false [] c))
        (λ s. machine (p ++ c ∷ []) s t) p c t)
    caret_by p t c true h = key_placed t (p ++ c ∷ []) posix true [] (further_text q p t c h)
    caret_by p t c false h = key_placed (c ∷ t) p posix false [] h

    caret_placed : (p t : Text) → q ≡ p ++ t → Placed q (and_then (caret_in t) (inner posix)) (machine p caret_due t)
    caret_placed p [] h = tt
    caret_placed p (c ∷ t) h = caret_by p t c (c == 0x5E) h

    colon_by : (p t : Text) (c : ℕ) (b : Bool) → q ≡ p ++ c ∷ t →
        Placed q (and_then (and_then (char_by b c t) (λ z. caret_in)) (inner posix))
        (turn None (cond b (goes caret_due) refuses) (λ s. machine (p ++ c ∷ []) s t) p c t)
    colon_by p t c true h = caret_placed (p ++ c ∷ []) t (further_text q p t c h)
    colon_by p t c false h = (refl, h)

    colon_placed : (p t : Text) → q ≡ p ++ t → Placed q (and_then (posix_front_in t) (inner posix)) (machine p colon t)
    colon_placed p [] h = tt
    colon_placed p (c ∷ t) h = colon_by p t c (c == 0x3A) h

    brace_by : (p t : Text) (c : ℕ) (negated b : Bool) → q ≡ p ++ c ∷ t →
        Placed q (and_then (and_then (char_by b c t) (λ z. got negated)) (inner perl))
        (turn None (cond b (goes (in_key perl negated [])) refuses) (λ s. machine (p ++ c ∷ []) s t) p c t)
    brace_by p t c negated true h = key_placed t (p ++ c ∷ []) perl negated [] (further_text q p t c h)
    brace_by p t c negated false h = (refl, h)

    brace_placed : (p t : Text) (negated : Bool) → q ≡ p ++ t → Placed q (and_then (and_then (char_in 0x7B t) (λ z. got negated)) (inner perl)) (machine p (brace negated) t)
    brace_placed p [] negated h = tt
    brace_placed p (c ∷ t) negated h = brace_by p t c negated (c == 0x7B) h

    letter_by : (p t : Text) (c : ℕ) (a b : Bool) → q ≡ p ++ c ∷ t →
        Placed q (and_then (cond a (and_then (char_in 0x7B t) (λ z. got false)) (cond b (and_then (char_in 0x7B t) (λ z. got true)) (faulty (unexpected c) (c ∷ t)))) (inner perl))
        (turn None (cond a (goes (brace false)) (cond b (goes (brace true)) refuses)) (λ s. machine (p ++ c ∷ []) s t) p c t)
    letter_by p t c true b h = brace_placed (p ++ c ∷ []) t false (further_text q p t c h)
    letter_by p t c false true h = brace_placed (p ++ c ∷ []) t true (further_text q p t c h)
    letter_by p t c false false h = (refl, h)

    letter_placed : (p t : Text) → q ≡ p ++ t → Placed q (and_then (perl_front_in t) (inner perl)) (machine p letter t)
    letter_placed p [] h = tt
    letter_placed p (c ∷ t) h = letter_by p t c (c == 0x70) (c == 0x50) h

  -- the front first, or what it begins at once
  query_then : (form : Form) (o : Outcome Query) → and_then (and_then o (λ n. got (form, n))) (λ (x : Form × Query). judged white_space resolves lacks x.0 x.1) ≡ and_then o (judged white_space resolves lacks form)
  query_then form (got n t) = refl
  query_then form (faulty k r) = refl
  query_then form ended = refl

  front_then : (form : Form) (o : Outcome Bool) →
      and_then (and_then (and_then o (λ n. got (form, n))) (λ (f : Form × Bool) u. and_then (query_in white_space f.0 f.1 u) (λ n. got (f.0, n)))) (λ (x : Form × Query). judged white_space resolves lacks x.0 x.1)
      ≡ and_then o (inner form)
  front_then form (got negated t) = query_then form (query_in white_space form negated t)
  front_then form (faulty k r) = refl
  front_then form ended = refl

  -- what the parts say of a property is the machine's outcome
  property_placed : (q : Text) → PropertyBegins q → Placed q (property_in white_space resolves lacks q) (outcome white_space resolves lacks q)
  property_placed q (t, inl e) =
      let whole = 0x5B ∷ 0x3A ∷ t in
      subst (λ z. Placed z (property_in white_space resolves lacks z) (outcome white_space resolves lacks z)) (sym e)
      (subst (λ o. Placed whole o (outcome white_space resolves lacks whole)) (sym (front_then posix (posix_front_in (0x3A ∷ t)))) (colon_placed whole (0x5B ∷ []) (0x3A ∷ t) refl))
  property_placed q (t, inr e) =
      let whole = 0x5C ∷ t in
      subst (λ z. Placed z (property_in white_space resolves lacks z) (outcome white_space resolves lacks z)) (sym e)
      (subst (λ o. Placed whole o (outcome white_space resolves lacks whole)) (sym (front_then perl (perl_front_in t))) (letter_placed whole (0x5C ∷ []) t refl))

pub properties_by_parts : PropertiesByParts
properties_by_parts white_space letters resolves lacks q begins =
    placed_tells (PropertyOutcome white_space resolves lacks q) q (property_in white_space resolves lacks q) (outcome white_space resolves lacks q)
    (property_placed white_space resolves lacks q begins)
    (subst (PropertyOutcome white_space resolves lacks q) (property_is white_space letters resolves lacks q begins.0 begins.1)
    (one_property_law white_space letters resolves lacks q begins.0 begins.1).1)
