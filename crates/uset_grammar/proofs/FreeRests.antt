-- What follows that which is read is free.
use Rattle.std.proofs.Common.{◌≡◌, ℕ, Bool, true, false, cond, not, List, [], ◌∷◌, ◌++◌, Option, Some, None, refl, sym, ap, ◌∙◌, subst, append_assoc}
use Rattle.std.specs.Prelude.{◌==◌, is_some}
use Rattle.std.proofs.lemmas.List.{append_cancel_right}
use Rattle.std.proofs.lemmas.Option.{some_pair_parts}
use Rattle.uset_grammar.specs.Text.{Text, skip, while_in, behind_code, optional_code}
use Rattle.uset_grammar.specs.Tree.{Tree}
use Rattle.uset_grammar.specs.Item.{Item, chars, minus, ampersand, dollar, nested, Opening, tree_of}
use Rattle.uset_grammar.specs.Language.{Language}
use Rattle.uset_grammar.specs.Front.{Sign, open_bracket, close_bracket, hyphen_sign, ampersand_sign, dollar_sign, backslash, open_brace, caret_sign, other, sign, closing, opening, single, of_name, begins_unit, name, header, named_or, front_of, front, of_variable, of_bracket, of_property, first_named, first_of, first}
use Rattle.uset_grammar.specs.Grammar.{Sort, ItemAt, one_character, variable, unit, ReadsItems, ends, reads, nests, Reads, a_bracket, a_property, a_variable}
use Rattle.uset_grammar.specs.Rests.{stops, may_follow}
use Rattle.uset_grammar.specs.Laws.{FreeRest}
use Rattle.uset_grammar.proofs.FrontRests.{closing_is, sign_code}
use Rattle.uset_grammar.proofs.FreeUnits.{unit_free, property_read_free}

-- White space in front, up to a character that is none.
skip_free : (ws : ℕ → Bool) (t : Text) (c : ℕ) (q : Text) → skip ws t ≡ c ∷ q → (w : Text) × (t ≡ w ++ c ∷ q) × ((s : Text) → skip ws (w ++ c ∷ s) ≡ c ∷ s)
skip_free ws [] c q h = absurd (let g = h in cc)
skip_free ws (d ∷ t) c q h = by (ws d) refl h (λ g. skip_free ws t c q g)
  where
    by : (x : Bool) → ws d ≡ x → cond x (skip ws t) (d ∷ t) ≡ c ∷ q → (skip ws t ≡ c ∷ q → (w : Text) × (t ≡ w ++ c ∷ q) × ((s : Text) → skip ws (w ++ c ∷ s) ≡ c ∷ s)) →
        (w : Text) × (d ∷ t ≡ w ++ c ∷ q) × ((s : Text) → skip ws (w ++ c ∷ s) ≡ c ∷ s)
    by true e h more = let (w, is, here) = more h in (d ∷ w, ap (λ z. d ∷ z) is, λ s. ap (λ b. cond b (skip ws (w ++ c ∷ s)) (d ∷ (w ++ c ∷ s))) e ∙ here s)
    by false e h more =
        let same : d ≡ c = cc in
        ([], h, λ s. ap (λ b. cond b (skip ws s) (c ∷ s)) (ap ws (sym same) ∙ e))

-- A text that ends with a given character begins with one, whatever follows.
front_is : (w : Text) (c : ℕ) → (d : ℕ) × (v : Text) × ((s : Text) → w ++ c ∷ s ≡ d ∷ (v ++ s))
front_is [] c = (c, [], λ s. refl)
front_is (d ∷ w) c = (d, w ++ c ∷ [], λ s. ap (λ z. d ∷ z) (sym (append_assoc w (c ∷ []) s)))

-- The characters in front that pass a test, up to one that doesn't.
while_free : (p : ℕ → Bool) (t : Text) (e : ℕ) (r : Text) → (while_in p t).1 ≡ e ∷ r →
    (t ≡ (while_in p t).0 ++ e ∷ r) × ((s : Text) → while_in p ((while_in p t).0 ++ e ∷ s) ≡ ((while_in p t).0, e ∷ s))
while_free p [] e r h = absurd (let g = h in cc)
while_free p (c ∷ t) e r h = by (p c) refl h (λ g. while_free p t e r g)
  where
    by : (x : Bool) → p c ≡ x → (cond {A = Text × Text} x (c ∷ (while_in p t).0, (while_in p t).1) ([], c ∷ t)).1 ≡ e ∷ r →
        ((while_in p t).1 ≡ e ∷ r → (t ≡ (while_in p t).0 ++ e ∷ r) × ((s : Text) → while_in p ((while_in p t).0 ++ e ∷ s) ≡ ((while_in p t).0, e ∷ s))) →
        (c ∷ t ≡ (cond {A = Text × Text} x (c ∷ (while_in p t).0, (while_in p t).1) ([], c ∷ t)).0 ++ e ∷ r)
        × ((s : Text) → while_in p ((cond {A = Text × Text} x (c ∷ (while_in p t).0, (while_in p t).1) ([], c ∷ t)).0 ++ e ∷ s) ≡ ((cond {A = Text × Text} x (c ∷ (while_in p t).0, (while_in p t).1) ([], c ∷ t)).0, e ∷ s))
    by true f h more =
        let (is, here) = more h in (
          ap (λ z. c ∷ z) is,
          λ s. ap (λ b. cond {A = Text × Text} b (c ∷ (while_in p ((while_in p t).0 ++ e ∷ s)).0, (while_in p ((while_in p t).0 ++ e ∷ s)).1) ([], c ∷ ((while_in p t).0 ++ e ∷ s))) f
              ∙ ap (λ z. (c ∷ z.0, z.1)) (here s),
        )
    by false f h more =
        let same : c ≡ e = cc in
        (h, λ s. ap (λ b. cond {A = Text × Text} b (e ∷ (while_in p s).0, (while_in p s).1) ([], e ∷ s)) (ap p (sym same) ∙ f))

stops_here : (p : ℕ → Bool) (s : Text) → stops p s ≡ true → while_in p s ≡ ([], s)
stops_here p [] h = refl
stops_here p (c ∷ s) h = by (p c) h
  where
    by : (x : Bool) → not x ≡ true → cond {A = Text × Text} x (c ∷ (while_in p s).0, (while_in p s).1) ([], c ∷ s) ≡ ([], c ∷ s)
    by true h = absurd (let g = h in cc)
    by false h = refl

-- The characters in front that pass a test, and the rest.
pub while_parts : (p : ℕ → Bool) (t : Text) → t ≡ (while_in p t).0 ++ (while_in p t).1
while_parts p [] = refl
while_parts p (c ∷ t) = by (p c) (while_parts p t)
  where
    by : (x : Bool) → t ≡ (while_in p t).0 ++ (while_in p t).1 →
        c ∷ t ≡ (cond {A = Text × Text} x (c ∷ (while_in p t).0, (while_in p t).1) ([], c ∷ t)).0 ++ (cond {A = Text × Text} x (c ∷ (while_in p t).0, (while_in p t).1) ([], c ∷ t)).1
    by true h = ap (λ z. c ∷ z) h
    by false h = refl

while_stops : (p : ℕ → Bool) (t s : Text) → stops p s ≡ true → while_in p ((while_in p t).0 ++ s) ≡ ((while_in p t).0, s)
while_stops p [] s h = stops_here p s h
while_stops p (c ∷ t) s h = by (p c) refl (while_stops p t s h)
  where
    by : (x : Bool) → p c ≡ x → while_in p ((while_in p t).0 ++ s) ≡ ((while_in p t).0, s) →
        while_in p ((cond {A = Text × Text} x (c ∷ (while_in p t).0, (while_in p t).1) ([], c ∷ t)).0 ++ s) ≡ ((cond {A = Text × Text} x (c ∷ (while_in p t).0, (while_in p t).1) ([], c ∷ t)).0, s)
    by true f more =
        ap (λ b. cond {A = Text × Text} b (c ∷ (while_in p ((while_in p t).0 ++ s)).0, (while_in p ((while_in p t).0 ++ s)).1) ([], c ∷ ((while_in p t).0 ++ s))) f
        ∙ ap (λ z. (c ∷ z.0, z.1)) more
    by false f more = stops_here p s h

-- the two parts of a pair
pair_parts : {A : Type 0} {x y : A} {t r : Text} → ◌≡◌ {A = A × Text} (x, t) (y, r) → (x ≡ y) × (t ≡ r)
pair_parts e = (ap (λ z. z.0) e, ap (λ z. z.1) e)

-- A character that is left out where it stands in front.
optional_free : (m : ℕ) (t : Text) (b : Bool) (e : ℕ) (r : Text) → optional_code m t ≡ (b, e ∷ r) → (w : Text) × (t ≡ w ++ e ∷ r) × ((s : Text) → optional_code m (w ++ e ∷ s) ≡ (b, e ∷ s))
optional_free m [] b e r h = absurd (let g : ◌≡◌ {A = Text} [] (e ∷ r) = ap (λ z. z.1) h in cc)
optional_free m (d ∷ u) b e r h = by (d == m) refl h
  where
    by : (x : Bool) → (d == m) ≡ x → cond {A = Bool × Text} x (true, u) (false, d ∷ u) ≡ (b, e ∷ r) → (w : Text) × (d ∷ u ≡ w ++ e ∷ r) × ((s : Text) → optional_code m (w ++ e ∷ s) ≡ (b, e ∷ s))
    by true f h =
        let p = pair_parts h in
        (d ∷ [], ap (λ z. d ∷ z) p.1, λ s. ap (λ x. cond {A = Bool × Text} x (true, e ∷ s) (false, d ∷ e ∷ s)) f ∙ ap (λ x. (x, e ∷ s)) p.0)
    by false f h =
        let p = pair_parts h in
        let same : d ≡ e = (let g = p.1 in cc) in
        ([], p.1, λ s. ap (λ x. cond {A = Bool × Text} x (true, s) (false, e ∷ s)) (ap (λ c. c == m) (sym same) ∙ f) ∙ ap (λ x. (x, e ∷ s)) p.0)

-- whether a text begins with a character is told by its first
same_front : (m d : ℕ) (t u : Text) → is_some (behind_code m (d ∷ t)) ≡ is_some (behind_code m (d ∷ u))
same_front m d t u = by (d == m)
  where
    by : (x : Bool) → is_some (cond x (Some t) None) ≡ is_some (cond x (Some u) None)
    by true = refl
    by false = refl

module _ (l : Language) where
  -- what a bracket begins with, by what is left out of its front
  opened : Bool × Text → Opening × Text
  opened p = (record { negated = p.0; leading = (optional_code 0x2D (skip l.white_space p.1)).0 }, (optional_code 0x2D (skip l.white_space p.1)).1)

  header_free : (t : Text) (o : Opening) (e : ℕ) (r : Text) → header l t ≡ (o, e ∷ r) → (w : Text) × (t ≡ w ++ e ∷ r) × ((s : Text) → header l (w ++ e ∷ s) ≡ (o, e ∷ s))
  unfolding opened
  header_free t o e r h =
      let first = optional_code 0x5E t in
      let ahead_of = skip l.white_space first.1 in
      let second = optional_code 0x2D ahead_of in
      let p = pair_parts h in
      let (w2, is2, here2) = optional_free 0x2D ahead_of second.0 e r (ap (λ z. (second.0, z)) p.1) in
      let (d2, v2, same2) = front_is w2 e in
      let (w1, is1, here1) = skip_free l.white_space first.1 d2 (v2 ++ r) (is2 ∙ same2 r) in
      let (d1, v1, same1) = front_is w1 d2 in
      let (w0, is0, here0) = optional_free 0x5E t first.0 d1 (v1 ++ (v2 ++ r)) (ap (λ z. (first.0, z)) (is1 ∙ same1 (v2 ++ r))) in
      let whole : (s : Text) → (w0 ++ (w1 ++ w2)) ++ e ∷ s ≡ w0 ++ d1 ∷ (v1 ++ (v2 ++ s)) =
      λ s. append_assoc w0 (w1 ++ w2) (e ∷ s) ∙ ap (λ z. w0 ++ z) (append_assoc w1 w2 (e ∷ s) ∙ (ap (λ z. w1 ++ z) (same2 s) ∙ same1 (v2 ++ s))) in (
        w0 ++ (w1 ++ w2),
        is0 ∙ sym (whole r),
        λ s. ap (header l) (whole s)
            ∙ (ap opened (here0 (v1 ++ (v2 ++ s)))
            ∙ (ap (λ z. opened (first.0, z)) (sym (same1 (v2 ++ s)))
            ∙ (ap (λ z. (record { negated = first.0; leading = (optional_code 0x2D z).0 }, (optional_code 0x2D z).1)) (here1 (v2 ++ s) ∙ sym (same2 s))
            ∙ (ap (λ z. (record { negated = first.0; leading = z.0 }, z.1)) (here2 s) ∙ ap (λ z. (z, e ∷ s)) p.0)))),
      )

  name_free : (t n : Text) (e : ℕ) (r : Text) → name l t ≡ Some (n, e ∷ r) → (c : ℕ) × (w : Text) × (t ≡ c ∷ (w ++ e ∷ r)) × ((s : Text) → name l (c ∷ (w ++ e ∷ s)) ≡ Some (n, e ∷ s))
  name_free [] n e r h = absurd (let g = h in cc)
  name_free (c ∷ t) n e r h = by (l.start c) refl h
    where
      by : (x : Bool) → l.start c ≡ x → cond {A = Option (Text × Text)} x (Some (c ∷ (while_in l.continue t).0, (while_in l.continue t).1)) None ≡ Some (n, e ∷ r) →
          (c2 : ℕ) × (w : Text) × (c ∷ t ≡ c2 ∷ (w ++ e ∷ r)) × ((s : Text) → name l (c2 ∷ (w ++ e ∷ s)) ≡ Some (n, e ∷ s))
      by true f h =
          let p = some_pair_parts _ _ _ _ h in
          let (is, here) = while_free l.continue t e r p.1 in
          let w = (while_in l.continue t).0 in (
            c,
            w,
            ap (λ z. c ∷ z) is,
            λ s. ap (λ b. cond {A = Option (Text × Text)} b (Some (c ∷ (while_in l.continue (w ++ e ∷ s)).0, (while_in l.continue (w ++ e ∷ s)).1)) None) f
                ∙ (ap (λ z. Some (c ∷ z.0, z.1)) (here s) ∙ ap (λ z. Some (z, e ∷ s)) p.0),
          )
      by false f h = absurd (let g = h in cc)

  no_name : (e : ℕ) (r s : Text) → name l (e ∷ r) ≡ None → name l (e ∷ s) ≡ None
  no_name e r s h = by (l.start e) h
    where
      by : (x : Bool) → cond {A = Option (Text × Text)} x (Some (e ∷ (while_in l.continue r).0, (while_in l.continue r).1)) None ≡ None → cond {A = Option (Text × Text)} x (Some (e ∷ (while_in l.continue s).0, (while_in l.continue s).1)) None ≡ None
      by true h = absurd (let g = h in cc)
      by false h = refl

  -- the front by the sign of its character
  by_sign : (c : ℕ) (t : Text) (x : Sign) → sign c ≡ x → front l (c ∷ t) ≡ front_of l x c t
  by_sign c t x e = ap (λ z. front_of l z c t) e

  -- An item of one character, by the character behind it alone.
  single_free : (q : Text) (i : Item) (e : ℕ) (r : Text) → front l q ≡ single i (e ∷ r) → (c : ℕ) × (q ≡ c ∷ e ∷ r) × ((s : Text) → front l (c ∷ e ∷ s) ≡ single i (e ∷ s))
  single_free [] i e r h = absurd (let g = h in cc)
  single_free (c ∷ t) i e r h = by (sign c) refl (sym (by_sign c t (sign c) refl) ∙ h)
    where
      alone : (x : Sign) (j : Item) → sign c ≡ x → single j t ≡ single i (e ∷ r) → ((s : Text) → front_of l x c s ≡ single j s) → (c2 : ℕ) × (c ∷ t ≡ c2 ∷ e ∷ r) × ((s : Text) → front l (c2 ∷ e ∷ s) ≡ single i (e ∷ s))
      alone x j f h same =
          let is : j ≡ i = cc in
          let rest : t ≡ e ∷ r = cc in
          (c, ap (λ z. c ∷ z) rest, λ s. by_sign c (e ∷ s) x f ∙ (same (e ∷ s) ∙ ap (λ z. single z (e ∷ s)) is))

      bracketed : (b : Bool) → cond b begins_unit (opening (header l t).0 (header l t).1) ≡ single i (e ∷ r) → ⊥
      bracketed true h = cc
      bracketed false h = cc

      dollars : sign c ≡ dollar_sign → (o : Option (Text × Text)) → name l t ≡ o → named_or l t o ≡ single i (e ∷ r) → (c2 : ℕ) × (c ∷ t ≡ c2 ∷ e ∷ r) × ((s : Text) → front l (c2 ∷ e ∷ s) ≡ single i (e ∷ s))
      dollars f None n h =
          let is : dollar ≡ i = cc in
          let rest : t ≡ e ∷ r = cc in (
            c,
            ap (λ z. c ∷ z) rest,
            λ s. by_sign c (e ∷ s) dollar_sign f
                ∙ (ap (named_or l (e ∷ s)) (no_name e r s (ap (name l) (sym rest) ∙ n)) ∙ ap (λ z. single z (e ∷ s)) is),
          )
      dollars f (Some p) n h = absurd (let g = h in cc)

      by : (x : Sign) → sign c ≡ x → front_of l x c t ≡ single i (e ∷ r) → (c2 : ℕ) × (c ∷ t ≡ c2 ∷ e ∷ r) × ((s : Text) → front l (c2 ∷ e ∷ s) ≡ single i (e ∷ s))
      by open_bracket f h = absurd (bracketed (is_some (behind_code 0x3A t)) h)
      by close_bracket f h = absurd (let g = h in cc)
      by hyphen_sign f h = alone hyphen_sign minus f h (λ s. refl)
      by ampersand_sign f h = alone ampersand_sign ampersand f h (λ s. refl)
      by dollar_sign f h = dollars f (name l t) refl h
      by backslash f h = absurd (let g = h in cc)
      by open_brace f h = absurd (let g = h in cc)
      by caret_sign f h = absurd (let g = h in cc)
      by other f h = alone other (chars (c ∷ [])) f h (λ s. refl)

  -- A name behind a `$`.
  named_free : (q n : Text) (e : ℕ) (r : Text) → front l q ≡ of_name n (e ∷ r) → (c : ℕ) × (w : Text) × (q ≡ c ∷ (w ++ e ∷ r)) × ((s : Text) → front l (c ∷ (w ++ e ∷ s)) ≡ of_name n (e ∷ s))
  named_free [] n e r h = absurd (let g = h in cc)
  named_free (c ∷ t) n e r h = by (sign c) refl (sym (by_sign c t (sign c) refl) ∙ h)
    where
      bracketed : (b : Bool) → cond b begins_unit (opening (header l t).0 (header l t).1) ≡ of_name n (e ∷ r) → ⊥
      bracketed true h = cc
      bracketed false h = cc

      named : sign c ≡ dollar_sign → (o : Option (Text × Text)) → name l t ≡ o → named_or l t o ≡ of_name n (e ∷ r) →
          (c2 : ℕ) × (w : Text) × (c ∷ t ≡ c2 ∷ (w ++ e ∷ r)) × ((s : Text) → front l (c2 ∷ (w ++ e ∷ s)) ≡ of_name n (e ∷ s))
      named f None k h = absurd (let g = h in cc)
      named f (Some p) k h =
          let first : p.0 ≡ n = cc in
          let second : p.1 ≡ e ∷ r = cc in
          let (d, w, is, here) = name_free t n e r (k ∙ (λ i. Some (first i, second i))) in
          (c, d ∷ w, ap (λ z. c ∷ z) is, λ s. by_sign c (d ∷ (w ++ e ∷ s)) dollar_sign f ∙ ap (named_or l (d ∷ (w ++ e ∷ s))) (here s))

      by : (x : Sign) → sign c ≡ x → front_of l x c t ≡ of_name n (e ∷ r) → (c2 : ℕ) × (w : Text) × (c ∷ t ≡ c2 ∷ (w ++ e ∷ r)) × ((s : Text) → front l (c2 ∷ (w ++ e ∷ s)) ≡ of_name n (e ∷ s))
      by open_bracket f h = absurd (bracketed (is_some (behind_code 0x3A t)) h)
      by close_bracket f h = absurd (let g = h in cc)
      by hyphen_sign f h = absurd (let g = h in cc)
      by ampersand_sign f h = absurd (let g = h in cc)
      by dollar_sign f h = named f (name l t) refl h
      by backslash f h = absurd (let g = h in cc)
      by open_brace f h = absurd (let g = h in cc)
      by caret_sign f h = absurd (let g = h in cc)
      by other f h = absurd (let g = h in cc)

  -- A unit begins, by two characters alone.
  unit_begins : (c d : ℕ) (t u : Text) → front l (c ∷ d ∷ t) ≡ begins_unit → front l (c ∷ d ∷ u) ≡ begins_unit
  unit_begins c d t u h = by (sign c) refl (sym (by_sign c (d ∷ t) (sign c) refl) ∙ h)
    where
      bracketed : (x y : Bool) → x ≡ y → cond x begins_unit (opening (header l (d ∷ t)).0 (header l (d ∷ t)).1) ≡ begins_unit → cond y begins_unit (opening (header l (d ∷ u)).0 (header l (d ∷ u)).1) ≡ begins_unit
      bracketed true true e h = refl
      bracketed true false e h = absurd (let g = e in cc)
      bracketed false y e h = absurd (let g = h in cc)

      named : (o : Option (Text × Text)) → named_or l (d ∷ t) o ≡ begins_unit → ⊥
      named None h = cc
      named (Some p) h = cc

      by : (x : Sign) → sign c ≡ x → front_of l x c (d ∷ t) ≡ begins_unit → front l (c ∷ d ∷ u) ≡ begins_unit
      by open_bracket f h = by_sign c (d ∷ u) open_bracket f ∙ bracketed (is_some (behind_code 0x3A (d ∷ t))) (is_some (behind_code 0x3A (d ∷ u))) (same_front 0x3A d t u) h
      by close_bracket f h = absurd (let g = h in cc)
      by hyphen_sign f h = absurd (let g = h in cc)
      by ampersand_sign f h = absurd (let g = h in cc)
      by dollar_sign f h = absurd (named (name l (d ∷ t)) h)
      by backslash f h = by_sign c (d ∷ u) backslash f
      by open_brace f h = by_sign c (d ∷ u) open_brace f
      by caret_sign f h = absurd (let g = h in cc)
      by other f h = absurd (let g = h in cc)

  -- What a bracket begins with.
  opening_free : (q : Text) (o : Opening) (e : ℕ) (r : Text) → front l q ≡ opening o (e ∷ r) → (c : ℕ) × (w : Text) × (q ≡ c ∷ (w ++ e ∷ r)) × ((s : Text) → front l (c ∷ (w ++ e ∷ s)) ≡ opening o (e ∷ s))
  opening_free [] o e r h = absurd (let g = h in cc)
  opening_free (c ∷ t) o e r h = by (sign c) refl (sym (by_sign c t (sign c) refl) ∙ h)
    where
      bracketed : sign c ≡ open_bracket → (b : Bool) → is_some (behind_code 0x3A t) ≡ b → cond b begins_unit (opening (header l t).0 (header l t).1) ≡ opening o (e ∷ r) →
          (c2 : ℕ) × (w : Text) × (c ∷ t ≡ c2 ∷ (w ++ e ∷ r)) × ((s : Text) → front l (c2 ∷ (w ++ e ∷ s)) ≡ opening o (e ∷ s))
      bracketed f true k h = absurd (let g = h in cc)
      bracketed f false k h =
          let first : (header l t).0 ≡ o = cc in
          let second : (header l t).1 ≡ e ∷ r = cc in
          let (w, is, here) = header_free t o e r (λ i. (first i, second i)) in
          let (d, v, same) = front_is w e in
          let same_mark : (s : Text) → is_some (behind_code 0x3A (w ++ e ∷ s)) ≡ false =
          λ s. ap (λ z. is_some (behind_code 0x3A z)) (same s) ∙ (same_front 0x3A d (v ++ s) (v ++ r) ∙ (ap (λ z. is_some (behind_code 0x3A z)) (sym (is ∙ same r)) ∙ k)) in (
            c,
            w,
            ap (λ z. c ∷ z) is,
            λ s. by_sign c (w ++ e ∷ s) open_bracket f
                ∙ (ap (λ b. cond b begins_unit (opening (header l (w ++ e ∷ s)).0 (header l (w ++ e ∷ s)).1)) (same_mark s) ∙ ap (λ z. opening z.0 z.1) (here s)),
          )

      named : (p : Option (Text × Text)) → named_or l t p ≡ opening o (e ∷ r) → ⊥
      named None h = cc
      named (Some p) h = cc

      by : (x : Sign) → sign c ≡ x → front_of l x c t ≡ opening o (e ∷ r) → (c2 : ℕ) × (w : Text) × (c ∷ t ≡ c2 ∷ (w ++ e ∷ r)) × ((s : Text) → front l (c2 ∷ (w ++ e ∷ s)) ≡ opening o (e ∷ s))
      by open_bracket f h = bracketed f (is_some (behind_code 0x3A t)) refl h
      by close_bracket f h = absurd (let g = h in cc)
      by hyphen_sign f h = absurd (let g = h in cc)
      by ampersand_sign f h = absurd (let g = h in cc)
      by dollar_sign f h = absurd (named (name l t) h)
      by backslash f h = absurd (let g = h in cc)
      by open_brace f h = absurd (let g = h in cc)
      by caret_sign f h = absurd (let g = h in cc)
      by other f h = absurd (let g = h in cc)

  -- An item, with what stands behind it known by its first character.
  item_free : {q : Text} {k : Sort} {i : Item} (e : ℕ) (r : Text) → ItemAt l q k i (e ∷ r) → (c : ℕ) × (w : Text) × (q ≡ c ∷ (w ++ e ∷ r)) × ((s : Text) → ItemAt l (c ∷ (w ++ e ∷ s)) k i (e ∷ s))
  item_free {q} e r (one_character {i} h) = let (c, is, here) = single_free q i e r h in (c, [], is, λ s. one_character (here s))
  item_free {q} e r (variable {n} h v) = let (c, w, is, here) = named_free q n e r h in (c, w, is, λ s. variable (here s) v)
  item_free {q} e r (unit {m} h k) =
      let (c, d, w, is, here) = unit_free l true q m (e ∷ r) k in
      (c, d ∷ w, is, λ s. unit (unit_begins c d (w ++ e ∷ r) (w ++ e ∷ s) (ap (front l) (sym is) ∙ h)) (here (e ∷ s)))

  -- Items up to their `]`, with the first character in front of which they stand.
  abbrev ItemsFree : Text → List Item → Text → Type 0
  ItemsFree t is r = (e : ℕ) × (w : Text) × (t ≡ e ∷ (w ++ r)) × ((s : Text) → ReadsItems l (e ∷ (w ++ s)) is s)

  -- white space, something that keeps its first character, and what stands behind that
  spaced : (t : Text) (c : ℕ) (u : Text) → skip l.white_space t ≡ c ∷ u →
      (e : ℕ) × (v : Text) × (t ≡ e ∷ (v ++ u)) × ((s : Text) → skip l.white_space (e ∷ (v ++ s)) ≡ c ∷ s)
  spaced t c u h =
      let (w, is, here) = skip_free l.white_space t c u h in
      let (e, v, same) = front_is w c in
      (e, v, is ∙ same u, λ s. ap (skip l.white_space) (sym (same s)) ∙ here s)

  three_parts : (v w x s : Text) (e : ℕ) → v ++ (w ++ e ∷ (x ++ s)) ≡ (v ++ (w ++ e ∷ x)) ++ s
  three_parts v w x s e = ap (λ z. v ++ z) (sym (append_assoc w (e ∷ x) s)) ∙ sym (append_assoc v (w ++ e ∷ x) s)

  closes : (s : Text) → front l (0x5D ∷ s) ≡ closing s
  unfolding sign
  closes s = refl

  items_free : {t r : Text} {is : List Item} → ReadsItems l t is r → ItemsFree t is r
  items_free {t} {r} (ends h) =
      let here = closing_is l (skip l.white_space t) r h in
      let (e, v, parts, skips) = spaced t 0x5D r here in
      (e, v, parts, λ s. ends (ap (front l) (skips s) ∙ closes s))
  items_free {t} {r} (reads {next} {s = k} {i} {is = js} item more) =
      let (e2, w2, is2, here2) = items_free more in
      let (c, w, is, here) = item_free e2 (w2 ++ r) (subst (λ z. ItemAt l (skip l.white_space t) k i z) is2 item) in
      let (e, v, parts, skips) = spaced t c (w ++ e2 ∷ (w2 ++ r)) is in (
        e,
        v ++ (w ++ e2 ∷ w2),
        parts ∙ ap (λ z. e ∷ z) (three_parts v w w2 r e2),
        λ s. subst (λ z. ReadsItems l (e ∷ z) (i ∷ js) s) (three_parts v w w2 s e2)
            (reads (subst (λ z. ItemAt l z k i (e2 ∷ (w2 ++ s))) (sym (skips (w ++ e2 ∷ (w2 ++ s)))) (here (w2 ++ s))) (here2 s)),
      )
  items_free {t} {r} (nests {inner} {next} {o} {is = js} {steps} h inside body more) =
      let (e3, w3, is3, here3) = items_free more in
      let (e2, w2, is2, here2) = items_free inside in
      let (c, w, is, here) = opening_free (skip l.white_space t) o e2 (w2 ++ next) (h ∙ ap (opening o) is2) in
      let (e, v, parts, skips) = spaced t c (w ++ e2 ∷ (w2 ++ next)) is in
      let whole : (s : Text) → v ++ (w ++ e2 ∷ (w2 ++ e3 ∷ (w3 ++ s))) ≡ (v ++ (w ++ e2 ∷ (w2 ++ e3 ∷ w3))) ++ s =
      λ s. ap (λ z. v ++ (w ++ e2 ∷ z)) (sym (append_assoc w2 (e3 ∷ w3) s)) ∙ three_parts v w (w2 ++ e3 ∷ w3) s e2 in (
        e,
        v ++ (w ++ e2 ∷ (w2 ++ e3 ∷ w3)),
        parts ∙ ap (λ z. e ∷ z) (ap (λ z. v ++ (w ++ e2 ∷ (w2 ++ z))) is3 ∙ whole r),
        λ s. subst (λ z. ReadsItems l (e ∷ z) (nested (tree_of o steps) ∷ js) s) (whole s)
            (nests (ap (front l) (skips (w ++ e2 ∷ (w2 ++ e3 ∷ (w3 ++ s)))) ∙ here (w2 ++ e3 ∷ (w3 ++ s))) (here2 (e3 ∷ (w3 ++ s))) body (here3 s)),
      )

  -- A set at the front of a source.

  -- what a bracket begins with, at the top
  first_bracket_free : (q : Text) (o : Opening) (e : ℕ) (r : Text) → first l q ≡ of_bracket o (e ∷ r) → (c : ℕ) × (w : Text) × (q ≡ c ∷ (w ++ e ∷ r)) × ((s : Text) → first l (c ∷ (w ++ e ∷ s)) ≡ of_bracket o (e ∷ s))
  first_bracket_free [] o e r h = absurd (let g = h in cc)
  first_bracket_free (c ∷ t) o e r h = by (sign c) refl h
    where
      same_sign : (x : Sign) → sign c ≡ x → (u : Text) → first l (c ∷ u) ≡ first_of l x c u
      same_sign x f u = ap (λ z. first_of l z c u) f

      bracketed : sign c ≡ open_bracket → (b : Bool) → is_some (behind_code 0x3A t) ≡ b → cond b of_property (of_bracket (header l t).0 (header l t).1) ≡ of_bracket o (e ∷ r) →
          (c2 : ℕ) × (w : Text) × (c ∷ t ≡ c2 ∷ (w ++ e ∷ r)) × ((s : Text) → first l (c2 ∷ (w ++ e ∷ s)) ≡ of_bracket o (e ∷ s))
      bracketed f true k h = absurd (let g = h in cc)
      bracketed f false k h =
          let start : (header l t).0 ≡ o = cc in
          let second : (header l t).1 ≡ e ∷ r = cc in
          let (w, is, here) = header_free t o e r (λ i. (start i, second i)) in
          let (d, v, same) = front_is w e in
          let same_mark : (s : Text) → is_some (behind_code 0x3A (w ++ e ∷ s)) ≡ false =
          λ s. ap (λ z. is_some (behind_code 0x3A z)) (same s) ∙ (same_front 0x3A d (v ++ s) (v ++ r) ∙ (ap (λ z. is_some (behind_code 0x3A z)) (sym (is ∙ same r)) ∙ k)) in (
            c,
            w,
            ap (λ z. c ∷ z) is,
            λ s. same_sign open_bracket f (w ++ e ∷ s)
                ∙ (ap (λ b. cond b of_property (of_bracket (header l (w ++ e ∷ s)).0 (header l (w ++ e ∷ s)).1)) (same_mark s) ∙ ap (λ z. of_bracket z.0 z.1) (here s)),
          )

      named : (u : Text) (p : Option (Text × Text)) → first_named l u p ≡ of_bracket o (e ∷ r) → ⊥
      named [] None h = cc
      named (d ∷ u) None h = cc
      named u (Some p) h = cc

      by : (x : Sign) → sign c ≡ x → first_of l x c t ≡ of_bracket o (e ∷ r) → (c2 : ℕ) × (w : Text) × (c ∷ t ≡ c2 ∷ (w ++ e ∷ r)) × ((s : Text) → first l (c2 ∷ (w ++ e ∷ s)) ≡ of_bracket o (e ∷ s))
      by open_bracket f h = bracketed f (is_some (behind_code 0x3A t)) refl h
      by close_bracket f h = absurd (let g = h in cc)
      by hyphen_sign f h = absurd (let g = h in cc)
      by ampersand_sign f h = absurd (let g = h in cc)
      by dollar_sign f h = absurd (named t (name l t) h)
      by backslash f h = absurd (let g = h in cc)
      by open_brace f h = absurd (let g = h in cc)
      by caret_sign f h = absurd (let g = h in cc)
      by other f h = absurd (let g = h in cc)

  -- a property begins, by two characters alone
  property_begins : (c d : ℕ) (t u : Text) → first l (c ∷ d ∷ t) ≡ of_property → first l (c ∷ d ∷ u) ≡ of_property
  property_begins c d t u h = by (sign c) refl h
    where
      bracketed : (x y : Bool) → x ≡ y → cond x of_property (of_bracket (header l (d ∷ t)).0 (header l (d ∷ t)).1) ≡ of_property → cond y of_property (of_bracket (header l (d ∷ u)).0 (header l (d ∷ u)).1) ≡ of_property
      bracketed true true e h = refl
      bracketed true false e h = absurd (let g = e in cc)
      bracketed false y e h = absurd (let g = h in cc)

      named : (p : Option (Text × Text)) → first_named l (d ∷ t) p ≡ of_property → ⊥
      named None h = cc
      named (Some p) h = cc

      by : (x : Sign) → sign c ≡ x → first_of l x c (d ∷ t) ≡ of_property → first l (c ∷ d ∷ u) ≡ of_property
      by open_bracket f h = ap (λ z. first_of l z c (d ∷ u)) f ∙ bracketed (is_some (behind_code 0x3A (d ∷ t))) (is_some (behind_code 0x3A (d ∷ u))) (same_front 0x3A d t u) h
      by close_bracket f h = absurd (let g = h in cc)
      by hyphen_sign f h = absurd (let g = h in cc)
      by ampersand_sign f h = absurd (let g = h in cc)
      by dollar_sign f h = absurd (named (name l (d ∷ t)) h)
      by backslash f h = ap (λ z. first_of l z c (d ∷ u)) f
      by open_brace f h = absurd (let g = h in cc)
      by caret_sign f h = absurd (let g = h in cc)
      by other f h = absurd (let g = h in cc)

  -- the longest name, before a rest that doesn't go on with it
  name_stops : (t n r : Text) → name l t ≡ Some (n, r) → (c : ℕ) × (w : Text) × (t ≡ c ∷ (w ++ r)) × ((s : Text) → stops l.continue s ≡ true → name l (c ∷ (w ++ s)) ≡ Some (n, s))
  name_stops [] n r h = absurd (let g = h in cc)
  name_stops (c ∷ t) n r h = by (l.start c) refl h
    where
      by : (x : Bool) → l.start c ≡ x → cond {A = Option (Text × Text)} x (Some (c ∷ (while_in l.continue t).0, (while_in l.continue t).1)) None ≡ Some (n, r) →
          (c2 : ℕ) × (w : Text) × (c ∷ t ≡ c2 ∷ (w ++ r)) × ((s : Text) → stops l.continue s ≡ true → name l (c2 ∷ (w ++ s)) ≡ Some (n, s))
      by true f h =
          let p = some_pair_parts _ _ _ _ h in
          let w = (while_in l.continue t).0 in (
            c,
            w,
            ap (λ z. c ∷ z) (while_parts l.continue t ∙ ap (λ z. w ++ z) p.1),
            λ s k. ap (λ b. cond {A = Option (Text × Text)} b (Some (c ∷ (while_in l.continue (w ++ s)).0, (while_in l.continue (w ++ s)).1)) None) f
                ∙ (ap (λ z. Some (c ∷ z.0, z.1)) (while_stops l.continue t s k) ∙ ap (λ z. Some (z, s)) p.0),
          )
      by false f h = absurd (let g = h in cc)

  -- a variable at the top
  first_variable_free : (q n r : Text) → first l q ≡ of_variable n r → (w : Text) × (q ≡ 0x24 ∷ (w ++ r)) × ((s : Text) → stops l.continue s ≡ true → first l (0x24 ∷ (w ++ s)) ≡ of_variable n s)
  first_variable_free [] n r h = absurd (let g = h in cc)
  first_variable_free (c ∷ t) n r h = by (sign c) refl h
    where
      bracketed : (b : Bool) → cond b of_property (of_bracket (header l t).0 (header l t).1) ≡ of_variable n r → ⊥
      bracketed true h = cc
      bracketed false h = cc

      no_variable : (u : Text) → first_named l u None ≡ of_variable n r → ⊥
      no_variable [] h = cc
      no_variable (d ∷ u) h = cc

      named : sign c ≡ dollar_sign → (o : Option (Text × Text)) → name l t ≡ o → first_named l t o ≡ of_variable n r →
          (w : Text) × (c ∷ t ≡ 0x24 ∷ (w ++ r)) × ((s : Text) → stops l.continue s ≡ true → first l (0x24 ∷ (w ++ s)) ≡ of_variable n s)
      named f None k h = absurd (no_variable t h)
      named f (Some p) k h =
          let is_dollar : c ≡ 0x24 = sign_code c dollar_sign f in
          let start : p.0 ≡ n = cc in
          let second : p.1 ≡ r = cc in
          let (d, w, is, here) = name_stops t n r (k ∙ (λ i. Some (start i, second i))) in (
            d ∷ w,
            (λ i. is_dollar i ∷ is i),
            λ s k. ap (λ z. first l (z ∷ d ∷ (w ++ s))) (sym is_dollar)
                ∙ (ap (λ z. first_of l z c (d ∷ (w ++ s))) f ∙ ap (first_named l (d ∷ (w ++ s))) (here s k)),
          )

      by : (x : Sign) → sign c ≡ x → first_of l x c t ≡ of_variable n r →
          (w : Text) × (c ∷ t ≡ 0x24 ∷ (w ++ r)) × ((s : Text) → stops l.continue s ≡ true → first l (0x24 ∷ (w ++ s)) ≡ of_variable n s)
      by open_bracket f h = absurd (bracketed (is_some (behind_code 0x3A t)) h)
      by close_bracket f h = absurd (let g = h in cc)
      by hyphen_sign f h = absurd (let g = h in cc)
      by ampersand_sign f h = absurd (let g = h in cc)
      by dollar_sign f h = named f (name l t) refl h
      by backslash f h = absurd (let g = h in cc)
      by open_brace f h = absurd (let g = h in cc)
      by caret_sign f h = absurd (let g = h in cc)
      by other f h = absurd (let g = h in cc)

  -- What is read takes a front, and takes it before any other text that may follow.
  reads_free : {t r : Text} {tree : Tree} → Reads l t tree r → (w : Text) × (t ≡ w ++ r) × ((s : Text) → may_follow l w s ≡ true → Reads l (w ++ s) tree s)
  reads_free {t} {r} (a_bracket {o} {is = js} {steps} h items body) =
      let (e, v, parts, here) = items_free items in
      let (c, w, is, begins) = first_bracket_free t o e (v ++ r) (h ∙ ap (of_bracket o) parts) in (
        c ∷ (w ++ e ∷ v),
        is ∙ ap (λ z. c ∷ z) (sym (append_assoc w (e ∷ v) r)),
        λ s k. subst (λ z. Reads l (c ∷ z) (tree_of o steps) s) (sym (append_assoc w (e ∷ v) s)) (a_bracket (begins (v ++ s)) (here s) body),
      )
  reads_free {t} {r} (a_property {q} h k) =
      let (c, d, w, is, here) = property_read_free l t q r k in
      (c ∷ d ∷ w, is, λ s m. a_property (property_begins c d (w ++ r) (w ++ s) (ap (first l) (sym is) ∙ h)) (here s))
  reads_free {t} {r} (a_variable {n} h k) =
      let (w, is, here) = first_variable_free t n r h in
      (0x24 ∷ w, is, λ s m. a_variable (here s m) k)

pub free_rest_law : FreeRest
free_rest_law = λ l pattern r s tree read follows.
    let (w, is, here) = reads_free l read in
    let same : pattern ≡ w = append_cancel_right pattern w r is in
    subst (λ z. Reads l (z ++ s) tree s) (sym same) (here s (subst (λ z. may_follow l z s ≡ true) same follows))
