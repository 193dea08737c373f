-- What the front of a text leaves behind it.
use Rattle.std.proofs.Common.{◌≡◌, ℕ, Bool, true, false, cond, [], ◌∷◌, ◌++◌, Option, Some, None, refl, sym, ap, ◌∙◌, subst, append_assoc}
use Rattle.std.specs.Prelude.{◌==◌, is_some}
use Rattle.std.proofs.lemmas.Bool.{eqb-true}
use Rattle.uset_grammar.specs.Text.{Text, skip, behind_code, while_in, Ends, optional_code}
use Rattle.uset_grammar.specs.Item.{Item, is_several, Opening}
use Rattle.uset_grammar.specs.Language.{Language}
use Rattle.uset_grammar.specs.Front.{Sign, open_bracket, close_bracket, hyphen_sign, ampersand_sign, dollar_sign, backslash, open_brace, caret_sign, other, sign, Front, nothing, closing, opening, single, of_name, begins_unit, caret, name, header, named_or, front_of, front, First, too_short, stray, bare, of_variable, of_bracket, of_property, first_named, first_of, first}
use Rattle.uset_grammar.specs.Reached.{is_short}

-- the rest is what stands behind one character or more
abbrev pub Behind : Text → Text → Type 0
Behind t r = (f : Text) × Ends t f r

pub data Suffix (t r : Text) : Type 0 where
  suffix : (w : Text) → t ≡ w ++ r → Suffix t r

-- one more in front
front_more : (t r : Text) (c : ℕ) (w : Text) → t ≡ w ++ r → Behind (c ∷ t) r
front_more t r c [] e = ([], record { last = c; parts = ap (λ z. c ∷ z) e })
front_more t r c (d ∷ w) e = let b = front_more (w ++ r) r d w refl in (c ∷ b.0, record { last = b.1.last; parts = ap (λ z. c ∷ z) (e ∙ b.1.parts) })

pub more : {t r : Text} (c : ℕ) → Suffix t r → Behind (c ∷ t) r
more {t} {r} c (suffix w e) = front_more t r c w e

pub suffix_of : {t r : Text} → Behind t r → Suffix t r
suffix_of {r} (f, e) = suffix (f ++ e.last ∷ []) (e.parts ∙ sym (append_assoc f (e.last ∷ []) r))

pub suffix_then : {t u r : Text} → Suffix t u → Suffix u r → Suffix t r
suffix_then {r} (suffix w e) (suffix v f) = suffix (w ++ v) (e ∙ (ap (λ z. w ++ z) f ∙ sym (append_assoc w v r)))

pub suffix_behind : {t u r : Text} → Suffix t u → Behind u r → Behind t r
suffix_behind {r} (suffix w e) (f, k) = (w ++ f, record { last = k.last; parts = e ∙ (ap (λ z. w ++ z) k.parts ∙ sym (append_assoc w f (k.last ∷ r))) })

pub skip_suffix : (ws : ℕ → Bool) (t : Text) → Suffix t (skip ws t)
skip_suffix ws [] = suffix [] refl
skip_suffix ws (c ∷ t) = by (ws c) (skip_suffix ws t)
  where
    by : (x : Bool) → Suffix t (skip ws t) → Suffix (c ∷ t) (cond x (skip ws t) (c ∷ t))
    by true h = suffix_of (more c h)
    by false h = suffix [] refl

optional_suffix : (m : ℕ) (t : Text) → Suffix t (optional_code m t).1
optional_suffix m [] = suffix [] refl
optional_suffix m (c ∷ t) = by (c == m)
  where
    by : (x : Bool) → Suffix (c ∷ t) (cond {A = Bool × Text} x (true, t) (false, c ∷ t)).1
    by true = suffix (c ∷ []) refl
    by false = suffix [] refl

while_suffix : (p : ℕ → Bool) (t : Text) → Suffix t (while_in p t).1
while_suffix p [] = suffix [] refl
while_suffix p (c ∷ t) = by (p c) (while_suffix p t)
  where
    by : (x : Bool) → Suffix t (while_in p t).1 → Suffix (c ∷ t) (cond {A = Text × Text} x (c ∷ (while_in p t).0, (while_in p t).1) ([], c ∷ t)).1
    by true h = suffix_of (more c h)
    by false h = suffix [] refl

-- the character of each sign
abbrev pub Code : Sign → ℕ → Type 0
Code open_bracket c = c ≡ 0x5B
Code close_bracket c = c ≡ 0x5D
Code hyphen_sign c = c ≡ 0x2D
Code ampersand_sign c = c ≡ 0x26
Code dollar_sign c = c ≡ 0x24
Code backslash c = c ≡ 0x5C
Code open_brace c = c ≡ 0x7B
Code caret_sign c = c ≡ 0x5E
Code other c = Unit {0}

signed : (c : ℕ) → Code (sign c) c
unfolding sign
signed c = by (c == 0x5B) (c == 0x5D) (c == 0x2D) (c == 0x26) (c == 0x24) (c == 0x5C) (c == 0x7B) (c == 0x5E) refl refl refl refl refl refl refl refl
  where
    by : (x1 x2 x3 x4 x5 x6 x7 x8 : Bool) → (c == 0x5B) ≡ x1 → (c == 0x5D) ≡ x2 → (c == 0x2D) ≡ x3 → (c == 0x26) ≡ x4 → (c == 0x24) ≡ x5 → (c == 0x5C) ≡ x6 → (c == 0x7B) ≡ x7 → (c == 0x5E) ≡ x8 → Code (cond x1 open_bracket (cond x2 close_bracket (cond x3 hyphen_sign (cond x4 ampersand_sign (cond x5 dollar_sign (cond x6 backslash (cond x7 open_brace (cond x8 caret_sign other)))))))) c
    by true x2 x3 x4 x5 x6 x7 x8 e1 e2 e3 e4 e5 e6 e7 e8 = eqb-true c 0x5B e1
    by false true x3 x4 x5 x6 x7 x8 e1 e2 e3 e4 e5 e6 e7 e8 = eqb-true c 0x5D e2
    by false false true x4 x5 x6 x7 x8 e1 e2 e3 e4 e5 e6 e7 e8 = eqb-true c 0x2D e3
    by false false false true x5 x6 x7 x8 e1 e2 e3 e4 e5 e6 e7 e8 = eqb-true c 0x26 e4
    by false false false false true x6 x7 x8 e1 e2 e3 e4 e5 e6 e7 e8 = eqb-true c 0x24 e5
    by false false false false false true x7 x8 e1 e2 e3 e4 e5 e6 e7 e8 = eqb-true c 0x5C e6
    by false false false false false false true x8 e1 e2 e3 e4 e5 e6 e7 e8 = eqb-true c 0x7B e7
    by false false false false false false false true e1 e2 e3 e4 e5 e6 e7 e8 = eqb-true c 0x5E e8
    by false false false false false false false false e1 e2 e3 e4 e5 e6 e7 e8 = tt

pub sign_code : (c : ℕ) (s : Sign) → sign c ≡ s → Code s c
sign_code c s e = subst (λ z. Code z c) e (signed c)

module _ (l : Language) where
  header_suffix : (t : Text) → Suffix t (header l t).1
  header_suffix t =
      suffix_then (optional_suffix 0x5E t) (suffix_then (skip_suffix l.white_space (optional_code 0x5E t).1) (optional_suffix 0x2D (skip l.white_space (optional_code 0x5E t).1)))

  name_behind : (t : Text) (n : Text × Text) → name l t ≡ Some n → Behind t n.1
  name_behind [] n h = absurd (let g = h in cc)
  name_behind (c ∷ t) n h = by (l.start c) h
    where
      by : (x : Bool) → cond x (Some (c ∷ (while_in l.continue t).0, (while_in l.continue t).1)) None ≡ Some n → Behind (c ∷ t) n.1
      by true g = subst (λ z. Behind (c ∷ t) z) (let e : (c ∷ (while_in l.continue t).0, (while_in l.continue t).1) ≡ n = cc in ap (λ z. z.1) e) (more c (while_suffix l.continue t))
      by false g = absurd (let e = g in cc)

  -- by cases of the sign
  abbrev Leaves : ℕ → Text → Front → Type 0
  Leaves c t nothing = ⊥
  Leaves c t (closing r) = (sign c ≡ close_bracket) × (t ≡ r)
  Leaves c t (opening o inner) = Behind (c ∷ t) inner
  Leaves c t (single i r) = Behind (c ∷ t) r × (is_several i ≡ false)
  Leaves c t (of_name n r) = Behind (c ∷ t) r × Behind t r
  Leaves c t begins_unit = Unit {0}
  Leaves c t caret = Unit {0}

  at_once : (c : ℕ) (t : Text) → Behind (c ∷ t) t
  at_once c t = ([], record { last = c; parts = refl })

  leaves_name : (c : ℕ) (t : Text) (o : Option (Text × Text)) → name l t ≡ o → Leaves c t (named_or l t o)
  leaves_name c t None h = (at_once c t, refl)
  leaves_name c t (Some n) h = let b = name_behind t n h in (more c (suffix_of b), b)

  leaves_bracket : (c : ℕ) (t : Text) (x : Bool) → Leaves c t (cond x begins_unit (opening (header l t).0 (header l t).1))
  leaves_bracket c t true = tt
  leaves_bracket c t false = more c (header_suffix t)

  leaves_of : (c : ℕ) (t : Text) (s : Sign) → sign c ≡ s → Leaves c t (front_of l s c t)
  leaves_of c t open_bracket e = leaves_bracket c t (is_some (behind_code 0x3A t))
  leaves_of c t close_bracket e = (e, refl)
  leaves_of c t hyphen_sign e = (at_once c t, refl)
  leaves_of c t ampersand_sign e = (at_once c t, refl)
  leaves_of c t dollar_sign e = leaves_name c t (name l t) refl
  leaves_of c t backslash e = tt
  leaves_of c t open_brace e = tt
  leaves_of c t caret_sign e = tt
  leaves_of c t other e = (at_once c t, refl)

  leaves : (c : ℕ) (t : Text) (f : Front) → front l (c ∷ t) ≡ f → Leaves c t f
  leaves c t f e = subst (λ z. Leaves c t z) e (leaves_of c t (sign c) refl)

  pub no_nothing : (q : Text) → is_short q ≡ false → front l q ≡ nothing → ⊥
  no_nothing [] e h = cc
  no_nothing (c ∷ t) e h = leaves c t nothing h

  pub closing_is : (q r : Text) → front l q ≡ closing r → q ≡ 0x5D ∷ r
  closing_is [] r h = absurd (let g = h in cc)
  closing_is (c ∷ t) r h = let k = leaves c t (closing r) h in ap (λ z. z ∷ t) (sign_code c close_bracket k.0) ∙ ap (λ z. 0x5D ∷ z) k.1

  not_short_close : (r : Text) → is_short (0x5D ∷ r) ≡ false
  not_short_close [] = refl
  not_short_close (c ∷ r) = refl

  pub closing_long : (q r : Text) → front l q ≡ closing r → is_short q ≡ false
  closing_long q r h = ap is_short (closing_is q r h) ∙ not_short_close r

  pub opening_behind : (q inner : Text) (o : Opening) → front l q ≡ opening o inner → Behind q inner
  opening_behind [] inner o h = absurd (let g = h in cc)
  opening_behind (c ∷ t) inner o h = leaves c t (opening o inner) h

  pub single_behind : (q r : Text) (i : Item) → front l q ≡ single i r → Behind q r
  single_behind [] r i h = absurd (let g = h in cc)
  single_behind (c ∷ t) r i h = (leaves c t (single i r) h).0

  pub single_one : (q r : Text) (i : Item) → front l q ≡ single i r → is_several i ≡ false
  single_one [] r i h = absurd (let g = h in cc)
  single_one (c ∷ t) r i h = (leaves c t (single i r) h).1

  pub named_behind : (q n r : Text) → front l q ≡ of_name n r → Behind q r
  named_behind [] n r h = absurd (let g = h in cc)
  named_behind (c ∷ t) n r h = (leaves c t (of_name n r) h).0

  pub nothing_behind : (r : Text) → Behind [] r → ⊥
  nothing_behind r ([], e) = absurd (let g = e.parts in cc)
  nothing_behind r (c ∷ f, e) = absurd (let g = e.parts in cc)

  pub named_long : (q n r : Text) → front l q ≡ of_name n r → is_short q ≡ false
  named_long [] n r h = absurd (let g = h in cc)
  named_long (c ∷ []) n r h = absurd (nothing_behind r (leaves c [] (of_name n r) h).1)
  named_long (c ∷ d ∷ t) n r h = refl

  -- the same at the top
  abbrev LeavesFirst : ℕ → Text → First → Type 0
  LeavesFirst c t too_short = Unit {0}
  LeavesFirst c t (stray d) = Unit {0}
  LeavesFirst c t bare = Unit {0}
  LeavesFirst c t (of_variable n r) = Behind (c ∷ t) r
  LeavesFirst c t (of_bracket o inner) = Behind (c ∷ t) inner
  LeavesFirst c t of_property = Unit {0}

  first_leaves_name : (c : ℕ) (t : Text) (o : Option (Text × Text)) → name l t ≡ o → LeavesFirst c t (first_named l t o)
  first_leaves_name c [] None h = tt
  first_leaves_name c (d ∷ t) None h = tt
  first_leaves_name c [] (Some n) h = more c (suffix_of (name_behind [] n h))
  first_leaves_name c (d ∷ t) (Some n) h = more c (suffix_of (name_behind (d ∷ t) n h))

  first_leaves_bracket : (c : ℕ) (t : Text) (x : Bool) → LeavesFirst c t (cond x of_property (of_bracket (header l t).0 (header l t).1))
  first_leaves_bracket c t true = tt
  first_leaves_bracket c t false = more c (header_suffix t)

  first_leaves_of : (c : ℕ) (t : Text) (s : Sign) → LeavesFirst c t (first_of l s c t)
  first_leaves_of c t open_bracket = first_leaves_bracket c t (is_some (behind_code 0x3A t))
  first_leaves_of c t close_bracket = tt
  first_leaves_of c t hyphen_sign = tt
  first_leaves_of c t ampersand_sign = tt
  first_leaves_of c t dollar_sign = first_leaves_name c t (name l t) refl
  first_leaves_of c t backslash = tt
  first_leaves_of c t open_brace = tt
  first_leaves_of c t caret_sign = tt
  first_leaves_of c t other = tt

  pub first_variable_behind : (q n r : Text) → first l q ≡ of_variable n r → Behind q r
  first_variable_behind [] n r h = absurd (let g = h in cc)
  first_variable_behind (c ∷ t) n r h = subst (λ z. LeavesFirst c t z) h (first_leaves_of c t (sign c))

  pub first_bracket_behind : (q inner : Text) (o : Opening) → first l q ≡ of_bracket o inner → Behind q inner
  first_bracket_behind [] inner o h = absurd (let g = h in cc)
  first_bracket_behind (c ∷ t) inner o h = subst (λ z. LeavesFirst c t z) h (first_leaves_of c t (sign c))
