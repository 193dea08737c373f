-- What the units leave behind them, and how reading where two codes fit differs from reading where they don't.
use Rattle.std.proofs.Common.{◌≡◌, arith, ℕ, ◌≤◌, zero, suc, length, nat_le, Bool, true, false, cond, List, [], ◌∷◌, ◌++◌, Option, Some, None, refl, sym, ap, ◌∙◌, subst}
use Rattle.std.specs.Prelude.{◌==◌}
use Rattle.std.specs.List.{list_all}
use Rattle.std.proofs.lemmas.Bool.{eqb-true, leb-true, and_parts, and_from}
use Rattle.uset_grammar.specs.Text.{Text, ◌>>=◌, behind_code}
use Rattle.uset_grammar.specs.Escape.{is_hex, Spelled, named, itself, numbers, digits, value, up_to_brace, words, values, at_least_one, braced, braced_or, escape_by, escape_at, escape_shape, Letter, four, two, six, name, other, letter, codes_of}
use Rattle.uset_grammar.specs.EscapeSlips.{in_bracket, allowed, fits_in}
use Rattle.uset_grammar.specs.BracedString.{with_piece, pieces_shape, string_shape, text_of}
use Rattle.uset_grammar.specs.Property.{Query, Form, posix, perl, mark, up_to, closed, without_white, inner, caret_or, perl_shape, property_shape, PropertyRead}
use Rattle.uset_grammar.specs.Property as P
use Rattle.uset_grammar.specs.Unit.{Meaning, UnitRead, escape_read, string_read, property_read}
use Rattle.uset_grammar.specs.Item.{Item, chars, text_item, is_several}
use Rattle.uset_grammar.specs.Language.{Language, stands_for, resolves, lacks}
use Rattle.uset_grammar.specs.Grammar.{Sort, ItemAt, one_character, variable, unit}
use Rattle.uset_grammar.specs.Reached.{is_short}
use Rattle.uset_grammar.proofs.Binding.{bound}
use Rattle.uset_grammar.proofs.FrontRests.{Behind, Suffix, suffix, more, suffix_of, suffix_then, suffix_behind, single_behind, named_behind}

pub behind_is : (m : ℕ) (t u : Text) → behind_code m t ≡ Some u → t ≡ m ∷ u
behind_is m [] u h = absurd (let g = h in cc)
behind_is m (c ∷ t) u h = by (c == m) refl h
  where
    by : (x : Bool) → (c == m) ≡ x → cond x (Some t) None ≡ Some u → c ∷ t ≡ m ∷ u
    by true e h = let g : t ≡ u = cc in ap (λ z. z ∷ t) (eqb-true c m e) ∙ ap (λ z. m ∷ z) g
    by false e h = absurd (let g = h in cc)

behind_suffix : (m : ℕ) (t u : Text) → behind_code m t ≡ Some u → Suffix t u
behind_suffix m t u h = suffix (m ∷ []) (behind_is m t u h)

ends_there : {A : Type 0} (v w : A) (t r : Text) → ◌≡◌ {A = Option (A × Text)} (Some (v, t)) (Some (w, r)) → Suffix t r
ends_there {A} v w t r h = suffix [] (let e : ◌≡◌ {A = A × Text} (v, t) (w, r) = cc in ap (λ z. z.1) e)

digits_suffix : (k : ℕ) (read t : Text) (v : Spelled) (r : Text) → digits k read t ≡ Some (v, r) → Suffix t r
digits_suffix zero read t v r h = ends_there (numbers (value read ∷ [])) v t r h
digits_suffix (suc k) read [] v r h = absurd (let g = h in cc)
digits_suffix (suc k) read (c ∷ t) v r h = by (is_hex c) h (λ g. digits_suffix k (read ++ c ∷ []) t v r g)
  where
    by : (x : Bool) → cond x (digits k (read ++ c ∷ []) t) None ≡ Some (v, r) → (digits k (read ++ c ∷ []) t ≡ Some (v, r) → Suffix t r) → Suffix (c ∷ t) r
    by true h f = suffix_of (more c (f h))
    by false h f = absurd (let g = h in cc)

up_to_brace_suffix : (t : Text) (p : Text × Text) → up_to_brace t ≡ Some p → Suffix t p.1
up_to_brace_suffix [] p h = absurd (let g = h in cc)
up_to_brace_suffix (c ∷ t) p h = by (c == 0x7D) h (λ q g. up_to_brace_suffix t q g)
  where
    by : (x : Bool) → cond x (Some ([], t)) (up_to_brace t >>= λ p. Some (c ∷ p.0, p.1)) ≡ Some p → ((q : Text × Text) → up_to_brace t ≡ Some q → Suffix t q.1) → Suffix (c ∷ t) p.1
    by true h f = suffix (c ∷ []) (let e : ◌≡◌ {A = Text × Text} ([], t) p = cc in ap (λ z. c ∷ z.1) e)
    by false h f =
        let b = bound (up_to_brace t) (λ p. Some (c ∷ p.0, p.1)) p h in
        let e : ◌≡◌ {A = Text × Text} (c ∷ b.0.0, b.0.1) p = (let g = b.2 in cc) in
        subst (λ z. Suffix (c ∷ t) z) (ap (λ z. z.1) e) (suffix_of (more c (f b.0 b.1)))

at_least_suffix : (ns : List ℕ) (t : Text) (v : Spelled) (r : Text) → at_least_one ns t ≡ Some (v, r) → Suffix t r
at_least_suffix [] t v r h = absurd (let g = h in cc)
at_least_suffix (n ∷ ns) t v r h = ends_there (numbers (n ∷ ns)) v t r h

module _ (white_space : ℕ → Bool) where
  braced_suffix : (t : Text) (v : Spelled) (r : Text) → braced white_space t ≡ Some (v, r) → Suffix t r
  braced_suffix t v r h =
      let b = bound (up_to_brace t) (λ p. (values (words white_space [] p.0) >>= λ ns. at_least_one ns p.1)) (v, r) h in
      let d = bound (values (words white_space [] b.0.0)) (λ ns. at_least_one ns b.0.1) (v, r) b.2 in
      suffix_then (up_to_brace_suffix t b.0 b.1) (at_least_suffix d.0 b.0.1 v r d.2)

  braced_or_suffix : (k : ℕ) (t : Text) (v : Spelled) (r : Text) (o : Option Text) → behind_code 0x7B t ≡ o → braced_or white_space (digits k [] t) o ≡ Some (v, r) → Suffix t r
  braced_or_suffix k t v r None e h = digits_suffix k [] t v r h
  braced_or_suffix k t v r (Some u) e h = suffix_then (behind_suffix 0x7B t u e) (braced_suffix u v r h)

  escape_by_suffix : (l : Letter) (c : ℕ) (t : Text) (v : Spelled) (r : Text) → escape_by white_space l c t ≡ Some (v, r) → Suffix t r
  escape_by_suffix four c t v r h = braced_or_suffix 4 t v r (behind_code 0x7B t) refl h
  escape_by_suffix two c t v r h = braced_or_suffix 2 t v r (behind_code 0x7B t) refl h
  escape_by_suffix six c t v r h =
      let b = bound (behind_code 0x30 t) (λ u. (behind_code 0x30 u >>= digits 6 [])) (v, r) h in
      let d = bound (behind_code 0x30 b.0) (digits 6 []) (v, r) b.2 in
      suffix_then (behind_suffix 0x30 t b.0 b.1) (suffix_then (behind_suffix 0x30 b.0 d.0 d.1) (digits_suffix 6 [] d.0 v r d.2))
  escape_by_suffix name c t v r h = ends_there named v t r h
  escape_by_suffix other c t v r h = ends_there _ v t r h

  escape_at_behind : (t : Text) (v : Spelled) (r : Text) → escape_at white_space t ≡ Some (v, r) → Behind t r
  escape_at_behind [] v r h = absurd (let g = h in cc)
  escape_at_behind (c ∷ t) v r h = more c (escape_by_suffix (letter c) c t v r h)

  -- one character and something behind it
  abbrev Long : Text → Text → Type 0
  Long q r = (c : ℕ) × (u : Text) × (q ≡ c ∷ u) × Behind u r

  pub escape_long : (q : Text) (v : Spelled) (r : Text) → escape_shape white_space q ≡ Some (v, r) → Long q r
  escape_long q v r h =
      let b = bound (behind_code 0x5C q) (escape_at white_space) (v, r) h in
      (0x5C, b.0, behind_is 0x5C q b.0 b.1, escape_at_behind b.0 v r b.2)

  pub long_behind : (q r : Text) → Long q r → Behind q r
  long_behind q r (c, u, e, b) = subst (λ z. Behind z r) (sym e) (more c (suffix_of b))

  not_short : (c : ℕ) (u r : Text) → Behind u r → is_short (c ∷ u) ≡ false
  not_short c [] r b = absurd (nothing_behind_all r b)
    where
      nothing_behind_all : (r : Text) → Behind [] r → ⊥
      nothing_behind_all r ([], e) = absurd (let g = e.parts in cc)
      nothing_behind_all r (c ∷ f, e) = absurd (let g = e.parts in cc)
  not_short c (d ∷ u) r b = refl

  long_short : (q r : Text) → Long q r → is_short q ≡ false
  long_short q r (c, u, e, b) = ap is_short e ∙ not_short c u r b

  pub with_piece_rest : (s : Spelled) (o : Option (List Spelled × Text)) (v : List Spelled) (r : Text) → with_piece s o ≡ Some (v, r) → (w : List Spelled) × (o ≡ Some (w, r))
  with_piece_rest s o v r h =
      let b = bound o (λ q. Some (s ∷ q.0, q.1)) (v, r) h in
      let e : ◌≡◌ {A = List Spelled × Text} (s ∷ b.0.0, b.0.1) (v, r) = (let g = b.2 in cc) in
      (b.0.0, b.1 ∙ ap (λ z. Some (b.0.0, z)) (ap (λ z. z.1) e))

  pieces_behind : (n : ℕ) (t : Text) (v : List Spelled) (r : Text) → pieces_shape white_space n t ≡ Some (v, r) → Behind t r
  pieces_behind zero t v r h = absurd (let g = h in cc)
  pieces_behind (suc n) [] v r h = absurd (let g = h in cc)
  pieces_behind (suc n) (c ∷ t) v r h = by (c == 0x7D) (white_space c) (c == 0x5C) h (λ u w g. pieces_behind n u w r g)
    where
      by : (x y z : Bool) → cond x (Some ([], t)) (cond y (pieces_shape white_space n t) (cond z (escape_shape white_space (c ∷ t) >>= λ p. with_piece p.0 (pieces_shape white_space n p.1)) (with_piece (itself c) (pieces_shape white_space n t)))) ≡ Some (v, r) →
          ((u : Text) (w : List Spelled) → pieces_shape white_space n u ≡ Some (w, r) → Behind u r) → Behind (c ∷ t) r
      by true y z h f = more c (ends_there [] v t r h)
      by false true z h f = more c (suffix_of (f t v h))
      by false false true h f =
          let b = bound (escape_shape white_space (c ∷ t)) (λ p. with_piece p.0 (pieces_shape white_space n p.1)) (v, r) h in
          let w = with_piece_rest b.0.0 (pieces_shape white_space n b.0.1) v r b.2 in
          let first = long_behind (c ∷ t) b.0.1 (escape_long (c ∷ t) b.0.0 b.0.1 b.1) in
          suffix_behind (suffix_of first) (f b.0.1 w.0 w.1)
      by false false false h f = let w = with_piece_rest (itself c) (pieces_shape white_space n t) v r h in more c (suffix_of (f t w.0 w.1))

  string_long : (q : Text) (v : List Spelled) (r : Text) → string_shape white_space q ≡ Some (v, r) → Long q r
  string_long q v r h =
      let b = bound (behind_code 0x7B q) (λ u. pieces_shape white_space (length u) u) (v, r) h in
      (0x7B, b.0, behind_is 0x7B q b.0 b.1, pieces_behind (length b.0) b.0 v r b.2)

  closed_suffix : (form : Form) (n m : Query) (t r : Text) → closed form n t ≡ Some (m, r) → Suffix t r
  closed_suffix posix n m t r h =
      let b = bound (behind_code 0x5D t) (λ u. Some (n, u)) (m, r) h in suffix_then (behind_suffix 0x5D t b.0 b.1) (ends_there n m b.0 r b.2)
  closed_suffix perl n m t r h = ends_there n m t r h

  up_to_suffix : (m : ℕ) (t : Text) (p : Text × Text) → up_to m t ≡ Some p → Suffix t p.1
  up_to_suffix m [] p h = absurd (let g = h in cc)
  up_to_suffix m (c ∷ t) p h = by (c == m) h (λ q g. up_to_suffix m t q g)
    where
      by : (x : Bool) → cond x (Some ([], t)) (up_to m t >>= λ p. Some (c ∷ p.0, p.1)) ≡ Some p → ((q : Text × Text) → up_to m t ≡ Some q → Suffix t q.1) → Suffix (c ∷ t) p.1
      by true h f = suffix (c ∷ []) (let e : ◌≡◌ {A = Text × Text} ([], t) p = cc in ap (λ z. c ∷ z.1) e)
      by false h f =
          let b = bound (up_to m t) (λ p. Some (c ∷ p.0, p.1)) p h in
          let e : ◌≡◌ {A = Text × Text} (c ∷ b.0.0, b.0.1) p = (let g = b.2 in cc) in
          subst (λ z. Suffix (c ∷ t) z) (ap (λ z. z.1) e) (suffix_of (more c (f b.0 b.1)))

  inner_suffix : (form : Form) (negated : Bool) (t : Text) (n : Query) (r : Text) → inner white_space form negated t ≡ Some (n, r) → Suffix t r
  inner_suffix form negated t n r h =
      let b = bound (up_to (mark form) t) (λ p. (P.query negated [] (without_white white_space p.0) >>= λ n. closed form n p.1)) (n, r) h in
      let d = bound (P.query negated [] (without_white white_space b.0.0)) (λ n. closed form n b.0.1) (n, r) b.2 in
      suffix_then (up_to_suffix (mark form) t b.0 b.1) (closed_suffix form d.0 n b.0.1 r d.2)

  caret_suffix : (t : Text) (o : Option Text) (n : Query) (r : Text) → behind_code 0x5E t ≡ o → caret_or white_space t o ≡ Some (n, r) → Suffix t r
  caret_suffix t None n r e h = inner_suffix posix false t n r h
  caret_suffix t (Some u) n r e h = suffix_then (behind_suffix 0x5E t u e) (inner_suffix posix true u n r h)

  perl_behind : (t : Text) (n : Query) (r : Text) → perl_shape white_space t ≡ Some (n, r) → Behind t r
  perl_behind [] n r h = absurd (let g = h in cc)
  perl_behind (c ∷ t) n r h = by (c == 0x70) (c == 0x50) h
    where
      at : (negated : Bool) → (behind_code 0x7B t >>= inner white_space perl negated) ≡ Some (n, r) → Behind (c ∷ t) r
      at negated h = let b = bound (behind_code 0x7B t) (inner white_space perl negated) (n, r) h in more c (suffix_then (behind_suffix 0x7B t b.0 b.1) (inner_suffix perl negated b.0 n r b.2))

      by : (x y : Bool) → cond x (behind_code 0x7B t >>= inner white_space perl false) (cond y (behind_code 0x7B t >>= inner white_space perl true) None) ≡ Some (n, r) → Behind (c ∷ t) r
      by true y h = at false h
      by false true h = at true h
      by false false h = absurd (let g = h in cc)

  pub property_long : (q : Text) (n : Query) (r : Text) → property_shape white_space q ≡ Some (n, r) → Long q r
  property_long [] n r h = absurd (let g = h in cc)
  property_long (c ∷ t) n r h = by (c == 0x5B) (c == 0x5C) h
    where
      by : (x y : Bool) → cond x (behind_code 0x3A t >>= λ u. caret_or white_space u (behind_code 0x5E u)) (cond y (perl_shape white_space t) None) ≡ Some (n, r) → Long (c ∷ t) r
      by true y h =
          let b = bound (behind_code 0x3A t) (λ u. caret_or white_space u (behind_code 0x5E u)) (n, r) h in
          (c, t, refl, subst (λ z. Behind z r) (sym (behind_is 0x3A t b.0 b.1)) (more 0x3A (caret_suffix b.0 (behind_code 0x5E b.0) n r refl b.2)))
      by false true h = (c, t, refl, perl_behind t n r h)
      by false false h = absurd (let g = h in cc)

allowed_freely : (v : Spelled) → allowed (in_bracket false) v ≡ true → allowed (in_bracket true) v ≡ true
allowed_freely named h = h
allowed_freely (itself c) h = h
allowed_freely (numbers ns) h = and_from (list_all (fits_in (in_bracket true)) ns) true (and_parts (list_all (fits_in (in_bracket false)) ns) (nat_le (length ns) 1) h).0 refl

allowed_likewise : (v : Spelled) → allowed (in_bracket true) v ≡ true → is_several (chars (codes_of v)) ≡ false → allowed (in_bracket false) v ≡ true
allowed_likewise named h e = h
allowed_likewise (itself c) h e = h
allowed_likewise (numbers []) h e = refl
allowed_likewise (numbers (n ∷ [])) h e = h
allowed_likewise (numbers (n ∷ m ∷ ns)) h e = absurd (let g : true ≡ false = e in cc)

allowed_single : (v : Spelled) → allowed (in_bracket false) v ≡ true → is_several (chars (codes_of v)) ≡ false
allowed_single named h = refl
allowed_single (itself c) h = refl
allowed_single (numbers []) h = refl
allowed_single (numbers (n ∷ [])) h = refl
allowed_single (numbers (n ∷ m ∷ ns)) h =
    let k : length (n ∷ m ∷ ns) ≤ 1 = leb-true (length (n ∷ m ∷ ns)) 1 (and_parts (list_all (fits_in (in_bracket false)) (n ∷ m ∷ ns)) (nat_le (length (n ∷ m ∷ ns)) 1) h).1 in
    absurd (omega arith)

one_text : (t : Text) → is_several (text_item t) ≡ false
one_text [] = refl
one_text (c ∷ []) = refl
one_text (c ∷ d ∷ t) = refl

module _ (l : Language) where
  abbrev pub Unit_ : Bool → Text → Meaning → Text → Type 0
  Unit_ both = UnitRead l.white_space both (resolves l) (lacks l)

  unit_is_long : (both : Bool) (q : Text) (m : Meaning) (r : Text) → Unit_ both q m r → Long l.white_space q r
  unit_is_long both _ _ r (escape_read {c} {t} {v} n h) = escape_long l.white_space (0x5C ∷ c ∷ t) v r h.shape
  unit_is_long both q _ r (string_read {v} h) = string_long l.white_space q v r h.shape
  unit_is_long both q _ r (property_read {v} h) = property_long l.white_space q v r h.shape

  pub unit_behind : (both : Bool) (q : Text) (m : Meaning) (r : Text) → Unit_ both q m r → Behind q r
  unit_behind both q m r h = long_behind l.white_space q r (unit_is_long both q m r h)

  pub unit_long : (both : Bool) (q : Text) (m : Meaning) (r : Text) → Unit_ both q m r → is_short q ≡ false
  unit_long both q m r h = long_short l.white_space q r (unit_is_long both q m r h)

  pub freely : (q : Text) (m : Meaning) (r : Text) → Unit_ false q m r → Unit_ true q m r
  freely _ _ r (escape_read {v} n h) = escape_read n (record { shape = h.shape; fits = allowed_freely v h.fits })
  freely q _ r (string_read h) = string_read h
  freely q _ r (property_read h) = property_read h

  pub likewise : (q : Text) (m : Meaning) (r : Text) → Unit_ true q m r → is_several (stands_for l m) ≡ false → Unit_ false q m r
  likewise _ _ r (escape_read {v} n h) e = escape_read n (record { shape = h.shape; fits = allowed_likewise v h.fits e })
  likewise q _ r (string_read h) e = string_read h
  likewise q _ r (property_read h) e = property_read h

  pub not_several : (q : Text) (m : Meaning) (r : Text) → Unit_ false q m r → is_several (stands_for l m) ≡ false
  not_several _ _ r (escape_read {v} n h) = allowed_single v h.fits
  not_several q _ r (string_read {v} h) = one_text (text_of v)
  not_several q _ r (property_read h) = refl

  pub item_behind : {q r : Text} {s : Sort} {i : Item} → ItemAt l q s i r → Behind q r
  item_behind {q} {r} (one_character {i} h) = single_behind l q r i h
  item_behind {q} {r} (variable {n} h k) = named_behind l q n r h
  item_behind {q} {r} (unit {m} h k) = unit_behind true q m r k
