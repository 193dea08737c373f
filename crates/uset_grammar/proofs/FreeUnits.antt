-- What is read of a unit is read of it before any other rest.
use Rattle.std.proofs.Common.{◌≡◌, arith, ℕ, ◌≤◌, zero, suc, length, Bool, true, false, cond, List, [], ◌∷◌, ◌++◌, Option, Some, None, refl, sym, ap, ◌∙◌, subst, append_assoc}
use Rattle.std.specs.Prelude.{◌==◌}
use Rattle.std.proofs.lemmas.Bool.{eqb-true}
use Rattle.std.proofs.lemmas.List.{length-append}
use Rattle.std.proofs.lemmas.Option.{some_pair_parts}
use Rattle.uset_grammar.specs.Text.{Text, ◌>>=◌, behind_code}
use Rattle.uset_grammar.specs.Escape.{is_hex, Spelled, named, itself, numbers, digits, value, up_to_brace, words, values, at_least_one, braced, braced_or, escape_by, escape_at, escape_shape, plain, Letter, four, two, six, name, other, letter}
use Rattle.uset_grammar.specs.BracedString.{with_piece, pieces_shape, string_shape}
use Rattle.uset_grammar.specs.Property.{Query, Form, posix, perl, mark, up_to, closed, without_white, inner, caret_or, perl_shape, property_shape, PropertyRead}
use Rattle.uset_grammar.specs.Property as P
use Rattle.uset_grammar.specs.Unit.{Meaning, UnitRead, escape_read, string_read, property_read}
use Rattle.uset_grammar.specs.Language.{Language, resolves, lacks}
use Rattle.uset_grammar.proofs.Binding.{bound}
use Rattle.uset_grammar.proofs.UnitRests.{behind_is}

-- The reader takes a front of the text, and takes it with the same answer before any rest.
abbrev pub Free : {A : Type 0} → (Text → Option (A × Text)) → Text → A → Text → Type 0
Free f t v r = (w : Text) × (t ≡ w ++ r) × ((s : Text) → f (w ++ s) ≡ Some (v, s))

free_as : {A : Type 0} (f : Text → Option (A × Text)) {t : Text} {x v : A} {u r : Text} → x ≡ v → u ≡ r → Free f t x u → Free f t v r
free_as f {t} {x} {r} e k h = subst (λ y. Free f t y r) e (subst (λ y. Free f t x y) k h)

-- a reader that takes nothing
at_once : {A : Type 0} (x : A) (t : Text) {v : A} {r : Text} → ◌≡◌ {A = Option (A × Text)} (Some (x, t)) (Some (v, r)) → Free (λ t. Some (x, t)) t v r
at_once x t h = let p = some_pair_parts _ _ _ _ h in free_as (λ t. Some (x, t)) p.0 p.1 ([], refl, λ s. refl)

-- one reader and then another
then_free : {A B : Type 0} (f : Text → Option (A × Text)) (g : A → Text → Option (B × Text)) (t : Text) (v : B) (r : Text) → (f t >>= λ p. g p.0 p.1) ≡ Some (v, r) →
    ((a : A) (u : Text) → f t ≡ Some (a, u) → Free f t a u) → ((a : A) (u : Text) → g a u ≡ Some (v, r) → Free (g a) u v r) → Free (λ t. f t >>= λ p. g p.0 p.1) t v r
then_free f g t v r h first second =
    let b = bound (f t) (λ p. g p.0 p.1) (v, r) h in
    let (w, e, here) = first b.0.0 b.0.1 b.1 in
    let (x, k, there) = second b.0.0 b.0.1 b.2 in (
      w ++ x,
      e ∙ (ap (λ z. w ++ z) k ∙ sym (append_assoc w x r)),
      λ s. ap (λ z. f z >>= λ p. g p.0 p.1) (append_assoc w x s) ∙ (ap (λ o. o >>= λ p. g p.0 p.1) (here (x ++ s)) ∙ there s),
    )

-- a value that the text has no part in
given_free : {A B : Type 0} (o : Option A) (g : A → Text → Option (B × Text)) (t : Text) (v : B) (r : Text) → (o >>= λ a. g a t) ≡ Some (v, r) →
    ((a : A) → g a t ≡ Some (v, r) → Free (g a) t v r) → Free (λ t. o >>= λ a. g a t) t v r
given_free None g t v r h more = absurd (let k = h in cc)
given_free (Some a) g t v r h more = more a h

-- a character in front of what is taken
onto_free : {A : Type 0} (f g : Text → Option (A × Text)) (c : ℕ) (t : Text) (v : A) (r : Text) → ((u : Text) → f (c ∷ u) ≡ g u) → Free g t v r → Free f (c ∷ t) v r
onto_free f g c t v r same (w, e, here) = (c ∷ w, ap (λ z. c ∷ z) e, λ s. same (w ++ s) ∙ here s)

-- digits

digits_free : (k : ℕ) (read t : Text) (v : Spelled) (r : Text) → digits k read t ≡ Some (v, r) → Free (digits k read) t v r
digits_free zero read t v r h = at_once (numbers (value read ∷ [])) t h
digits_free (suc k) read [] v r h = absurd (let g = h in cc)
digits_free (suc k) read (c ∷ t) v r h = by (is_hex c) refl h (λ g. digits_free k (read ++ c ∷ []) t v r g)
  where
    by : (x : Bool) → is_hex c ≡ x → cond x (digits k (read ++ c ∷ []) t) None ≡ Some (v, r) → (digits k (read ++ c ∷ []) t ≡ Some (v, r) → Free (digits k (read ++ c ∷ [])) t v r) →
        Free (digits (suc k) read) (c ∷ t) v r
    by true e h f = onto_free (digits (suc k) read) (digits k (read ++ c ∷ [])) c t v r (λ u. ap (λ b. cond b (digits k (read ++ c ∷ []) u) None) e) (f h)
    by false e h f = absurd (let g = h in cc)

-- up to a mark

-- the same reader by another name
free_same : {A : Type 0} (f g : Text → Option (A × Text)) (t : Text) (v : A) (r : Text) → ((u : Text) → f u ≡ g u) → Free g t v r → Free f t v r
free_same f g t v r same (w, e, here) = (w, e, λ s. same (w ++ s) ∙ here s)

-- up to a mark behind a character
up_to_behind : (m c : ℕ) (t front r : Text) → up_to m (c ∷ t) ≡ Some (front, r) → ((f u : Text) → up_to m t ≡ Some (f, u) → Free (up_to m) t f u) → Free (λ u. up_to m (c ∷ u)) t front r
up_to_behind m c t front r h more = by (c == m) refl h
  where
    by : (x : Bool) → (c == m) ≡ x → cond {A = Option (Text × Text)} x (Some ([], t)) (up_to m t >>= λ p. Some (c ∷ p.0, p.1)) ≡ Some (front, r) → Free (λ u. up_to m (c ∷ u)) t front r
    by true e h =
        free_same {A = Text} (λ u. up_to m (c ∷ u)) (λ u. Some ([], u)) t front r
        (λ u. ap (λ b. cond {A = Option (Text × Text)} b (Some ([], u)) (up_to m u >>= λ p. Some (c ∷ p.0, p.1))) e) (at_once [] t h)
    by false e h =
        free_same {A = Text} (λ u. up_to m (c ∷ u)) (λ u. up_to m u >>= λ p. Some (c ∷ p.0, p.1)) t front r
        (λ u. ap (λ b. cond {A = Option (Text × Text)} b (Some ([], u)) (up_to m u >>= λ p. Some (c ∷ p.0, p.1))) e)
        (then_free (up_to m) (λ f u. Some (c ∷ f, u)) t front r h more (λ f u g. at_once (c ∷ f) u g))

up_to_free : (m : ℕ) (t front r : Text) → up_to m t ≡ Some (front, r) → Free (up_to m) t front r
up_to_free m [] front r h = absurd (let g = h in cc)
up_to_free m (c ∷ t) front r h =
    onto_free {A = Text} (up_to m) (λ u. up_to m (c ∷ u)) c t front r (λ u. refl) (up_to_behind m c t front r h (λ f u g. up_to_free m t f u g))

up_to_brace_is : (t : Text) → up_to_brace t ≡ up_to 0x7D t
up_to_brace_is [] = refl
up_to_brace_is (c ∷ t) = ap (λ o. cond {A = Option (Text × Text)} (c == 0x7D) (Some ([], t)) (o >>= λ p. Some (c ∷ p.0, p.1))) (up_to_brace_is t)

up_to_brace_free : (t front r : Text) → up_to_brace t ≡ Some (front, r) → Free up_to_brace t front r
up_to_brace_free t front r h =
    let (w, e, here) = up_to_free 0x7D t front r (sym (up_to_brace_is t) ∙ h) in
    (w, e, λ s. up_to_brace_is (w ++ s) ∙ here s)

at_least_free : (ns : List ℕ) (t : Text) (v : Spelled) (r : Text) → at_least_one ns t ≡ Some (v, r) → Free (at_least_one ns) t v r
at_least_free [] t v r h = absurd (let g = h in cc)
at_least_free (n ∷ ns) t v r h = at_once (numbers (n ∷ ns)) t h

module _ (white_space : ℕ → Bool) where
  braced_free : (t : Text) (v : Spelled) (r : Text) → braced white_space t ≡ Some (v, r) → Free (braced white_space) t v r
  braced_free t v r h =
      then_free up_to_brace (λ f u. values (words white_space [] f) >>= λ ns. at_least_one ns u) t v r h (up_to_brace_free t)
      (λ f u g. given_free (values (words white_space [] f)) (λ ns u. at_least_one ns u) u v r g (λ ns k. at_least_free ns u v r k))

  -- digits, or numbers in braces, which a brace begins
  braced_or_free : (k : ℕ) (t : Text) (v : Spelled) (r : Text) → braced_or white_space (digits (suc k) [] t) (behind_code 0x7B t) ≡ Some (v, r) →
      Free (λ t. braced_or white_space (digits (suc k) [] t) (behind_code 0x7B t)) t v r
  braced_or_free k [] v r h = absurd (let g = h in cc)
  braced_or_free k (c ∷ t) v r h = by (c == 0x7B) (is_hex c) refl refl h
    where
      by : (x y : Bool) → (c == 0x7B) ≡ x → is_hex c ≡ y → braced_or white_space (cond y (digits k (c ∷ []) t) None) (cond x (Some t) None) ≡ Some (v, r) →
          Free (λ t. braced_or white_space (digits (suc k) [] t) (behind_code 0x7B t)) (c ∷ t) v r
      by true y e f h =
          onto_free (λ t. braced_or white_space (digits (suc k) [] t) (behind_code 0x7B t)) (braced white_space) c t v r
          (λ u. ap (λ b. braced_or white_space (digits (suc k) [] (c ∷ u)) (cond b (Some u) None)) e) (braced_free t v r h)
      by false true e f h =
          onto_free (λ t. braced_or white_space (digits (suc k) [] t) (behind_code 0x7B t)) (digits k (c ∷ [])) c t v r
          (λ u. ap (λ b. braced_or white_space (digits (suc k) [] (c ∷ u)) (cond b (Some u) None)) e ∙ ap (λ b. cond b (digits k (c ∷ []) u) None) f)
          (digits_free k (c ∷ []) t v r h)
      by false false e f h = absurd (let g = h in cc)

  escape_by_free : (l : Letter) (c : ℕ) (t : Text) (v : Spelled) (r : Text) → escape_by white_space l c t ≡ Some (v, r) → Free (escape_by white_space l c) t v r
  escape_by_free four c t v r h = braced_or_free 3 t v r h
  escape_by_free two c t v r h = braced_or_free 1 t v r h
  escape_by_free six c t v r h =
      let b = bound (behind_code 0x30 t) (λ u. (behind_code 0x30 u >>= digits 6 [])) (v, r) h in
      let d = bound (behind_code 0x30 b.0) (digits 6 []) (v, r) b.2 in
      let (w, e, here) = digits_free 6 [] d.0 v r d.2 in (
        0x30 ∷ 0x30 ∷ w,
        behind_is 0x30 t b.0 b.1 ∙ ap (λ z. 0x30 ∷ z) (behind_is 0x30 b.0 d.0 d.1 ∙ ap (λ z. 0x30 ∷ z) e),
        here,
      )
  escape_by_free name c t v r h = at_once named t h
  escape_by_free other c t v r h = at_once (itself (plain c)) t h

  -- An escape, with its first two characters.
  abbrev EscapeFree : Text → Spelled → Text → Type 0
  EscapeFree q v r = (c : ℕ) × (w : Text) × (q ≡ 0x5C ∷ c ∷ (w ++ r)) × ((s : Text) → escape_shape white_space (0x5C ∷ c ∷ (w ++ s)) ≡ Some (v, s))

  escape_free : (q : Text) (v : Spelled) (r : Text) → escape_shape white_space q ≡ Some (v, r) → EscapeFree q v r
  escape_free q v r h = let b = bound (behind_code 0x5C q) (escape_at white_space) (v, r) h in by b.0 (behind_is 0x5C q b.0 b.1) b.2
    where
      by : (t : Text) → q ≡ 0x5C ∷ t → escape_at white_space t ≡ Some (v, r) → EscapeFree q v r
      by [] e h = absurd (let g = h in cc)
      by (c ∷ t) e h = let (w, k, here) = escape_by_free (letter c) c t v r h in (c, w, e ∙ ap (λ z. 0x5C ∷ c ∷ z) k, here)

  -- the pieces of a string, of which there are no more than characters
  abbrev PiecesFree : Text → List Spelled → Text → Type 0
  PiecesFree t v r = (c : ℕ) × (w : Text) × (t ≡ c ∷ (w ++ r)) × ((m : ℕ) (s : Text) → length w ≤ m → pieces_shape white_space (suc m) (c ∷ (w ++ s)) ≡ Some (v, s))

  piece_parts : (x : Spelled) (o : Option (List Spelled × Text)) (v : List Spelled) (r : Text) → with_piece x o ≡ Some (v, r) → (vs : List Spelled) × (o ≡ Some (vs, r)) × (x ∷ vs ≡ v)
  piece_parts x o v r h =
      let b = bound o (λ q. Some (x ∷ q.0, q.1)) (v, r) h in
      let p = some_pair_parts _ _ _ _ b.2 in
      (b.0.0, b.1 ∙ ap (λ z. Some (b.0.0, z)) p.1, p.0)

  at_less : (n m : ℕ) (P : ℕ → Type 0) → suc n ≤ m → ((k : ℕ) → n ≤ k → P (suc k)) → P m
  at_less n zero P h f = absurd (omega (arith, h))
  at_less n (suc k) P h f = f k (omega (arith, h))

  -- the pieces from a character on, by what is known of it
  abbrev PiecesAt : ℕ → Bool → Bool → Bool → ℕ → Text → Option (List Spelled × Text)
  PiecesAt c x y z m u = cond x (Some ([], u)) (cond y (pieces_shape white_space m u) (cond z (escape_shape white_space (c ∷ u) >>= λ p. with_piece p.0 (pieces_shape white_space m p.1)) (with_piece (itself c) (pieces_shape white_space m u))))

  pieces_free : (n : ℕ) (t : Text) (v : List Spelled) (r : Text) → pieces_shape white_space n t ≡ Some (v, r) → PiecesFree t v r
  pieces_free zero t v r h = absurd (let g = h in cc)
  pieces_free (suc n) [] v r h = absurd (let g = h in cc)
  pieces_free (suc n) (c ∷ t) v r h = by (c == 0x7D) (white_space c) (c == 0x5C) refl refl refl h (λ u vs g. pieces_free n u vs r g)
    where
      here : (x y z : Bool) → (c == 0x7D) ≡ x → white_space c ≡ y → (c == 0x5C) ≡ z → (m : ℕ) (u : Text) → pieces_shape white_space (suc m) (c ∷ u) ≡ PiecesAt c x y z m u
      here x y z e f g m u = λ i. PiecesAt c (e i) (f i) (g i) m u

      by : (x y z : Bool) → (c == 0x7D) ≡ x → white_space c ≡ y → (c == 0x5C) ≡ z → PiecesAt c x y z n t ≡ Some (v, r) →
          ((u : Text) (vs : List Spelled) → pieces_shape white_space n u ≡ Some (vs, r) → PiecesFree u vs r) → PiecesFree (c ∷ t) v r
      by true y z e f g h more = let p = some_pair_parts _ _ _ _ h in (c, [], ap (λ u. c ∷ u) p.1, λ m s le. here true y z e f g m s ∙ ap (λ vs. Some (vs, s)) p.0)
      by false true z e f g h more =
          let (d, w, k, there) = more t v h in
          (c, d ∷ w, ap (λ u. c ∷ u) k, λ m s le. here false true z e f g m (d ∷ (w ++ s)) ∙ at_less (length w) m (λ m. pieces_shape white_space m (d ∷ (w ++ s)) ≡ Some (v, s)) le (λ k le. there k s le))
      by false false true e f g h more =
          let b = bound (escape_shape white_space (c ∷ t)) (λ p. with_piece p.0 (pieces_shape white_space n p.1)) (v, r) h in
          let (vs, k, is) = piece_parts b.0.0 (pieces_shape white_space n b.0.1) v r b.2 in
          let (d, w, start, there) = more b.0.1 vs k in
          let (c2, w2, split, escaped) = escape_free (c ∷ t) b.0.0 b.0.1 b.1 in
          let behind : t ≡ c2 ∷ (w2 ++ b.0.1) = (let k : ◌≡◌ {A = Text} (c ∷ t) (0x5C ∷ c2 ∷ (w2 ++ b.0.1)) = split in cc) in (
            c,
            c2 ∷ (w2 ++ d ∷ w),
            ap (λ u. c ∷ u) (behind ∙ ap (λ u. c2 ∷ u) (ap (λ u. w2 ++ u) start ∙ sym (append_assoc w2 (d ∷ w) r))),
            λ m s le.
                let longer = length-append w2 (d ∷ w) in
                let rest : pieces_shape white_space m (d ∷ (w ++ s)) ≡ Some (vs, s) = at_less (length w) m (λ m. pieces_shape white_space m (d ∷ (w ++ s)) ≡ Some (vs, s)) (omega (arith, le, longer)) (λ k le. there k s le) in
                let same : escape_shape white_space (c ∷ c2 ∷ ((w2 ++ d ∷ w) ++ s)) ≡ Some (b.0.0, d ∷ (w ++ s)) =
                ap (λ u. escape_shape white_space (c ∷ c2 ∷ u)) (append_assoc w2 (d ∷ w) s)
                ∙ (ap (λ e. escape_shape white_space (e ∷ c2 ∷ (w2 ++ d ∷ (w ++ s)))) (eqb-true c 0x5C g) ∙ escaped (d ∷ (w ++ s))) in
                here false false true e f g m (c2 ∷ ((w2 ++ d ∷ w) ++ s))
                ∙ (ap (λ o. o >>= λ p. with_piece p.0 (pieces_shape white_space m p.1)) same
                ∙ (ap (with_piece b.0.0) rest ∙ ap (λ vs. Some (vs, s)) is)),
          )
      by false false false e f g h more =
          let (vs, k, is) = piece_parts (itself c) (pieces_shape white_space n t) v r h in
          let (d, w, start, there) = more t vs k in (
            c,
            d ∷ w,
            ap (λ u. c ∷ u) start,
            λ m s le.
                here false false false e f g m (d ∷ (w ++ s))
                ∙ (ap (with_piece (itself c)) (at_less (length w) m (λ m. pieces_shape white_space m (d ∷ (w ++ s)) ≡ Some (vs, s)) le (λ k le. there k s le))
                ∙ ap (λ vs. Some (vs, s)) is),
          )

  -- a string, with its first two characters
  string_free : (q : Text) (v : List Spelled) (r : Text) → string_shape white_space q ≡ Some (v, r) →
      (c : ℕ) × (w : Text) × (q ≡ 0x7B ∷ c ∷ (w ++ r)) × ((s : Text) → string_shape white_space (0x7B ∷ c ∷ (w ++ s)) ≡ Some (v, s))
  string_free q v r h =
      let b = bound (behind_code 0x7B q) (λ u. pieces_shape white_space (length u) u) (v, r) h in
      let (c, w, e, there) = pieces_free (length b.0) b.0 v r b.2 in
      (c, w, behind_is 0x7B q b.0 b.1 ∙ ap (λ u. 0x7B ∷ u) e, λ s. there (length (w ++ s)) s (let n = length-append w s in omega arith))

  -- properties

  closed_free : (form : Form) (n : Query) (t : Text) (v : Query) (r : Text) → closed form n t ≡ Some (v, r) → Free (closed form n) t v r
  closed_free posix n t v r h =
      let b = bound (behind_code 0x5D t) (λ u. Some (n, u)) (v, r) h in
      let (is, rest) = some_pair_parts _ _ _ _ b.2 in
      (0x5D ∷ [], behind_is 0x5D t b.0 b.1 ∙ ap (λ u. 0x5D ∷ u) rest, λ s. ap (λ n. Some (n, s)) is)
  closed_free perl n t v r h = at_once n t h

  asked_free : (form : Form) (negated : Bool) (f u : Text) (v : Query) (r : Text) → (P.query negated [] (without_white white_space f) >>= λ n. closed form n u) ≡ Some (v, r) →
      Free (λ u. P.query negated [] (without_white white_space f) >>= λ n. closed form n u) u v r
  asked_free form negated f u v r h = given_free (P.query negated [] (without_white white_space f)) (λ n u. closed form n u) u v r h (λ n g. closed_free form n u v r g)

  inner_free : (form : Form) (negated : Bool) (t : Text) (v : Query) (r : Text) → inner white_space form negated t ≡ Some (v, r) → Free (inner white_space form negated) t v r
  inner_free form negated t v r h =
      then_free (up_to (mark form)) (λ f u. P.query negated [] (without_white white_space f) >>= λ n. closed form n u) t v r h
      (λ f u g. up_to_free (mark form) t f u g) (λ f u g. asked_free form negated f u v r g)

  inner_behind : (form : Form) (negated : Bool) (c : ℕ) (t : Text) (v : Query) (r : Text) → inner white_space form negated (c ∷ t) ≡ Some (v, r) → Free (λ u. inner white_space form negated (c ∷ u)) t v r
  inner_behind form negated c t v r h =
      then_free (λ u. up_to (mark form) (c ∷ u)) (λ f u. P.query negated [] (without_white white_space f) >>= λ n. closed form n u) t v r h
      (λ f u g. up_to_behind (mark form) c t f u g (λ f u k. up_to_free (mark form) t f u k)) (λ f u g. asked_free form negated f u v r g)

  -- what stands behind `[:`
  abbrev Marked : Text → Option (Query × Text)
  Marked u = caret_or white_space u (behind_code 0x5E u)

  marked_free : (u : Text) (v : Query) (r : Text) → Marked u ≡ Some (v, r) → Free Marked u v r
  marked_free [] v r h = absurd (let g = h in cc)
  marked_free (d ∷ u) v r h = by (d == 0x5E) refl h
    where
      by : (x : Bool) → (d == 0x5E) ≡ x → caret_or white_space (d ∷ u) (cond x (Some u) None) ≡ Some (v, r) → Free Marked (d ∷ u) v r
      by true e h = onto_free Marked (inner white_space posix true) d u v r (λ y. ap (λ b. caret_or white_space (d ∷ y) (cond b (Some y) None)) e) (inner_free posix true u v r h)
      by false e h =
          onto_free Marked (λ y. inner white_space posix false (d ∷ y)) d u v r (λ y. ap (λ b. caret_or white_space (d ∷ y) (cond b (Some y) None)) e) (inner_behind posix false d u v r h)

  -- a property, with its first two characters
  abbrev PropertyFree : Text → Query → Text → Type 0
  PropertyFree q v r = (c : ℕ) × (d : ℕ) × (w : Text) × (q ≡ c ∷ d ∷ (w ++ r)) × ((s : Text) → property_shape white_space (c ∷ d ∷ (w ++ s)) ≡ Some (v, s))

  abbrev PropertyAt : Bool → Bool → Text → Option (Query × Text)
  PropertyAt x y t = cond x (behind_code 0x3A t >>= Marked) (cond y (perl_shape white_space t) None)

  abbrev PerlAt : Bool → Bool → Text → Option (Query × Text)
  PerlAt x y t = cond x (behind_code 0x7B t >>= inner white_space perl false) (cond y (behind_code 0x7B t >>= inner white_space perl true) None)

  perl_free : (negated : Bool) (t : Text) (v : Query) (r : Text) → (behind_code 0x7B t >>= inner white_space perl negated) ≡ Some (v, r) → Free (λ t. behind_code 0x7B t >>= inner white_space perl negated) t v r
  perl_free negated t v r h =
      let b = bound (behind_code 0x7B t) (inner white_space perl negated) (v, r) h in
      let (w, e, here) = inner_free perl negated b.0 v r b.2 in
      (0x7B ∷ w, behind_is 0x7B t b.0 b.1 ∙ ap (λ u. 0x7B ∷ u) e, here)

  property_free : (q : Text) (v : Query) (r : Text) → property_shape white_space q ≡ Some (v, r) → PropertyFree q v r
  property_free [] v r h = absurd (let g = h in cc)
  property_free (c ∷ t) v r h = by (c == 0x5B) (c == 0x5C) refl refl t h
    where
      same : (x y : Bool) → (c == 0x5B) ≡ x → (c == 0x5C) ≡ y → (t : Text) → property_shape white_space (c ∷ t) ≡ PropertyAt x y t
      same x y e f t = λ i. PropertyAt (e i) (f i) t

      perl_by : (x y : Bool) → (c == 0x5B) ≡ false → (c == 0x5C) ≡ true → (d : ℕ) (t : Text) → (d == 0x70) ≡ x → (d == 0x50) ≡ y → PerlAt x y t ≡ Some (v, r) → PropertyFree (c ∷ d ∷ t) v r
      perl_by true y e f d t k l h =
          let (w, is, here) = perl_free false t v r h in
          (c, d, w, ap (λ u. c ∷ d ∷ u) is, λ s. same false true e f (d ∷ (w ++ s)) ∙ ((λ i. PerlAt (k i) (l i) (w ++ s)) ∙ here s))
      perl_by false true e f d t k l h =
          let (w, is, here) = perl_free true t v r h in
          (c, d, w, ap (λ u. c ∷ d ∷ u) is, λ s. same false true e f (d ∷ (w ++ s)) ∙ ((λ i. PerlAt (k i) (l i) (w ++ s)) ∙ here s))
      perl_by false false e f d t k l h = absurd (let g = h in cc)

      by : (x y : Bool) → (c == 0x5B) ≡ x → (c == 0x5C) ≡ y → (t : Text) → PropertyAt x y t ≡ Some (v, r) → PropertyFree (c ∷ t) v r
      by true y e f t h =
          let b = bound (behind_code 0x3A t) Marked (v, r) h in
          let (w, is, here) = marked_free b.0 v r b.2 in
          (c, 0x3A, w, ap (λ u. c ∷ u) (behind_is 0x3A t b.0 b.1 ∙ ap (λ u. 0x3A ∷ u) is), λ s. same true y e f (0x3A ∷ (w ++ s)) ∙ here s)
      by false true e f [] h = absurd (let g = h in cc)
      by false true e f (d ∷ t) h = perl_by (d == 0x70) (d == 0x50) e f d t refl refl h
      by false false e f t h = absurd (let g = h in cc)

-- A unit, with its first two characters.
module _ (l : Language) where
  abbrev pub UnitFree : Bool → Text → Meaning → Text → Type 0
  UnitFree both q m r =
      (c : ℕ) × (d : ℕ) × (w : Text) × (q ≡ c ∷ d ∷ (w ++ r)) × ((s : Text) → UnitRead l.white_space both (resolves l) (lacks l) (c ∷ d ∷ (w ++ s)) m s)

  pub unit_free : (both : Bool) (q : Text) (m : Meaning) (r : Text) → UnitRead l.white_space both (resolves l) (lacks l) q m r → UnitFree both q m r
  unit_free both _ _ r (escape_read {c} {t} {v} n h) =
      let b = escape_by_free l.white_space (letter c) c t v r h.shape in
      (0x5C, c, b.0, ap (λ u. 0x5C ∷ c ∷ u) b.1, λ s. escape_read n (record { shape = b.2 s; fits = h.fits }))
  unit_free both q _ r (string_read {v} h) =
      let (c, w, e, here) = string_free l.white_space q v r h.shape in
      (0x7B, c, w, e, λ s. string_read (record { shape = here s; fits = h.fits }))
  unit_free both q _ r (property_read {v} h) =
      let (c, d, w, e, here) = property_free l.white_space q v r h.shape in
      (c, d, w, e, λ s. property_read (record { shape = here s; fits = h.fits }))

  pub property_read_free : (q : Text) (v : Query) (r : Text) → PropertyRead l.white_space (resolves l) (lacks l) q v r →
      (c : ℕ) × (d : ℕ) × (w : Text) × (q ≡ c ∷ d ∷ (w ++ r)) × ((s : Text) → PropertyRead l.white_space (resolves l) (lacks l) (c ∷ d ∷ (w ++ s)) v s)
  property_read_free q v r h =
      let (c, d, w, e, here) = property_free l.white_space q v r h.shape in
      (c, d, w, e, λ s. record { shape = here s; fits = h.fits })
