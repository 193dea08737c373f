-- What is read has finitely many members, and ends in front of its rest.
use Rattle.std.proofs.Common.{◌≡◌, ℕ, zero, suc, ◌+◌, Bool, true, false, cond, not, ◌&&◌, ◌||◌, nat_le, List, [], ◌∷◌, ◌++◌, length, encode_utf8_all, Option, Some, None, refl, sym, ap, ◌∙◌, subst, arith}
use Rattle.std.specs.Prelude.{◌==◌, is_some}
use Rattle.std.specs.List.{list_all, AllByRecursion}
use Rattle.std.specs.Str.{all_scalars, bytes_eq}
use Rattle.std.proofs.lemmas.Bool.Decides.{nat_tests}
use Rattle.std.proofs.lemmas.List.Elements.{All-append, All-nil, All-cons}
use Rattle.std.proofs.lemmas.List.Folds.{list_any-append}
use Rattle.std.proofs.lemmas.Bool.{or_from, and_left, and_parts, and_from}
use lib.Utf8.{scalar}
use Rattle.uset_grammar.specs.Text.{Text, ◌>>=◌, behind_code, skip}
use Rattle.uset_grammar.specs.Escape.{is_hex, Spelled, named, itself, numbers, codes_of, plain, is_above, is_surrogate, digits, value, braced, braced_or, values, words, up_to_brace, at_least_one, Letter, four, two, six, name, other, letter, escape_by, escape_at, escape_shape}
use Rattle.uset_grammar.specs.EscapeSlips.{in_string, allowed, fits_in}
use Rattle.uset_grammar.specs.BracedString.{with_piece, pieces_shape, StringRead, text_of}
use Rattle.uset_grammar.specs.Property.{Query, PropertyRead}
use Rattle.uset_grammar.specs.Unit.{Meaning, UnitRead, escape_read, string_read, property_read}
use Rattle.uset_grammar.specs.Tree.{Member, point, string, Tree, Steps, in_range, is_text, in_source, negation, leading_hyphen, has, gathers}
use Rattle.uset_grammar.specs.Item.{Item, chars, text, nested, minus, ampersand, dollar, text_item, Opening, tree_of}
use Rattle.uset_grammar.specs.Body.{add_each, Body, empty, hyphen, anchor, range, members, texts, joins, Tail, removes, keeps, goes_on}
use Rattle.uset_grammar.specs.Language.{Value, character, string as string_value, set, item_of, Resolved, Language, found, property_tree, stands_for, resolves, lacks}
use Rattle.uset_grammar.specs.Front.{Sign, open_bracket, close_bracket, hyphen_sign, ampersand_sign, dollar_sign, backslash, open_brace, caret_sign, other as other_sign, sign, Front, nothing, closing, opening, single, of_name, begins_unit, caret, header, named_or, front_of, front}
use Rattle.uset_grammar.specs.Front as Front
use Rattle.uset_grammar.specs.Grammar.{Sort, ItemAt, one_character, variable, unit, ReadsItems, ends, reads, nests, Reads, a_bracket, a_property, a_variable}
use Rattle.uset_grammar.specs.Finite.{IsBounded, IsString, IsFinite, IsFiniteValue, IsFiniteLanguage}
use Rattle.uset_grammar.specs.Laws.{FiniteSets, RestsAreLast}
use Rattle.uset_grammar.proofs.Binding.{bound}
use Rattle.uset_grammar.proofs.FrontRests.{Suffix, suffix, suffix_of, suffix_then, skip_suffix, closing_is, opening_behind, first_bracket_behind, first_variable_behind}
use Rattle.uset_grammar.proofs.UnitRests.{escape_long, long_behind, property_long, item_behind}

-- sets of finitely many members

either : (a b c d : Bool) → (a ≡ true → c ≡ true) → (b ≡ true → d ≡ true) → (a || b) ≡ true → (c || d) ≡ true
either true b c d f g h = ap (λ x. x || d) (f refl)
either false b true d f g h = refl
either false b false d f g h = g h

pub no_members : IsFinite (λ m. false)
no_members = record { code_points = record { bound = 0; beyond = λ c h. refl }; texts = []; are_strings = All-nil IsString; only = λ bytes h. h }

-- a join, by what each side has
joined : (a b : Member → Bool) → IsFinite a → IsFinite b → IsFinite (λ m. a m || b m)
joined a b f g = record {
  code_points = record {
    bound = f.code_points.bound + g.code_points.bound;
    beyond = λ c h. or_from (a (point c)) (b (point c)) (f.code_points.beyond c (omega (arith, h))) (g.code_points.beyond c (omega (arith, h)));
  };
  texts = f.texts ++ g.texts;
  are_strings = All-append IsString f.texts g.texts f.are_strings g.are_strings;
  only = λ bytes h. list_any-append (λ t. bytes_eq (encode_utf8_all t) bytes) f.texts g.texts ∙ either (a (string bytes)) (b (string bytes)) _ _ (f.only bytes) (g.only bytes) h;
}

-- what stays of a finite set
kept : (a b : Member → Bool) → IsFinite a → IsFinite (λ m. a m && b m)
kept a b f = record {
  code_points = record { bound = f.code_points.bound; beyond = λ c h. and_left (a (point c)) (b (point c)) (f.code_points.beyond c h) };
  texts = f.texts;
  are_strings = f.are_strings;
  only = λ bytes h. f.only bytes (and_parts (a (string bytes)) (b (string bytes)) h).0;
}

of_code_points : (a : ℕ → Bool) → IsBounded a → IsFinite (in_source a)
of_code_points a h = record { code_points = h; texts = []; are_strings = All-nil IsString; only = λ bytes k. k }

negated : (a : Member → Bool) → IsFinite (λ m. negation m (a m))
negated a = record {
  code_points = record { bound = 0x11_0000; beyond = λ c h. and_left (nat_le c 0x10_FFFF) (not (a (point c))) (grind (arith, nat_tests, h)) };
  texts = [];
  are_strings = All-nil IsString;
  only = λ bytes k. k;
}

range_within : (start end : ℕ) → IsFinite (in_range start end)
range_within start end = record {
  code_points = record { bound = end + 1; beyond = λ c h. grind (arith, nat_tests, h) };
  texts = [];
  are_strings = All-nil IsString;
  only = λ bytes k. k;
}

one_text : (t : Text) → IsString t → IsFinite (is_text t)
one_text t s = record {
  code_points = record { bound = 0; beyond = λ c h. refl };
  texts = t ∷ [];
  are_strings = All-cons IsString t [] s (All-nil IsString);
  only = λ bytes h. ap (λ b. b || false) h;
}

hyphen_within : (leading : Bool) → IsFinite (leading_hyphen leading)
hyphen_within true = range_within 0x2D 0x2D
hyphen_within false = no_members

or_negated : (n : Bool) (a : Member → Bool) → IsFinite a → IsFinite (λ m. cond n (negation m (a m)) (a m))
or_negated true a f = negated a
or_negated false a f = f

-- items whose sets are finite

abbrev IsFiniteItem : Item → Type 0
IsFiniteItem (chars cs) = Unit {0}
IsFiniteItem (text t) = IsString t
IsFiniteItem (nested tree) = IsFinite (has tree)
IsFiniteItem minus = Unit {0}
IsFiniteItem ampersand = Unit {0}
IsFiniteItem dollar = Unit {0}

each_added : (cs : List ℕ) (steps : Steps) (b : Member → Bool) → IsFinite b → ((d : Member → Bool) → IsFinite d → IsFinite (λ m. gathers steps m (d m))) → IsFinite (λ m. gathers (add_each cs steps) m (b m))
each_added [] steps b f go = go b f
each_added (c ∷ cs) steps b f go = each_added cs steps (λ m. b m || in_range c c m) (joined b (in_range c c) f (range_within c c)) go

mutual
  body_finite : {is : List Item} {steps : Steps} → Body is steps → AllByRecursion IsFiniteItem is → (b : Member → Bool) → IsFinite b → IsFinite (λ m. gathers steps m (b m))
  body_finite empty fine b f = f
  body_finite hyphen fine b f = joined b (in_range 0x2D 0x2D) f (range_within 0x2D 0x2D)
  body_finite anchor fine b f = joined b (in_range 0xFFFF 0xFFFF) f (range_within 0xFFFF 0xFFFF)
  body_finite (range {a} {b = e} order more) (_, (_, (_, fine))) b f = body_finite more fine (λ m. b m || in_range a e m) (joined b (in_range a e) f (range_within a e))
  body_finite (members {cs} {steps} more) (_, fine) b f = each_added cs steps b f (λ d g. body_finite more fine d g)
  body_finite (texts {t} more) (s, fine) b f = body_finite more fine (λ m. b m || is_text t m) (joined b (is_text t) f (one_text t s))
  body_finite (joins {tree} more) (s, fine) b f = tail_finite more fine (λ m. b m || has tree m) (joined b (has tree) f s)

  tail_finite : {is : List Item} {steps : Steps} → Tail is steps → AllByRecursion IsFiniteItem is → (b : Member → Bool) → IsFinite b → IsFinite (λ m. gathers steps m (b m))
  tail_finite (removes {tree} more) (_, (s, fine)) b f = tail_finite more fine (λ m. b m && not (has tree m)) (kept b (λ m. not (has tree m)) f)
  tail_finite (keeps {tree} more) (_, (s, fine)) b f = tail_finite more fine (λ m. b m && has tree m) (kept b (has tree) f)
  tail_finite (goes_on more) fine b f = body_finite more fine b f

bracket_finite : (o : Opening) {is : List Item} {steps : Steps} → Body is steps → AllByRecursion IsFiniteItem is → IsFinite (has (tree_of o steps))
bracket_finite o {is} {steps} body fine =
    or_negated o.negated (λ m. gathers steps m (leading_hyphen o.leading m)) (body_finite body fine (leading_hyphen o.leading) (hyphen_within o.leading))

found_finite : (n : Bool) (o : Option Resolved) → ((r : Resolved) → o ≡ Some r → IsBounded r.source) → IsFinite (has (found n o))
found_finite n None fine = or_negated n (in_source (λ c. false)) (of_code_points (λ c. false) (record { bound = 0; beyond = λ c h. refl }))
found_finite n (Some r) fine = or_negated _ (in_source r.source) (of_code_points r.source (fine r refl))

-- the characters of texts

scalars-append : (a b : Text) → all_scalars a ≡ true → all_scalars b ≡ true → all_scalars (a ++ b) ≡ true
scalars-append [] b h k = k
scalars-append (c ∷ a) b h k = let p = and_parts (scalar c) (all_scalars a) h in and_from (scalar c) (all_scalars (a ++ b)) p.0 (scalars-append a b p.1 k)

scalars-behind : (w r : Text) → all_scalars (w ++ r) ≡ true → all_scalars r ≡ true
scalars-behind [] r h = h
scalars-behind (c ∷ w) r h = scalars-behind w r (and_parts (scalar c) (all_scalars (w ++ r)) h).1

scalars_of_suffix : {t r : Text} → Suffix t r → all_scalars t ≡ true → all_scalars r ≡ true
scalars_of_suffix {t} {r} (suffix w e) h = scalars-behind w r (ap all_scalars (sym e) ∙ h)

-- of what an escape spells only a character that stands for itself is not judged
abbrev IsPlain : Spelled → Type 0
IsPlain named = Unit {0}
IsPlain (itself c) = scalar c ≡ true
IsPlain (numbers ns) = Unit {0}

plain_scalar : (c : ℕ) → scalar c ≡ true → scalar (plain c) ≡ true
unfolding plain
plain_scalar c h = by (c == 0x61) (c == 0x62) (c == 0x74) (c == 0x6E) (c == 0x76) (c == 0x66) (c == 0x72)
  where
    by : (x1 x2 x3 x4 x5 x6 x7 : Bool) → scalar (cond x1 0x07 (cond x2 0x08 (cond x3 0x09 (cond x4 0x0A (cond x5 0x0B (cond x6 0x0C (cond x7 0x0D c))))))) ≡ true
    by true x2 x3 x4 x5 x6 x7 = refl
    by false true x3 x4 x5 x6 x7 = refl
    by false false true x4 x5 x6 x7 = refl
    by false false false true x5 x6 x7 = refl
    by false false false false true x6 x7 = refl
    by false false false false false true x7 = refl
    by false false false false false false true = refl
    by false false false false false false false = h

module _ (white_space : ℕ → Bool) where
  digits_plain : (k : ℕ) (read t : Text) (v : Spelled) (r : Text) → digits k read t ≡ Some (v, r) → IsPlain v
  digits_plain zero read t v r h = subst IsPlain (let e : ◌≡◌ {A = Spelled × Text} (numbers (value read ∷ []), t) (v, r) = cc in ap (λ z. z.0) e) tt
  digits_plain (suc k) read [] v r h = absurd (let g = h in cc)
  digits_plain (suc k) read (c ∷ t) v r h = by (is_hex c) h (λ g. digits_plain k (read ++ c ∷ []) t v r g)
    where
      by : (x : Bool) → cond x (digits k (read ++ c ∷ []) t) None ≡ Some (v, r) → (digits k (read ++ c ∷ []) t ≡ Some (v, r) → IsPlain v) → IsPlain v
      by true h f = f h
      by false h f = absurd (let g = h in cc)

  at_least_plain : (ns : List ℕ) (t : Text) (v : Spelled) (r : Text) → at_least_one ns t ≡ Some (v, r) → IsPlain v
  at_least_plain [] t v r h = absurd (let g = h in cc)
  at_least_plain (n ∷ ns) t v r h = subst IsPlain (let e : ◌≡◌ {A = Spelled × Text} (numbers (n ∷ ns), t) (v, r) = cc in ap (λ z. z.0) e) tt

  braced_plain : (t : Text) (v : Spelled) (r : Text) → braced white_space t ≡ Some (v, r) → IsPlain v
  braced_plain t v r h =
      let b = bound (up_to_brace t) (λ p. (values (words white_space [] p.0) >>= λ ns. at_least_one ns p.1)) (v, r) h in
      let d = bound (values (words white_space [] b.0.0)) (λ ns. at_least_one ns b.0.1) (v, r) b.2 in
      at_least_plain d.0 b.0.1 v r d.2

  braced_or_plain : (k : ℕ) (t : Text) (v : Spelled) (r : Text) (o : Option Text) → braced_or white_space (digits k [] t) o ≡ Some (v, r) → IsPlain v
  braced_or_plain k t v r None h = digits_plain k [] t v r h
  braced_or_plain k t v r (Some u) h = braced_plain u v r h

  escape_by_plain : (l : Letter) (c : ℕ) (t : Text) (v : Spelled) (r : Text) → scalar c ≡ true → escape_by white_space l c t ≡ Some (v, r) → IsPlain v
  escape_by_plain four c t v r s h = braced_or_plain 4 t v r (behind_code 0x7B t) h
  escape_by_plain two c t v r s h = braced_or_plain 2 t v r (behind_code 0x7B t) h
  escape_by_plain six c t v r s h =
      let b = bound (behind_code 0x30 t) (λ u. (behind_code 0x30 u >>= digits 6 [])) (v, r) h in
      let d = bound (behind_code 0x30 b.0) (digits 6 []) (v, r) b.2 in
      digits_plain 6 [] d.0 v r d.2
  escape_by_plain name c t v r s h = subst IsPlain (let e : ◌≡◌ {A = Spelled × Text} (named, t) (v, r) = cc in ap (λ z. z.0) e) tt
  escape_by_plain other c t v r s h = subst IsPlain (let e : ◌≡◌ {A = Spelled × Text} (itself (plain c), t) (v, r) = cc in ap (λ z. z.0) e) (plain_scalar c s)

  escape_at_plain : (t : Text) (v : Spelled) (r : Text) → all_scalars t ≡ true → escape_at white_space t ≡ Some (v, r) → IsPlain v
  escape_at_plain [] v r s h = absurd (let g = h in cc)
  escape_at_plain (c ∷ t) v r s h = escape_by_plain (letter c) c t v r (and_parts (scalar c) (all_scalars t) s).0 h

  escape_plain : (c : ℕ) (t : Text) (v : Spelled) (r : Text) → all_scalars t ≡ true → escape_shape white_space (c ∷ t) ≡ Some (v, r) → IsPlain v
  escape_plain c t v r s h = by (c == 0x5C) h
    where
      by : (x : Bool) → (cond x (Some t) None >>= escape_at white_space) ≡ Some (v, r) → IsPlain v
      by true h = escape_at_plain t v r s h
      by false h = absurd (let g = h in cc)

-- numbers that fit in a string are characters
fits_scalar : (n : ℕ) → fits_in in_string n ≡ true → scalar n ≡ true
unfolding is_above is_surrogate
fits_scalar n h = grind (arith, nat_tests)

fit_scalars : (ns : List ℕ) → list_all (fits_in in_string) ns ≡ true → all_scalars ns ≡ true
fit_scalars [] h = refl
fit_scalars (n ∷ ns) h =
    let p = and_parts (fits_in in_string n) (list_all (fits_in in_string) ns) h in
    and_from (scalar n) (all_scalars ns) (fits_scalar n p.0) (fit_scalars ns p.1)

spelled_scalars : (v : Spelled) → IsPlain v → allowed in_string v ≡ true → all_scalars (codes_of v) ≡ true
spelled_scalars named p h = refl
spelled_scalars (itself c) p h = ap (λ b. b && true) p
spelled_scalars (numbers ns) p h = fit_scalars ns (and_parts (list_all (fits_in in_string) ns) true h).0

module _ (white_space : ℕ → Bool) where
  -- a piece in front of others
  piece_scalars : (s : Spelled) (o : Option (List Spelled × Text)) (v : List Spelled) (r : Text) → with_piece s o ≡ Some (v, r) → IsPlain s → list_all (allowed in_string) v ≡ true →
      ((w : List Spelled) → o ≡ Some (w, r) → list_all (allowed in_string) w ≡ true → all_scalars (text_of w) ≡ true) → all_scalars (text_of v) ≡ true
  piece_scalars s o v r h plain_piece fit go =
      let b = bound o (λ q. Some (s ∷ q.0, q.1)) (v, r) h in
      let e : ◌≡◌ {A = List Spelled × Text} (s ∷ b.0.0, b.0.1) (v, r) = (let g = b.2 in cc) in
      let here : s ∷ b.0.0 ≡ v = ap (λ z. z.0) e in
      let rest : b.0.1 ≡ r = ap (λ z. z.1) e in
      let p = and_parts (allowed in_string s) (list_all (allowed in_string) b.0.0) (ap (list_all (allowed in_string)) here ∙ fit) in
      subst (λ z. all_scalars (text_of z) ≡ true) here
      (scalars-append (codes_of s) (text_of b.0.0) (spelled_scalars s plain_piece p.0) (go b.0.0 (b.1 ∙ ap (λ z. Some (b.0.0, z)) rest) p.1))

  pieces_scalars : (n : ℕ) (t : Text) (v : List Spelled) (r : Text) → pieces_shape white_space n t ≡ Some (v, r) → all_scalars t ≡ true → list_all (allowed in_string) v ≡ true → all_scalars (text_of v) ≡ true
  pieces_scalars zero t v r h s fit = absurd (let g = h in cc)
  pieces_scalars (suc n) [] v r h s fit = absurd (let g = h in cc)
  pieces_scalars (suc n) (c ∷ t) v r h s fit = by (c == 0x7D) (white_space c) (c == 0x5C) h (λ u w k us g. pieces_scalars n u w r k us g)
    where
      by : (x y z : Bool) → cond x (Some ([], t)) (cond y (pieces_shape white_space n t) (cond z (escape_shape white_space (c ∷ t) >>= λ p. with_piece p.0 (pieces_shape white_space n p.1)) (with_piece (itself c) (pieces_shape white_space n t)))) ≡ Some (v, r) →
          ((u : Text) (w : List Spelled) → pieces_shape white_space n u ≡ Some (w, r) → all_scalars u ≡ true → list_all (allowed in_string) w ≡ true → all_scalars (text_of w) ≡ true) → all_scalars (text_of v) ≡ true
      by true y z h f = subst (λ z. all_scalars (text_of z) ≡ true) (let e : ◌≡◌ {A = List Spelled × Text} ([], t) (v, r) = cc in ap (λ z. z.0) e) refl
      by false true z h f = f t v h (and_parts (scalar c) (all_scalars t) s).1 fit
      by false false true h f =
          let b = bound (escape_shape white_space (c ∷ t)) (λ p. with_piece p.0 (pieces_shape white_space n p.1)) (v, r) h in
          let rest = scalars_of_suffix (suffix_of (long_behind white_space (c ∷ t) b.0.1 (escape_long white_space (c ∷ t) b.0.0 b.0.1 b.1))) s in
          piece_scalars b.0.0 (pieces_shape white_space n b.0.1) v r b.2 (escape_plain white_space c t b.0.0 b.0.1 (and_parts (scalar c) (all_scalars t) s).1 b.1) fit (λ w k g. f b.0.1 w k rest g)
      by false false false h f =
          let p = and_parts (scalar c) (all_scalars t) s in
          piece_scalars (itself c) (pieces_shape white_space n t) v r h p.0 fit (λ w k g. f t w k p.1 g)

  string_scalars : (q : Text) (v : List Spelled) (r : Text) → StringRead white_space q v r → all_scalars q ≡ true → all_scalars (text_of v) ≡ true
  string_scalars [] v r h s = absurd (let g = h.shape in cc)
  string_scalars (c ∷ t) v r h s = by (c == 0x7B) h.shape
    where
      by : (x : Bool) → (cond x (Some t) None >>= λ u. pieces_shape white_space (length u) u) ≡ Some (v, r) → all_scalars (text_of v) ≡ true
      by true g = pieces_scalars (length t) t v r g (and_parts (scalar c) (all_scalars t) s).1 h.fits
      by false g = absurd (let e = g in cc)

text_finite : (t : Text) → all_scalars t ≡ true → IsFiniteItem (text_item t)
text_finite [] h = record { characters = refl; not_one = λ e. cc }
text_finite (c ∷ []) h = tt
text_finite (c ∷ d ∷ t) h = record { characters = h; not_one = λ e. cc }

module _ (l : Language) where
  property_suffix : {q r : Text} {v : Query} → PropertyRead l.white_space (resolves l) (lacks l) q v r → Suffix q r
  property_suffix {q} {r} {v} h = suffix_of (long_behind l.white_space q r (property_long l.white_space q v r h.shape))

  items_suffix : {t rest : Text} {is : List Item} → ReadsItems l t is rest → Suffix t rest
  items_suffix {t} {rest} (ends h) = suffix_then (skip_suffix l.white_space t) (suffix (0x5D ∷ []) (closing_is l (skip l.white_space t) rest h))
  items_suffix {t} (reads item more) = suffix_then (skip_suffix l.white_space t) (suffix_then (suffix_of (item_behind l item)) (items_suffix more))
  items_suffix {t} (nests {inner} {o} h inside body more) =
      suffix_then (skip_suffix l.white_space t)
      (suffix_then (suffix_of (opening_behind l (skip l.white_space t) inner o h)) (suffix_then (items_suffix inside) (items_suffix more)))

  reads_suffix : {t rest : Text} {tree : Tree} → Reads l t tree rest → Suffix t rest
  reads_suffix {t} (a_bracket {inner} {o} h items body) = suffix_then (suffix_of (first_bracket_behind l t inner o h)) (items_suffix items)
  reads_suffix (a_property h k) = property_suffix k
  reads_suffix {t} {rest} (a_variable {n} h k) = suffix_of (first_variable_behind l t n rest h)

module _ (l : Language) (fine : IsFiniteLanguage l) where
  value_finite : (v : Value) → IsFiniteValue v → IsFiniteItem (item_of v)
  value_finite (character c) h = tt
  value_finite (string_value t) h = h
  value_finite (set ms) h = h

  query_finite : (q : Query) → IsFinite (has (property_tree l q))
  query_finite q = found_finite q.negated (l.resolve q.key q.value) (λ r e. fine.properties q.key q.value r e)

  unit_finite : {both : Bool} {q r : Text} {m : Meaning} → UnitRead l.white_space both (resolves l) (lacks l) q m r → all_scalars q ≡ true → IsFiniteItem (stands_for l m)
  unit_finite (escape_read n h) s = tt
  unit_finite {q} {r} (string_read {v} h) s = text_finite (text_of v) (string_scalars l.white_space q v r h s)
  unit_finite (property_read {v} h) s = query_finite v

  -- an item of one character is no string and no set
  abbrev SingleIsFinite : Front → Type 0
  SingleIsFinite (single i r) = IsFiniteItem i
  SingleIsFinite nothing = Unit {0}
  SingleIsFinite (closing r) = Unit {0}
  SingleIsFinite (opening o r) = Unit {0}
  SingleIsFinite (of_name n r) = Unit {0}
  SingleIsFinite begins_unit = Unit {0}
  SingleIsFinite caret = Unit {0}

  front_finite : (c : ℕ) (t : Text) (s : Sign) → SingleIsFinite (front_of l s c t)
  front_finite c t open_bracket = by (is_some (behind_code 0x3A t))
    where
      by : (x : Bool) → SingleIsFinite (cond x begins_unit (opening (header l t).0 (header l t).1))
      by true = tt
      by false = tt
  front_finite c t close_bracket = tt
  front_finite c t hyphen_sign = tt
  front_finite c t ampersand_sign = tt
  front_finite c t dollar_sign = by (Front.name l t)
    where
      by : (o : Option (Text × Text)) → SingleIsFinite (named_or l t o)
      by None = tt
      by (Some n) = tt
  front_finite c t backslash = tt
  front_finite c t open_brace = tt
  front_finite c t caret_sign = tt
  front_finite c t other_sign = tt

  single_finite : (q r : Text) (i : Item) → front l q ≡ single i r → IsFiniteItem i
  single_finite [] r i h = absurd (let g = h in cc)
  single_finite (c ∷ t) r i h = subst SingleIsFinite h (front_finite c t (sign c))

  item_finite : {q r : Text} {s : Sort} {i : Item} → ItemAt l q s i r → all_scalars q ≡ true → IsFiniteItem i
  item_finite {q} {r} (one_character {i} h) s = single_finite q r i h
  item_finite (variable {n} {v} h k) s = value_finite v (fine.variables n v k)
  item_finite (unit h k) s = unit_finite k s

  items_finite : {t rest : Text} {is : List Item} → ReadsItems l t is rest → all_scalars t ≡ true → AllByRecursion IsFiniteItem is
  items_finite (ends h) s = tt
  items_finite {t} (reads {next} item more) s =
      let here = scalars_of_suffix (skip_suffix l.white_space t) s in
      (item_finite item here, items_finite more (scalars_of_suffix (suffix_of (item_behind l item)) here))
  items_finite {t} (nests {inner} {o} h inside body more) s =
      let here = scalars_of_suffix (skip_suffix l.white_space t) s in
      let behind_bracket = scalars_of_suffix (suffix_of (opening_behind l (skip l.white_space t) inner o h)) here in
      (bracket_finite o body (items_finite inside behind_bracket), items_finite more (scalars_of_suffix (items_suffix l inside) behind_bracket))

  reads_finite : {t rest : Text} {tree : Tree} → Reads l t tree rest → all_scalars t ≡ true → IsFinite (has tree)
  reads_finite {t} (a_bracket {inner} {o} h items body) s = bracket_finite o body (items_finite items (scalars_of_suffix (suffix_of (first_bracket_behind l t inner o h)) s))
  reads_finite (a_property {q} h k) s = query_finite q
  reads_finite (a_variable {n} {members} h k) s = fine.variables n (set members) k

front_of_suffix : {t r : Text} → Suffix t r → (w : Text) × (t ≡ w ++ r)
front_of_suffix (suffix w e) = (w, e)

pub finite_sets_law : FiniteSets
finite_sets_law = λ l fine source tree rest characters read. reads_finite l fine read characters

pub rests_are_last : RestsAreLast
rests_are_last = λ l source tree rest read. front_of_suffix (reads_suffix l read)
