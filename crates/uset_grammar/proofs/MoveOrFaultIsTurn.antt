-- Each move and each fault is what the turn does there.
use Rattle.std.proofs.Common.{◌≡◌, ◌↔◌, ℕ, Bool, true, false, cond, List, [], ◌∷◌, ◌++◌, Option, Some, None, refl, sym, ap, ◌∙◌}
use Rattle.uset_grammar.specs.Text.{Text, skip}
use Rattle.uset_grammar.specs.Tree.{Steps}
use Rattle.uset_grammar.specs.Item.{Item, chars, text, nested, minus, ampersand, dollar, is_several, tree_of}
use Rattle.uset_grammar.specs.Body.{Body, Fits}
use Rattle.uset_grammar.specs.Outcome.{Kind, unexpected, unknown_variable, unexpected_variable, eof, Outcome, got, faulty, ended}
use Rattle.uset_grammar.specs.Unit.{Meaning, UnitRead}
use Rattle.uset_grammar.specs.Language.{Value, character, string, set, item_of, is_set, Language, stands_for, resolves, lacks}
use Rattle.uset_grammar.specs.Front.{Front, closing, opening, single, of_name, begins_unit, caret, front, First, too_short, stray, bare, of_variable, of_bracket, of_property, first}
use Rattle.uset_grammar.specs.Grammar.{Sort, of_one_character, of_variable_name, of_unit, ItemAt, one_character, variable, unit}
use Rattle.uset_grammar.specs.Reached.{OpenBracket, is_short, is_last_property, Moves, opens_first, opens, takes, closes}
use Rattle.uset_grammar.specs.Fault.{as_character, FaultAt, empty, no_set, no_name, unbound_first, no_set_variable, property_fails, property_ends, short, a_caret, unbound, unfit_variable, reversed, unfit, unfit_close, unfit_nested, last_property, last_nested, unit_fails, unit_ends}
use Rattle.uset_grammar.proofs.TextBefore.{at_is, last_is}
use Rattle.uset_grammar.specs.Turn.{UnitReader, rejected, goes, stops, two, greatest, reversed_code, head, at, last_at, refusal, judged, taken, named_turn, unit_turn, nested_turn, closed, front_turn, variable_turn, property_turn, first_turn, turn}
use Rattle.uset_grammar.specs.Arranging.{fit, arrange}
use Rattle.uset_grammar.proofs.BodyMachine.{fits_fit, arrange_body, body_arrange}
use Rattle.uset_grammar.proofs.FrontRests.{named_long, closing_long}
use Rattle.uset_grammar.proofs.UnitRests.{likewise}
use Rattle.uset_grammar.proofs.TurnIsMoveOrFault.{no_fit, several_fit, said, code_of, no_code}

module _ (l : Language) (units : UnitReader l) (source : Text) where
  at_top : (t : Text) (f : First) → first l t ≡ f → turn l units source [] t ≡ first_turn l units source t f
  at_top t f e = ap (λ z. first_turn l units source t z) e

  module _ (b : OpenBracket) (bs : List OpenBracket) (t : Text) where
    abbrev q : Text
    q = skip l.white_space t

    in_bracket : (f : Front) → is_short q ≡ false → front l q ≡ f → turn l units source (b ∷ bs) t ≡ front_turn l units source b bs q f
    in_bracket f long e = ap (λ x. cond x (stops (rejected eof None)) (front_turn l units source b bs q (front l q))) long ∙ ap (λ z. front_turn l units source b bs q z) e

    there : (m : Meaning) (r : Text) → is_short q ≡ false → front l q ≡ begins_unit → UnitRead l.white_space true (resolves l) (lacks l) q m r → (is_several (stands_for l m) ≡ true → fit (b.items ++ stands_for l m ∷ []) ≡ true) →
        units.unit_at (fit (b.items ++ two ∷ [])) q ≡ got m r
    there m r long f e excused = by (fit (b.items ++ two ∷ [])) refl (is_several (stands_for l m)) refl
      where
        by : (x : Bool) → fit (b.items ++ two ∷ []) ≡ x → (y : Bool) → is_several (stands_for l m) ≡ y → units.unit_at (fit (b.items ++ two ∷ [])) q ≡ got m r
        by true k y n = ap (λ z. units.unit_at z q) k ∙ ((units.units true q f long).reads m r).1 e
        by false k false n = ap (λ z. units.unit_at z q) k ∙ ((units.units false q f long).reads m r).1 (likewise l q m r e n)
        by false k true n = absurd (let g : false ≡ true = sym k ∙ (sym (several_fit b.items (stands_for l m) n) ∙ excused n) in cc)

    item_turn : (s : Sort) (i : Item) (r : Text) → is_short q ≡ false → ItemAt l q s i r → (is_several i ≡ true → fit (b.items ++ i ∷ []) ≡ true) → turn l units source (b ∷ bs) t ≡ taken l units source b bs q s i r
    item_turn _ i r long (one_character f) excused = in_bracket (single i r) long f
    item_turn _ _ r long (variable {n} {v} f e) excused = in_bracket (of_name n r) long f ∙ ap (λ z. named_turn l units source b bs q r z) e
    item_turn _ _ r long (unit {m} f e) excused = in_bracket begins_unit long f ∙ ap (λ z. unit_turn l units source b bs q z) (there m r long f e excused)

    taken_judged : (s : Sort) (i : Item) (r : Text) (x : Bool) → is_last_property s i r ≡ false → fit (b.items ++ i ∷ []) ≡ x → taken l units source b bs q s i r ≡ judged l units source b bs q s i r x
    taken_judged s i r x e k =
        ap (λ z. cond z (stops (rejected eof None)) (judged l units source b bs q s i r (fit (b.items ++ i ∷ [])))) e ∙ ap (λ z. judged l units source b bs q s i r z) k

    refused_turn : (s : Sort) (i : Item) (r : Text) (o : Option ℕ) → is_short q ≡ false → ItemAt l q s i r → is_several i ≡ false → is_last_property s i r ≡ false → (Fits (b.items ++ i ∷ []) → ⊥) →
        reversed_code i (fit (b.items ++ greatest ∷ [])) ≡ o → turn l units source (b ∷ bs) t ≡ stops (refusal l units source s q r o)
    refused_turn s i r o long at_q one cut unfits e =
        item_turn s i r long at_q (λ k. absurd (let g : false ≡ true = sym one ∙ k in cc))
        ∙ (taken_judged s i r false cut (no_fit (b.items ++ i ∷ []) unfits) ∙ ap (λ z. stops (refusal l units source s q r z)) e)

    single_several : (i : Item) (c : ℕ) → i ≡ chars (c ∷ []) → is_several i ≡ false
    single_several i c e = ap is_several e

    single_last : (s : Sort) (i : Item) (r : Text) (c : ℕ) → i ≡ chars (c ∷ []) → is_last_property s i r ≡ false
    single_last of_unit i r c e = ap (λ z. is_last_property of_unit z r) e
    single_last of_one_character i r c e = refl
    single_last of_variable_name i r c e = refl

    variable_item : (i : Item) (r : Text) → ItemAt l q of_variable_name i r → (is_short q ≡ false) × (is_several i ≡ false)
    variable_item _ r (variable {n} {v} f e) = (named_long l q n r f, by v)
      where
        by : (v : Value) → is_several (item_of v) ≡ false
        by (character c) = refl
        by (string u) = refl
        by (set u) = refl

    last_turn : (s : Sort) (i : Item) (r : Text) → ItemAt l q s i r → is_last_property s i r ≡ true → turn l units source (b ∷ bs) t ≡ stops (rejected eof None)
    last_turn s i r at_q e = by (is_short q) refl
      where
        one : (s : Sort) (i : Item) (r : Text) → is_last_property s i r ≡ true → is_several i ≡ false
        one of_unit (nested u) r e = refl
        one of_unit (chars cs) r e = absurd (let g = e in cc)
        one of_unit (text u) r e = absurd (let g = e in cc)
        one of_unit minus r e = absurd (let g = e in cc)
        one of_unit ampersand r e = absurd (let g = e in cc)
        one of_unit dollar r e = absurd (let g = e in cc)
        one of_one_character i r e = absurd (let g = e in cc)
        one of_variable_name i r e = absurd (let g = e in cc)

        by : (x : Bool) → is_short q ≡ x → turn l units source (b ∷ bs) t ≡ stops (rejected eof None)
        by true k = ap (λ z. cond z (stops (rejected eof None)) (front_turn l units source b bs q (front l q))) k
        by false k = item_turn s i r k at_q (λ m. absurd (let g : false ≡ true = sym (one s i r e) ∙ m in cc))
            ∙ ap (λ z. cond z (stops (rejected eof None)) (judged l units source b bs q s i r (fit (b.items ++ i ∷ [])))) e

    close_turn : (r : Text) (o : Option Steps) → front l q ≡ closing r → arrange b.items ≡ o → turn l units source (b ∷ bs) t ≡ closed l units source b bs q r o
    close_turn r o f e = in_bracket (closing r) (closing_long l q r f) f ∙ ap (λ z. closed l units source b bs q r z) e

    arranges_none : ((steps : Steps) → Body b.items steps → ⊥) → arrange b.items ≡ None
    arranges_none n = by (arrange b.items) refl
      where
        by : (o : Option Steps) → arrange b.items ≡ o → arrange b.items ≡ None
        by None e = e
        by (Some steps) e = absurd (n steps (arrange_body b.items steps e))

    unit_turned : (x : Bool) (o : Outcome Meaning) → is_short q ≡ false → front l q ≡ begins_unit → ((x ≡ true) ↔ Fits (b.items ++ two ∷ [])) → units.unit_at x q ≡ o → turn l units source (b ∷ bs) t ≡ unit_turn l units source b bs q o
    unit_turned x o long f both e =
        in_bracket begins_unit long f ∙ ap (λ z. unit_turn l units source b bs q z) (ap (λ z. units.unit_at z q) (said (b.items ++ two ∷ []) x both) ∙ e)

  -- with the place
  placed : (k : Kind) (x y : Text) → x ≡ y → stops (rejected k (Some x)) ≡ stops (rejected k (Some y))
  placed k x y e = ap (λ z. stops (rejected k (Some z))) e

  pub moves_turn : (bs cs : List OpenBracket) (t u : Text) → Moves l source bs t cs u → turn l units source bs t ≡ goes cs u
  moves_turn _ _ t u (opens_first {before} {o} f here) =
      at_top t (of_bracket o u) f ∙ ap (λ z. goes (record { before = z; header = o; items = [] } ∷ []) u) (at_is source before t here)
  moves_turn _ _ t u (opens {before} {o} {b} {bs} long f here) =
      in_bracket b bs t (opening o u) long f ∙ ap (λ z. goes (record { before = z; header = o; items = [] } ∷ b ∷ bs) u) (at_is source before (skip l.white_space t) here)
  moves_turn _ _ t u (takes {s} {i} {b} {bs} long at_q fits cut) =
      item_turn b bs t s i u long at_q (λ m. fits_fit (b.items ++ i ∷ []) fits) ∙ taken_judged b bs t s i u true cut (fits_fit (b.items ++ i ∷ []) fits)
  moves_turn _ _ t _ (closes {next} {c} {b} {outer} {bs} {steps} f body fits) =
      close_turn b (outer ∷ bs) t (c ∷ next) (Some steps) f (body_arrange b.items steps body)
      ∙ ap (λ z. nested_turn l units source b outer bs (c ∷ next) (nested (tree_of b.header steps)) z) (fits_fit (outer.items ++ nested (tree_of b.header steps) ∷ []) fits)

  pub fails_turn : (bs : List OpenBracket) (t : Text) (k : Kind) (p : Option Text) → FaultAt l source bs t k p → turn l units source bs t ≡ stops (rejected k p)
  fails_turn _ t _ _ (empty f) = at_top t too_short f
  fails_turn _ t _ _ (no_set {p} {c} f here) = at_top t (stray c) f ∙ placed (unexpected c) _ p (at_is source p t here)
  fails_turn _ t _ _ (no_name {p} f here) = at_top t bare f ∙ placed (unexpected 0x24) _ p (at_is source p t here)
  fails_turn _ t _ _ (unbound_first {n} {r} {p} f e last) =
      at_top t (of_variable n r) f ∙ (ap (λ z. variable_turn l units source r z) e ∙ placed unknown_variable _ p (last_is source p r last))
  fails_turn _ t _ _ (no_set_variable {n} {r} {p} {v} f e none last) =
      at_top t (of_variable n r) f ∙ (ap (λ z. variable_turn l units source r z) e ∙ (by v none ∙ placed unexpected_variable _ p (last_is source p r last)))
    where
      by : (v : Value) → is_set v ≡ false → variable_turn l units source r (Some v) ≡ stops (rejected unexpected_variable (Some (last_at l units source r)))
      by (character c) h = refl
      by (string u) h = refl
      by (set u) h = absurd (let g = h in cc)
  fails_turn _ t _ _ (property_fails {w} p {k} f e here) =
      at_top t of_property f ∙ (ap (λ z. property_turn l units source t z) (((units.properties t f).faults k w).1 e) ∙ placed k _ (p ++ w) (ap (λ z. z ++ w) (at_is source p t here)))
  fails_turn _ t _ _ (property_ends f e) = at_top t of_property f ∙ ap (λ z. property_turn l units source t z) ((units.properties t f).ends.1 e)
  fails_turn _ t _ _ (short {b} {bs} e) = ap (λ z. cond z (stops (rejected eof None)) (front_turn l units source b bs (skip l.white_space t) (front l (skip l.white_space t)))) e
  fails_turn _ t _ _ (a_caret {p} {b} {bs} long f here) = in_bracket b bs t caret long f ∙ placed (unexpected 0x5E) _ p (at_is source p (skip l.white_space t) here)
  fails_turn _ t _ _ (unbound {n} {r} {p} {b} {bs} f e last) =
      in_bracket b bs t (of_name n r) (named_long l (skip l.white_space t) n r f) f
      ∙ (ap (λ z. named_turn l units source b bs (skip l.white_space t) r z) e ∙ placed unknown_variable _ p (last_is source p r last))
  fails_turn _ t _ _ (unfit_variable {r} {p} {i} {b} {bs} at_q unfits none last) =
      let is = variable_item b bs t i r at_q in
      refused_turn b bs t of_variable_name i r None is.0 at_q is.1 refl unfits (no_code b.items i none) ∙ placed unexpected_variable _ p (last_is source p r last)
  fails_turn _ t _ _ (reversed {r} {p} {s} {i} {b} {bs} long at_q unfits e last) =
      refused_turn b bs t s i r (Some e.code) long at_q (single_several b bs t i e.code e.is) (single_last b bs t s i r e.code e.is) unfits (code_of b.items i e)
      ∙ placed (unexpected (as_character e.code)) _ p (last_is source p r last)
  fails_turn _ t _ _ (unfit {u} {r} {p} {c} {s} {i} {b} {bs} long at_q no_variable cut one unfits none is here) =
      refused_turn b bs t s i r None long at_q one cut unfits (no_code b.items i none) ∙ by s no_variable
    where
      q : Text
      q = skip l.white_space t

      place : rejected (unexpected (head (skip l.white_space t))) (Some (at l units source (skip l.white_space t))) ≡ rejected (unexpected c) (Some p)
      place = ap (λ z. rejected (unexpected (head z)) (Some (at l units source z))) is ∙ ap (λ z. rejected (unexpected c) (Some z)) (at_is source p (c ∷ u) here)

      by : (s : Sort) → (s ≡ of_variable_name → ⊥) → stops (refusal l units source s (skip l.white_space t) r None) ≡ stops (rejected (unexpected c) (Some p))
      by of_variable_name h = absurd (h refl)
      by of_one_character h = ap (λ z. stops z) place
      by of_unit h = ap (λ z. stops z) place
  fails_turn _ t _ _ (unfit_close {r} {p} {b} {bs} f none here) =
      close_turn b bs t r None f (arranges_none b bs t none) ∙ placed (unexpected 0x5D) _ p (at_is source p (skip l.white_space t) here)
  fails_turn _ t _ _ (unfit_nested {r} {c} {b} {outer} {bs} {steps} f body unfits) =
      close_turn b (outer ∷ bs) t (c ∷ r) (Some steps) f (body_arrange b.items steps body)
      ∙ ap (λ z. nested_turn l units source b outer bs (c ∷ r) (nested (tree_of b.header steps)) z) (no_fit (outer.items ++ nested (tree_of b.header steps) ∷ []) unfits)
  fails_turn _ t _ _ (last_property {r} {s} {i} {b} {bs} at_q e) = last_turn b bs t s i r at_q e
  fails_turn _ t _ _ (last_nested {b} {outer} {bs} {steps} f body) = close_turn b (outer ∷ bs) t [] (Some steps) f (body_arrange b.items steps body)
  fails_turn _ t _ _ (unit_fails {w} p {both} {k} {b} {bs} long f says e here) =
      unit_turned b bs t both (faulty k w) long f says (((units.units both (skip l.white_space t) f long).faults k w).1 e) ∙ placed k _ (p ++ w) (ap (λ z. z ++ w) (at_is source p (skip l.white_space t) here))
  fails_turn _ t _ _ (unit_ends {both} {b} {bs} long f says e) = unit_turned b bs t both ended long f says ((units.units both (skip l.white_space t) f long).ends.1 e)
