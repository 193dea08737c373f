-- What a turn does is a move, a fault or a reading.
use Rattle.std.proofs.Common.{◌≡◌, ◌↔◌, ℕ, ◌-◌, suc, length, take, Bool, true, false, cond, List, [], ◌∷◌, ◌++◌, Option, Some, None, refl, sym, ap, ◌∙◌, subst, append_assoc}
use Rattle.uset_grammar.specs.Text.{Text, skip, Ends}
use Rattle.uset_grammar.specs.Tree.{Steps}
use Rattle.uset_grammar.specs.Item.{Item, chars, text, nested, minus, ampersand, dollar, is_several, tree_of}
use Rattle.uset_grammar.specs.Body.{Body, Fits}
use Rattle.uset_grammar.specs.Outcome.{eof, Outcome, got, faulty, ended}
use Rattle.uset_grammar.specs.Property.{Query}
use Rattle.uset_grammar.specs.Unit.{Meaning}
use Rattle.uset_grammar.specs.Language.{Value, character, string, set, item_of, Language, stands_for}
use Rattle.uset_grammar.specs.Front.{Front, nothing, closing, opening, single, of_name, begins_unit, caret, front, First, too_short, stray, bare, of_variable, of_bracket, of_property, first}
use Rattle.uset_grammar.specs.Grammar.{Sort, of_one_character, of_variable_name, of_unit, ItemAt, one_character, variable, unit}
use Rattle.uset_grammar.specs.Reached.{OpenBracket, is_short, is_last_property, opens_first, opens, takes, closes}
use Rattle.uset_grammar.specs.Fault.{Reversed, empty, no_set, no_name, unbound_first, no_set_variable, property_fails, property_ends, short, a_caret, unbound, unfit_variable, reversed, unfit, unfit_close, unfit_nested, last_property, last_nested, unit_fails, unit_ends}
use Rattle.uset_grammar.proofs.TextBefore.{at_is, last_is}
use Rattle.uset_grammar.specs.Turn.{UnitReader, rejected, Turn, stops, two, greatest, reversed_code, head, at, refusal, judged, taken, named_turn, unit_turn, nested_turn, closed, front_turn, variable_turn, property_turn, first_turn, turn, variable_read, property_read, bracket_read, Means}
use Rattle.uset_grammar.specs.Arranging.{fit, arrange}
use Rattle.uset_grammar.proofs.BodyMachine.{fits_fit, fit_fits, arrange_body, body_arrange, fit_several}
use Rattle.uset_grammar.proofs.FrontRests.{Behind, Suffix, suffix, skip_suffix, no_nothing, single_one, named_behind, named_long, first_variable_behind}
use Rattle.uset_grammar.proofs.UnitRests.{item_behind, freely, not_several}

-- WHAT FITS
pub not_fit : (is : List Item) → fit is ≡ false → Fits is → ⊥
not_fit is e h = let g : false ≡ true = sym e ∙ fits_fit is h in cc

pub no_fit : (is : List Item) → (Fits is → ⊥) → fit is ≡ false
no_fit is n = by (fit is) refl
  where
    by : (x : Bool) → fit is ≡ x → fit is ≡ false
    by true e = absurd (n (fit_fits is e))
    by false e = e

pub several_fit : (is : List Item) (i : Item) → is_several i ≡ true → fit (is ++ i ∷ []) ≡ fit (is ++ two ∷ [])
several_fit is (chars []) e = absurd (let g = e in cc)
several_fit is (chars (c ∷ [])) e = absurd (let g = e in cc)
several_fit is (chars (c ∷ d ∷ cs)) e = fit_several is c d 0 0 cs []
several_fit is (text t) e = absurd (let g = e in cc)
several_fit is (nested t) e = absurd (let g = e in cc)
several_fit is minus e = absurd (let g = e in cc)
several_fit is ampersand e = absurd (let g = e in cc)
several_fit is dollar e = absurd (let g = e in cc)

pub says : (is : List Item) → (fit is ≡ true) ↔ Fits is
says is = (fit_fits is, fits_fit is)

pub said : (is : List Item) (x : Bool) → ((x ≡ true) ↔ Fits is) → fit is ≡ x
said is true e = fits_fit is (e.0 refl)
said is false e = no_fit is (λ h. (let g : false ≡ true = e.1 h in cc))

-- A REVERSED RANGE
pub code_is : (i : Item) (over : Bool) (c : ℕ) → reversed_code i over ≡ Some c → (i ≡ chars (c ∷ [])) × (over ≡ true)
code_is (chars []) over c e = absurd (let g = e in cc)
code_is (chars (d ∷ [])) true c e = (let g : d ≡ c = cc in ap (λ z. chars (z ∷ [])) g, refl)
code_is (chars (d ∷ [])) false c e = absurd (let g : None ≡ Some c = e in cc)
code_is (chars (d ∷ f ∷ cs)) over c e = absurd (let g = e in cc)
code_is (text t) over c e = absurd (let g = e in cc)
code_is (nested t) over c e = absurd (let g = e in cc)
code_is minus over c e = absurd (let g = e in cc)
code_is ampersand over c e = absurd (let g = e in cc)
code_is dollar over c e = absurd (let g = e in cc)

pub code_of : (is : List Item) (i : Item) (e : Reversed is i) → reversed_code i (fit (is ++ greatest ∷ [])) ≡ Some e.code
code_of is i e = ap (λ x. reversed_code i x) (fits_fit (is ++ greatest ∷ []) e.fits_greatest) ∙ ap (λ z. reversed_code z true) e.is

pub no_code : (is : List Item) (i : Item) → (Reversed is i → ⊥) → reversed_code i (fit (is ++ greatest ∷ [])) ≡ None
no_code is i n = by (fit (is ++ greatest ∷ [])) refl (reversed_code i (fit (is ++ greatest ∷ []))) refl
  where
    by : (x : Bool) → fit (is ++ greatest ∷ []) ≡ x → (o : Option ℕ) → reversed_code i (fit (is ++ greatest ∷ [])) ≡ o → reversed_code i (fit (is ++ greatest ∷ [])) ≡ None
    by x e None h = h
    by x e (Some c) h = absurd (let k = code_is i (fit (is ++ greatest ∷ [])) c h in n (record { code = c; is = k.0; fits_greatest = fit_fits (is ++ greatest ∷ []) k.1 }))

tail : Text → Text
tail [] = []
tail (c ∷ t) = t

head_tail : (q r : Text) → Behind q r → q ≡ head q ∷ tail q
unfolding tail
head_tail [] r ([], e) = absurd (let g = e.parts in cc)
head_tail [] r (c ∷ f, e) = absurd (let g = e.parts in cc)
head_tail (c ∷ t) r h = refl

pub at_parts : (source p q : Text) → source ≡ p ++ q → source ≡ take (length source - length q) source ++ q
at_parts source p q e = e ∙ ap (λ z. z ++ q) (sym (at_is source p q e))

behind_source : (source p q r : Text) → source ≡ p ++ q → Behind q r → (f : Text) × Ends source f r
behind_source source p q r e (f, k) = (p ++ f, record { last = k.last; parts = e ∙ (ap (λ z. p ++ z) k.parts ∙ sym (append_assoc p f (k.last ∷ r))) })

pub last_parts : (source p q r : Text) → source ≡ p ++ q → Behind q r → Ends source (take (length source - suc (length r)) source) r
last_parts source p q r e h = let k = behind_source source p q r e h in subst (λ z. Ends source z r) (sym (last_is source k.0 r k.1)) k.1

module _ (l : Language) (units : UnitReader l) (source : Text) where
  module _ (b : OpenBracket) (bs : List OpenBracket) (t : Text) (p : Text) (here : source ≡ p ++ skip l.white_space t) where
    abbrev q : Text
    q = skip l.white_space t

    abbrev Does : Turn → Type 0
    Does x = Means l units source (b ∷ bs) t x

    means_refused : (s : Sort) (i : Item) (r : Text) → is_short q ≡ false → ItemAt l q s i r → is_last_property s i r ≡ false → is_several i ≡ false → (Fits (b.items ++ i ∷ []) → ⊥) →
        (o : Option ℕ) → reversed_code i (fit (b.items ++ greatest ∷ [])) ≡ o → Does (stops (refusal l units source s q r o))
    means_refused s i r long at_q cut several unfits (Some c) e =
        let k = code_is i (fit (b.items ++ greatest ∷ [])) c e in
        reversed long at_q unfits (record { code = c; is = k.0; fits_greatest = fit_fits (b.items ++ greatest ∷ []) k.1 }) (last_parts source p q r here (item_behind l at_q))
    means_refused of_variable_name i r long at_q cut several unfits None e =
        unfit_variable at_q unfits (λ h. (let g : Some h.code ≡ None = sym (code_of b.items i h) ∙ e in cc)) (last_parts source p q r here (item_behind l at_q))
    means_refused of_one_character i r long at_q cut several unfits None e =
        let is = head_tail q r (item_behind l at_q) in
        unfit long at_q (λ h. cc) cut several unfits (λ h. (let g : Some h.code ≡ None = sym (code_of b.items i h) ∙ e in cc)) is
        (at_parts source p q here ∙ ap (λ z. at l units source q ++ z) is)
    means_refused of_unit i r long at_q cut several unfits None e =
        let is = head_tail q r (item_behind l at_q) in
        unfit long at_q (λ h. cc) cut several unfits (λ h. (let g : Some h.code ≡ None = sym (code_of b.items i h) ∙ e in cc)) is
        (at_parts source p q here ∙ ap (λ z. at l units source q ++ z) is)

    means_judged : (s : Sort) (i : Item) (r : Text) → is_short q ≡ false → ItemAt l q s i r → is_last_property s i r ≡ false → (is_several i ≡ true → fit (b.items ++ i ∷ []) ≡ true) →
        (x : Bool) → fit (b.items ++ i ∷ []) ≡ x → Does (judged l units source b bs q s i r x)
    means_judged s i r long at_q cut excused true e = takes long at_q (fit_fits (b.items ++ i ∷ []) e) cut
    means_judged s i r long at_q cut excused false e =
        means_refused s i r long at_q cut (by (is_several i) refl) (not_fit (b.items ++ i ∷ []) e) (reversed_code i (fit (b.items ++ greatest ∷ []))) refl
      where
        by : (y : Bool) → is_several i ≡ y → is_several i ≡ false
        by true k = absurd (let g : false ≡ true = sym e ∙ excused k in cc)
        by false k = k

    means_taken : (s : Sort) (i : Item) (r : Text) → is_short q ≡ false → ItemAt l q s i r → (is_several i ≡ true → fit (b.items ++ i ∷ []) ≡ true) → Does (taken l units source b bs q s i r)
    means_taken s i r long at_q excused = by (is_last_property s i r) refl
      where
        by : (x : Bool) → is_last_property s i r ≡ x → Does (cond x (stops (rejected eof None)) (judged l units source b bs q s i r (fit (b.items ++ i ∷ []))))
        by true e = last_property at_q e
        by false e = means_judged s i r long at_q e excused (fit (b.items ++ i ∷ [])) refl

    means_named : (n r : Text) → front l q ≡ of_name n r → (o : Option Value) → l.variable n ≡ o → Does (named_turn l units source b bs q r o)
    means_named n r f None e = unbound f e (last_parts source p q r here (named_behind l q n r f))
    means_named n r f (Some v) e = means_taken of_variable_name (item_of v) r (named_long l q n r f) (variable f e) (by v)
      where
        by : (v : Value) → is_several (item_of v) ≡ true → fit (b.items ++ item_of v ∷ []) ≡ true
        by (character c) k = absurd (let g = k in cc)
        by (string u) k = absurd (let g = k in cc)
        by (set u) k = absurd (let g = k in cc)

    means_unit : is_short q ≡ false → front l q ≡ begins_unit → (x : Bool) → fit (b.items ++ two ∷ []) ≡ x → (o : Outcome Meaning) → units.unit_at x q ≡ o → Does (unit_turn l units source b bs q o)
    means_unit long f x k (faulty m w) e =
        unit_fails (at l units source q) long f (subst (λ z. (z ≡ true) ↔ Fits (b.items ++ two ∷ [])) k (says (b.items ++ two ∷ []))) (((units.units x q f long).faults m w).0 e) (at_parts source p q here)
    means_unit long f x k ended e =
        unit_ends long f (subst (λ z. (z ≡ true) ↔ Fits (b.items ++ two ∷ [])) k (says (b.items ++ two ∷ []))) ((units.units x q f long).ends.0 e)
    means_unit long f true k (got m r) e = means_taken of_unit (stands_for l m) r long (unit f (((units.units true q f long).reads m r).0 e)) (λ n. several_fit b.items (stands_for l m) n ∙ k)
    means_unit long f false k (got m r) e =
        let found = ((units.units false q f long).reads m r).0 e in
        means_taken of_unit (stands_for l m) r long (unit f (freely l q m r found)) (λ n. absurd (let g : false ≡ true = sym (not_several l q m r found) ∙ n in cc))

    no_body : arrange b.items ≡ None → (steps : Steps) → Body b.items steps → ⊥
    no_body e steps h = let g : None ≡ Some steps = sym e ∙ body_arrange b.items steps h in cc

    means_nested : (outer : OpenBracket) (cs : List OpenBracket) (c : ℕ) (r : Text) (steps : Steps) → front l q ≡ closing (c ∷ r) → Body b.items steps →
        (x : Bool) → fit (outer.items ++ nested (tree_of b.header steps) ∷ []) ≡ x → Means l units source (b ∷ outer ∷ cs) t (nested_turn l units source b outer cs (c ∷ r) (nested (tree_of b.header steps)) x)
    means_nested outer cs c r steps f h true e = closes f h (fit_fits (outer.items ++ nested (tree_of b.header steps) ∷ []) e)
    means_nested outer cs c r steps f h false e = unfit_nested f h (not_fit (outer.items ++ nested (tree_of b.header steps) ∷ []) e)

    means_closed : (cs : List OpenBracket) (r : Text) → front l q ≡ closing r → (o : Option Steps) → arrange b.items ≡ o → Means l units source (b ∷ cs) t (closed l units source b cs q r o)
    means_closed cs r f None e = unfit_close f (no_body e) (at_parts source p q here)
    means_closed [] r f (Some steps) e = bracket_read f (arrange_body b.items steps e)
    means_closed (outer ∷ cs) [] f (Some steps) e = last_nested f (arrange_body b.items steps e)
    means_closed (outer ∷ cs) (c ∷ r) f (Some steps) e =
        means_nested outer cs c r steps f (arrange_body b.items steps e) (fit (outer.items ++ nested (tree_of b.header steps) ∷ [])) refl

    means_front : is_short q ≡ false → (f : Front) → front l q ≡ f → Does (front_turn l units source b bs q f)
    means_front long nothing e = absurd (no_nothing l q long e)
    means_front long (closing r) e = means_closed bs r e (arrange b.items) refl
    means_front long (opening o inner) e = opens long e (at_parts source p q here)
    means_front long (single i r) e = means_taken of_one_character i r long (one_character e) (λ k. absurd (let g : false ≡ true = sym (single_one l q r i e) ∙ k in cc))
    means_front long (of_name n r) e = means_named n r e (l.variable n) refl
    means_front long begins_unit e = means_unit long e (fit (b.items ++ two ∷ [])) refl (units.unit_at (fit (b.items ++ two ∷ [])) q) refl
    means_front long caret e = a_caret long e (at_parts source p q here)

    means_short : (x : Bool) → is_short q ≡ x → Does (cond x (stops (rejected eof None)) (front_turn l units source b bs q (front l q)))
    means_short true e = short e
    means_short false e = means_front e (front l q) refl

  means_variable : (t n r p : Text) → source ≡ p ++ t → first l t ≡ of_variable n r → (o : Option Value) → l.variable n ≡ o → Means l units source [] t (variable_turn l units source r o)
  means_variable t n r p here f None e = unbound_first f e (last_parts source p t r here (first_variable_behind l t n r f))
  means_variable t n r p here f (Some (character c)) e = no_set_variable f e refl (last_parts source p t r here (first_variable_behind l t n r f))
  means_variable t n r p here f (Some (string u)) e = no_set_variable f e refl (last_parts source p t r here (first_variable_behind l t n r f))
  means_variable t n r p here f (Some (set members)) e = variable_read f e

  means_property : (t p : Text) → source ≡ p ++ t → first l t ≡ of_property → (o : Outcome Query) → units.property_at t ≡ o → Means l units source [] t (property_turn l units source t o)
  means_property t p here f (got n r) e = property_read f (((units.properties t f).reads n r).0 e)
  means_property t p here f (faulty k w) e = property_fails (at l units source t) f (((units.properties t f).faults k w).0 e) (at_parts source p t here)
  means_property t p here f ended e = property_ends f ((units.properties t f).ends.0 e)

  means_first : (t p : Text) → source ≡ p ++ t → (f : First) → first l t ≡ f → Means l units source [] t (first_turn l units source t f)
  means_first t p here too_short e = empty e
  means_first t p here (stray c) e = no_set e (at_parts source p t here)
  means_first t p here bare e = no_name e (at_parts source p t here)
  means_first t p here (of_variable n r) e = means_variable t n r p here e (l.variable n) refl
  means_first t p here (of_bracket o inner) e = opens_first e (at_parts source p t here)
  means_first t p here of_property e = means_property t p here e (units.property_at t) refl

  pub means : (bs : List OpenBracket) (t : Text) → Suffix source t → Means l units source bs t (turn l units source bs t)
  means [] t (suffix p here) = means_first t p here (first l t) refl
  means (b ∷ bs) t (suffix p here) = by (skip_suffix l.white_space t)
    where
      by : Suffix t (skip l.white_space t) → Means l units source (b ∷ bs) t (turn l units source (b ∷ bs) t)
      by (suffix w e) = means_short b bs t (p ++ w) (here ∙ (ap (λ z. p ++ z) e ∙ sym (append_assoc p w (skip l.white_space t)))) (is_short (skip l.white_space t)) refl
