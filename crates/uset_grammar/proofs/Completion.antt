-- What is still to be read where brackets are open, and that a move and a fault agree with it.
use Rattle.std.proofs.Common.{◌≡◌, ◌↔◌, ℕ, Bool, true, false, List, [], ◌∷◌, ◌++◌, Option, Some, None, refl, sym, ap, ◌∙◌, subst, append_assoc, append-nil}
use Rattle.std.specs.Prelude.{◌==◌, not}
use Rattle.uset_grammar.specs.Text.{Text, skip}
use Rattle.uset_grammar.specs.Tree.{Tree, Member, given, Steps}
use Rattle.uset_grammar.specs.Item.{Item, chars, text, nested, minus, ampersand, dollar, is_several, tree_of}
use Rattle.uset_grammar.specs.Body.{Body, Fits, closed}
use Rattle.uset_grammar.specs.Outcome.{Kind, Outcome, got, faulty, ended}
use Rattle.uset_grammar.specs.Property.{Query, PropertyRead}
use Rattle.uset_grammar.specs.Unit.{Meaning, UnitRead}
use Rattle.uset_grammar.specs.Language.{Value, set, item_of, is_set, Language, stands_for, resolves, lacks, property_tree}
use Rattle.uset_grammar.specs.Front.{Front, nothing, closing, opening, single, of_name, begins_unit, caret, front, First, too_short, stray, bare, of_variable, of_bracket, of_property, first}
use Rattle.uset_grammar.specs.Grammar.{Sort, of_one_character, of_variable_name, of_unit, ItemAt, one_character, variable, unit, ReadsItems, ends, reads, nests, Reads, a_bracket, a_property, a_variable}
use Rattle.uset_grammar.specs.Reached.{OpenBracket, with_item, is_short, is_last_property, Moves, opens_first, opens, takes, closes}
use Rattle.uset_grammar.specs.Fault.{FaultAt, empty, no_set, no_name, unbound_first, no_set_variable, property_fails, property_ends, short, a_caret, unbound, unfit_variable, reversed, unfit, unfit_close, unfit_nested, last_property, last_nested, unit_fails, unit_ends}
use Rattle.uset_grammar.proofs.BodyMachine.{fits_fit, fit_fits, body_arrange, fit_front}
use Rattle.uset_grammar.proofs.FrontRests.{Behind, closing_is, opening_behind, single_behind, named_behind}
use Rattle.uset_grammar.proofs.UnitRests.{unit_behind, unit_long, likewise}
use Rattle.uset_grammar.specs.Turn.{UnitReader, two, Accepts, variable_read, property_read, bracket_read}
use Rattle.uset_grammar.proofs.TurnIsMoveOrFault.{several_fit}

-- ONE BODY
pub one_body : (is : List Item) (a b : Steps) → Body is a → Body is b → a ≡ b
one_body is a b h k = let e : Some a ≡ Some b = sym (body_arrange is a h) ∙ body_arrange is b k in cc

pub fits_then : (is js : List Item) (i : Item) (steps : Steps) → Body (is ++ i ∷ js) steps → Fits (is ++ i ∷ [])
fits_then is js i steps h =
    fit_fits (is ++ i ∷ []) (fit_front (is ++ i ∷ []) js (fits_fit ((is ++ i ∷ []) ++ js) (closed (subst (λ z. Body z steps) (sym (append_assoc is (i ∷ []) js)) h))))

module _ (l : Language) where
  -- WHAT IS READ, BY WHAT STANDS IN FRONT
  abbrev pub ReadsBy : Front → Text → List Item → Text → Type 0
  ReadsBy nothing q items r = ⊥
  ReadsBy (closing rest) q items r = (items ≡ []) × (rest ≡ r)
  ReadsBy (opening o inner) q items r =
      (js : List Item) × (next : Text) × (is : List Item) × (steps : Steps) × ReadsItems l inner js next × Body js steps × ReadsItems l next is r × (items ≡ nested (tree_of o steps) ∷ is)
  ReadsBy (single i next) q items r = (is : List Item) × ReadsItems l next is r × (items ≡ i ∷ is)
  ReadsBy (of_name n next) q items r = (v : Value) × (is : List Item) × (l.variable n ≡ Some v) × ReadsItems l next is r × (items ≡ item_of v ∷ is)
  ReadsBy begins_unit q items r =
      (m : Meaning) × (next : Text) × (is : List Item) × UnitRead l.white_space true (resolves l) (lacks l) q m next × ReadsItems l next is r × (items ≡ stands_for l m ∷ is)
  ReadsBy caret q items r = ⊥

  by_front : (t : Text) (items : List Item) (r : Text) → ReadsItems l t items r → ReadsBy (front l (skip l.white_space t)) (skip l.white_space t) items r
  by_front t _ r (ends f) = subst (λ z. ReadsBy z (skip l.white_space t) [] r) (sym f) (refl, refl)
  by_front t _ r (reads {i} {is} (one_character f) more) = subst (λ z. ReadsBy z (skip l.white_space t) (i ∷ is) r) (sym f) (is, more, refl)
  by_front t _ r (reads {is} (variable {v} f e) more) = subst (λ z. ReadsBy z (skip l.white_space t) (item_of v ∷ is) r) (sym f) (v, is, e, more, refl)
  by_front t _ r (reads {next} {is} (unit {m} f e) more) = subst (λ z. ReadsBy z (skip l.white_space t) (stands_for l m ∷ is) r) (sym f) (m, next, is, e, more, refl)
  by_front t _ r (nests {next} {o} {js} {is} {steps} f inside body more) = subst (λ z. ReadsBy z (skip l.white_space t) (nested (tree_of o steps) ∷ is) r) (sym f) (js, next, is, steps, inside, body, more, refl)

  by : (t : Text) (items : List Item) (r : Text) (f : Front) → front l (skip l.white_space t) ≡ f → ReadsItems l t items r → ReadsBy f (skip l.white_space t) items r
  by t items r f e h = subst (λ z. ReadsBy z (skip l.white_space t) items r) e (by_front t items r h)

  -- a unit is read in one way
  one_unit : UnitReader l → (q : Text) (m n : Meaning) (r s : Text) → front l q ≡ begins_unit → UnitRead l.white_space true (resolves l) (lacks l) q m r → UnitRead l.white_space true (resolves l) (lacks l) q n s → (m ≡ n) × (r ≡ s)
  one_unit units q m n r s f h k =
      let a = units.units true q f (unit_long l true q m r h) in
      let same : got m r ≡ got n s = sym ((a.reads m r).1 h) ∙ (a.reads n s).1 k in
      (cc, cc)

  -- an item in front is the first that is read
  item_first : UnitReader l → (t : Text) (items : List Item) (r next : Text) (s : Sort) (i : Item) → ItemAt l (skip l.white_space t) s i next → ReadsItems l t items r →
      (is : List Item) × ReadsItems l next is r × (items ≡ i ∷ is)
  item_first units t items r next _ i (one_character f) h = by t items r (single i next) f h
  item_first units t items r next _ _ (variable {n} {v} f e) h =
      let k = by t items r (of_name n next) f h in
      let same : Some v ≡ Some k.0 = sym e ∙ k.2 in
      let is : k.0 ≡ v = cc in
      (k.1, k.3, k.4 ∙ ap (λ z. item_of z ∷ k.1) is)
  item_first units t items r next _ _ (unit {m} f e) h =
      let k = by t items r begins_unit f h in
      let same = one_unit units (skip l.white_space t) k.0 m k.1 next f k.3 e in
      (k.2, subst (λ z. ReadsItems l z k.2 r) same.1 k.4, k.5 ∙ ap (λ z. stands_for l z ∷ k.2) same.0)

  nothing_read : (items : List Item) (r : Text) → ReadsItems l [] items r → ⊥
  nothing_read items r h = by_front [] items r h

  none_left : (c : ℕ) (r : Text) → Behind (c ∷ []) r → r ≡ []
  none_left c r ([], e) = let g = e.parts in cc
  none_left c r (d ∷ [], e) = absurd (let g = e.parts in cc)
  none_left c r (d ∷ f ∷ g, e) = absurd (let h = e.parts in cc)

  not_closing : (c : ℕ) → not (c == 0x5D) ≡ true → c ≡ 0x5D → ⊥
  not_closing c e h = let g : not (0x5D == 0x5D) ≡ true = subst (λ z. not (z == 0x5D) ≡ true) h e in absurd (let k : false ≡ true = g in cc)

  module _ where
    -- where something is read, the text isn't short
    short_read : (q items_text : Text) (items : List Item) (r : Text) → is_short q ≡ true → (f : Front) → front l q ≡ f → ReadsBy f q items r → ⊥
    short_read [] t items r e f k h = absurd (subst (λ z. ReadsBy z [] items r) (sym k) h)
    short_read (c ∷ []) t items r e nothing k h = h
    short_read (c ∷ []) t items r e (closing rest) k h = not_closing c e (let g = closing_is l (c ∷ []) rest k in cc)
    short_read (c ∷ []) t items r e (opening o inner) k h = nothing_read h.0 h.1 (subst (λ z. ReadsItems l z h.0 h.1) (none_left c inner (opening_behind l (c ∷ []) inner o k)) h.4)
    short_read (c ∷ []) t items r e (single i next) k h = nothing_read h.0 r (subst (λ z. ReadsItems l z h.0 r) (none_left c next (single_behind l (c ∷ []) next i k)) h.1)
    short_read (c ∷ []) t items r e (of_name n next) k h = nothing_read h.1 r (subst (λ z. ReadsItems l z h.1 r) (none_left c next (named_behind l (c ∷ []) n next k)) h.3)
    short_read (c ∷ []) t items r e begins_unit k h = nothing_read h.2 r (subst (λ z. ReadsItems l z h.2 r) (none_left c h.1 (unit_behind l true (c ∷ []) h.0 h.1 h.3)) h.4)
    short_read (c ∷ []) t items r e caret k h = h
    short_read (c ∷ d ∷ q) t items r e f k h = absurd (let g : false ≡ true = e in cc)

  -- the top
  abbrev pub ReadsFirst : First → Text → Tree → Text → Type 0
  ReadsFirst too_short t tree r = ⊥
  ReadsFirst (stray c) t tree r = ⊥
  ReadsFirst bare t tree r = ⊥
  ReadsFirst (of_variable n rest) t tree r = (members : Member → Bool) × (l.variable n ≡ Some (set members)) × (tree ≡ given members) × (rest ≡ r)
  ReadsFirst (of_bracket o inner) t tree r = (is : List Item) × (steps : Steps) × ReadsItems l inner is r × Body is steps × (tree ≡ tree_of o steps)
  ReadsFirst of_property t tree r = (n : Query) × PropertyRead l.white_space (resolves l) (lacks l) t n r × (tree ≡ property_tree l n)

  by_first : (t : Text) (tree : Tree) (r : Text) → Reads l t tree r → ReadsFirst (first l t) t tree r
  by_first t _ r (a_bracket {o} {is} {steps} f inside body) = subst (λ z. ReadsFirst z t (tree_of o steps) r) (sym f) (is, steps, inside, body, refl)
  by_first t _ r (a_property {q = n} f e) = subst (λ z. ReadsFirst z t (property_tree l n) r) (sym f) (n, e, refl)
  by_first t _ r (a_variable {members} f e) = subst (λ z. ReadsFirst z t (given members) r) (sym f) (members, e, refl, refl)

  at_first : (t : Text) (tree : Tree) (r : Text) (f : First) → first l t ≡ f → Reads l t tree r → ReadsFirst f t tree r
  at_first t tree r f e h = subst (λ z. ReadsFirst z t tree r) e (by_first t tree r h)

  -- WHAT IS STILL TO BE READ
  -- the bracket is closed in front of the last text
  pub record Closed (b : OpenBracket) (t : Text) (tree : Tree) (r : Text) : Type 0 where
    pub items : List Item
    pub steps : Steps
    pub read : ReadsItems l t items r
    pub body : Body (b.items ++ items) steps
    pub is : tree ≡ tree_of b.header steps

  abbrev pub After : List OpenBracket → Tree → Text → Tree → Text → Type 0
  After [] inner t tree r = (inner ≡ tree) × (t ≡ r)
  After (b ∷ bs) inner t tree r = (outer : Tree) × (next : Text) × Closed (with_item b (nested inner)) t outer next × After bs outer next tree r

  abbrev pub Completes : List OpenBracket → Text → Tree → Text → Type 0
  Completes [] t tree r = Reads l t tree r
  Completes (b ∷ bs) t tree r = (inner : Tree) × (next : Text) × Closed b t inner next × After bs inner next tree r

  pushed : (is js : List Item) (i : Item) (steps : Steps) → Body (is ++ i ∷ js) steps → Body ((is ++ i ∷ []) ++ js) steps
  pushed is js i steps h = subst (λ z. Body z steps) (sym (append_assoc is (i ∷ []) js)) h

  popped : (is js : List Item) (i : Item) (steps : Steps) → Body ((is ++ i ∷ []) ++ js) steps → Body (is ++ i ∷ js) steps
  popped is js i steps h = subst (λ z. Body z steps) (append_assoc is (i ∷ []) js) h

  -- a bracket that is closed at once
  closed_now : (b : OpenBracket) (t next r : Text) (tree : Tree) (steps : Steps) → front l (skip l.white_space t) ≡ closing next → Body b.items steps → Closed b t tree r → (tree ≡ tree_of b.header steps) × (next ≡ r)
  closed_now b t next r tree steps f body h =
      let k = by t h.items r (closing next) f h.read in
      let none : Body b.items h.steps = subst (λ z. Body z h.steps) (append-nil b.items) (subst (λ z. Body (b.items ++ z) h.steps) k.0 h.body) in
      (h.is ∙ ap (tree_of b.header) (one_body b.items h.steps steps none body), k.1)

  now_closed : (b : OpenBracket) (t next : Text) (steps : Steps) → front l (skip l.white_space t) ≡ closing next → Body b.items steps → Closed b t (tree_of b.header steps) next
  now_closed b t next steps f body = record { items = []; steps = steps; read = ends f; body = subst (λ z. Body z steps) (sym (append-nil b.items)) body; is = refl }

  module _ (units : UnitReader l) (source : Text) where
    pub moves_on : (bs cs : List OpenBracket) (t u : Text) (tree : Tree) (r : Text) → Moves l source bs t cs u → Completes bs t tree r → Completes cs u tree r
    moves_on _ _ t u tree r (opens_first {o} f here) h =
        let k = at_first t tree r (of_bracket o u) f h in
        (tree, r, record { items = k.0; steps = k.1; read = k.2; body = k.3; is = k.4 }, (refl, refl))
    moves_on _ _ t u tree r (opens {o} {b} {bs} long f here) (inner, next, shut, rest) =
        let k = by t shut.items next (opening o u) f shut.read in (
          tree_of o k.3,
          k.1,
          record { items = k.0; steps = k.3; read = k.4; body = k.5; is = refl },
          (inner, next, record { items = k.2; steps = shut.steps; read = k.6; body = pushed b.items k.2 (nested (tree_of o k.3)) shut.steps (subst (λ z. Body (b.items ++ z) shut.steps) k.7 shut.body); is = shut.is }, rest),
        )
    moves_on _ _ t u tree r (takes {s} {i} {b} {bs} long at_q fits cut) (inner, next, shut, rest) =
        let k = item_first units t shut.items next u s i at_q shut.read in
        (inner, next, record { items = k.0; steps = shut.steps; read = k.1; body = pushed b.items k.0 i shut.steps (subst (λ z. Body (b.items ++ z) shut.steps) k.2 shut.body); is = shut.is }, rest)
    moves_on _ _ t _ tree r (closes {next} {c} {b} {outer} {bs} {steps} f body fits) (inner, behind, shut, rest) =
        let k = closed_now b t (c ∷ next) behind inner steps f body shut in
        subst (λ z. After (outer ∷ bs) z (c ∷ next) tree r) k.0 (subst (λ z. After (outer ∷ bs) inner z tree r) (sym k.1) rest)

    pub moves_back : (bs cs : List OpenBracket) (t u : Text) (tree : Tree) (r : Text) → Moves l source bs t cs u → Completes cs u tree r → Completes bs t tree r
    moves_back _ _ t u tree r (opens_first {o} f here) (inner, next, shut, (same, last)) =
        subst (λ z. Reads l t z r) (sym shut.is ∙ same) (subst (λ z. Reads l t (tree_of o shut.steps) z) last (a_bracket f shut.read shut.body))
    moves_back _ _ t u tree r (opens {o} {b} {bs} long f here) (inner, next, shut, (outer, after, shut_too, rest)) = (
      outer,
      after,
      record {
        items = nested (tree_of o shut.steps) ∷ shut_too.items;
        steps = shut_too.steps;
        read = nests f shut.read shut.body shut_too.read;
        body = subst (λ z. Body (b.items ++ nested z ∷ shut_too.items) shut_too.steps) shut.is (popped b.items shut_too.items (nested inner) shut_too.steps shut_too.body);
        is = shut_too.is;
      },
      rest,
    )
    moves_back _ _ t u tree r (takes {s} {i} {b} {bs} long at_q fits cut) (inner, next, shut, rest) =
        (inner, next, record { items = i ∷ shut.items; steps = shut.steps; read = reads at_q shut.read; body = popped b.items shut.items i shut.steps shut.body; is = shut.is }, rest)
    moves_back _ _ t _ tree r (closes {next} {c} {b} {outer} {bs} {steps} f body fits) h =
        (tree_of b.header steps, c ∷ next, now_closed b t (c ∷ next) steps f body, h)

    pub accepts_completes : (bs : List OpenBracket) (t : Text) (tree : Tree) (r : Text) → Accepts l units source bs t tree r → Completes bs t tree r
    accepts_completes _ t _ r (variable_read f e) = a_variable f e
    accepts_completes _ t _ r (property_read f e) = a_property f e
    accepts_completes _ t _ r (bracket_read {b} {steps} f body) = (tree_of b.header steps, r, now_closed b t r steps f body, (refl, refl))

    pub accepts_only : (bs : List OpenBracket) (t : Text) (tree other : Tree) (r s : Text) → Accepts l units source bs t tree r → Completes bs t other s → (tree ≡ other) × (r ≡ s)
    accepts_only _ t _ other r s (variable_read {n} {members} f e) h =
        let k = at_first t other s (of_variable n r) f h in
        let same : Some (set members) ≡ Some (set k.0) = sym e ∙ k.1 in
        let one : members ≡ k.0 = cc in
        (ap (λ z. given z) one ∙ sym k.2, k.3)
    accepts_only _ t _ other r s (property_read {n} f e) h =
        let k = at_first t other s of_property f h in
        let a = units.properties t f in
        let same : got n r ≡ got k.0 s = sym ((a.reads n r).1 e) ∙ (a.reads k.0 s).1 k.1 in
        let one : n ≡ k.0 = cc in
        (ap (property_tree l) one ∙ sym k.2, cc)
    accepts_only _ t _ other r s (bracket_read {b} {steps} f body) (inner, next, shut, (same, last)) =
        let k = closed_now b t r next inner steps f body shut in
        (sym k.0 ∙ same, k.1 ∙ last)

    module _ where
      unfits : (b : OpenBracket) (t u r : Text) (s : Sort) (i : Item) (tree : Tree) → ItemAt l (skip l.white_space t) s i u → (Fits (b.items ++ i ∷ []) → ⊥) → Closed b t tree r → ⊥
      unfits b t u r s i tree at_q none h =
          let k = item_first units t h.items r u s i at_q h.read in
          none (fits_then b.items k.0 i h.steps (subst (λ z. Body (b.items ++ z) h.steps) k.2 h.body))

      no_unit : (b : OpenBracket) (t r : Text) (tree : Tree) (both : Bool) (o : Outcome Meaning) → is_short (skip l.white_space t) ≡ false → front l (skip l.white_space t) ≡ begins_unit → ((both ≡ true) ↔ Fits (b.items ++ two ∷ [])) →
          units.unit_at both (skip l.white_space t) ≡ o → ((m : Meaning) (next : Text) → o ≡ got m next → ⊥) → Closed b t tree r → ⊥
      no_unit b t r tree both o long f says e none h =
          let k = by t h.items r begins_unit f h.read in
          judge both k.0 k.1 k.3 e says (is_several (stands_for l k.0)) refl
          (fits_then b.items k.2 (stands_for l k.0) h.steps (subst (λ z. Body (b.items ++ z) h.steps) k.5 h.body))
        where
          judge : (both : Bool) (m : Meaning) (next : Text) → UnitRead l.white_space true (resolves l) (lacks l) (skip l.white_space t) m next → units.unit_at both (skip l.white_space t) ≡ o →
              ((both ≡ true) ↔ Fits (b.items ++ two ∷ [])) → (x : Bool) → is_several (stands_for l m) ≡ x → Fits (b.items ++ stands_for l m ∷ []) → ⊥
          judge true m next found e says x n fits = none m next (sym e ∙ ((units.units true (skip l.white_space t) f long).reads m next).1 found)
          judge false m next found e says false n fits =
              none m next (sym e ∙ ((units.units false (skip l.white_space t) f long).reads m next).1 (likewise l (skip l.white_space t) m next found n))
          judge false m next found e says true n fits =
              let both_fit = fit_fits (b.items ++ two ∷ []) (sym (several_fit b.items (stands_for l m) n) ∙ fits_fit (b.items ++ stands_for l m ∷ []) fits) in
              absurd (let g : false ≡ true = says.1 both_fit in cc)

      last_empty : (s : Sort) (i : Item) (r : Text) → is_last_property s i r ≡ true → r ≡ []
      last_empty of_unit (nested u) [] e = refl
      last_empty of_unit (nested u) (c ∷ r) e = absurd (let g = e in cc)
      last_empty of_unit (chars cs) r e = absurd (let g = e in cc)
      last_empty of_unit (text u) r e = absurd (let g = e in cc)
      last_empty of_unit minus r e = absurd (let g = e in cc)
      last_empty of_unit ampersand r e = absurd (let g = e in cc)
      last_empty of_unit dollar r e = absurd (let g = e in cc)
      last_empty of_one_character i r e = absurd (let g = e in cc)
      last_empty of_variable_name i r e = absurd (let g = e in cc)

      pub fails_only : (bs : List OpenBracket) (t : Text) (k : Kind) (p : Option Text) (tree : Tree) (r : Text) → FaultAt l source bs t k p → Completes bs t tree r → ⊥
      fails_only _ t _ _ tree r (empty f) h = at_first t tree r too_short f h
      fails_only _ t _ _ tree r (no_set {c} f here) h = at_first t tree r (stray c) f h
      fails_only _ t _ _ tree r (no_name f here) h = at_first t tree r bare f h
      fails_only _ t _ _ tree r (unbound_first {n} {r = rest} f e last) h =
          let k = at_first t tree r (of_variable n rest) f h in let g : None ≡ Some (set k.0) = sym e ∙ k.1 in cc
      fails_only _ t _ _ tree r (no_set_variable {n} {r = rest} {v} f e none last) h =
          let k = at_first t tree r (of_variable n rest) f h in
          let g : Some v ≡ Some (set k.0) = sym e ∙ k.1 in
          let is : v ≡ set k.0 = cc in
          let bad : false ≡ true = sym none ∙ ap is_set is in cc
      fails_only _ t _ _ tree r (property_fails {w} p {k} f e here) h =
          let read = at_first t tree r of_property f h in
          let a = units.properties t f in
          let g : faulty k w ≡ got read.0 r = sym ((a.faults k w).1 e) ∙ (a.reads read.0 r).1 read.1 in cc
      fails_only _ t _ _ tree r (property_ends f e) h =
          let read = at_first t tree r of_property f h in
          let a = units.properties t f in
          let g : ended ≡ got read.0 r = sym (a.ends.1 e) ∙ (a.reads read.0 r).1 read.1 in cc
      fails_only _ t _ _ tree r (short e) (inner, next, shut, rest) =
          short_read (skip l.white_space t) t shut.items next e (front l (skip l.white_space t)) refl (by_front t shut.items next shut.read)
      fails_only _ t _ _ tree r (a_caret long f here) (inner, next, shut, rest) = by t shut.items next caret f shut.read
      fails_only _ t _ _ tree r (unbound {n} {r = u} f e last) (inner, next, shut, rest) =
          let k = by t shut.items next (of_name n u) f shut.read in let g : None ≡ Some k.0 = sym e ∙ k.2 in cc
      fails_only _ t _ _ tree r (unfit_variable {r = u} {i} {b} at_q none no_range last) (inner, next, shut, rest) = unfits b t u next of_variable_name i inner at_q none shut
      fails_only _ t _ _ tree r (reversed {r = u} {s} {i} {b} long at_q none e last) (inner, next, shut, rest) = unfits b t u next s i inner at_q none shut
      fails_only _ t _ _ tree r (unfit {r = u} {s} {i} {b} long at_q no_variable cut one none no_range is here) (inner, next, shut, rest) = unfits b t u next s i inner at_q none shut
      fails_only _ t _ _ tree r (unfit_close {r = u} {b} f none here) (inner, next, shut, rest) =
          let k = by t shut.items next (closing u) f shut.read in
          none shut.steps (subst (λ z. Body z shut.steps) (append-nil b.items) (subst (λ z. Body (b.items ++ z) shut.steps) k.0 shut.body))
      fails_only _ t _ _ tree r (unfit_nested {r = u} {c} {b} {outer} {bs} {steps} f body none) (inner, next, shut, (inner_too, next_too, shut_too, rest)) =
          let k = closed_now b t (c ∷ u) next inner steps f body shut in
          none (subst (λ z. Fits (outer.items ++ nested z ∷ [])) k.0 (fits_then outer.items shut_too.items (nested inner) shut_too.steps (popped outer.items shut_too.items (nested inner) shut_too.steps shut_too.body)))
      fails_only _ t _ _ tree r (last_property {r = u} {s} {i} at_q e) (inner, next, shut, rest) =
          let k = item_first units t shut.items next u s i at_q shut.read in
          nothing_read k.0 next (subst (λ z. ReadsItems l z k.0 next) (last_empty s i u e) k.1)
      fails_only _ t _ _ tree r (last_nested {b} {outer} {bs} {steps} f body) (inner, next, shut, (inner_too, next_too, shut_too, rest)) =
          let k = closed_now b t [] next inner steps f body shut in
          nothing_read shut_too.items next_too (subst (λ z. ReadsItems l z shut_too.items next_too) (sym k.1) shut_too.read)
      fails_only _ t _ _ tree r (unit_fails {w} p {both} {k} {b} long f says e here) (inner, next, shut, rest) =
          no_unit b t next inner both (faulty k w) long f says (((units.units both (skip l.white_space t) f long).faults k w).1 e) (λ i u h. (let g = h in cc)) shut
      fails_only _ t _ _ tree r (unit_ends {both} {b} long f says e) (inner, next, shut, rest) =
          no_unit b t next inner both ended long f says ((units.units both (skip l.white_space t) f long).ends.1 e) (λ i u h. (let g = h in cc)) shut
