-- Parts of a turn, and their faults.
use Rattle.std.proofs.Common.{◌≡◌, ◌-◌, take, append-nil, ℕ, Bool, true, false, cond, List, [], ◌∷◌, ◌++◌, reverse, Option, Some, None, Box, Result, Ok, Err, option_map, encode_utf8_all, refl, sym, ap, ◌∙◌, subst, append_assoc}
use Rattle.std.proofs.lemmas.List.{reverse-append}
use Rattle.std.specs.Borrow.{Bor}
use Rattle.std.specs.Global.{Global}
use Rattle.std.specs.Str.{chars}
use Rattle.uset_grammar.specs.Text.{Text, skip, IsBehind}
use Rattle.uset_grammar.specs.Outcome.{Kind, unexpected, unknown_variable, unexpected_variable, eof, Outcome, got, faulty, ended}
use Rattle.uset_grammar.specs.Item.{Item, nested, tree_of}
use Rattle.uset_grammar.specs.Language.{Language, item_of, stands_for, resolves, lacks}
use Rattle.uset_grammar.specs.Unit.{Meaning, UnitOutcome}
use Rattle.uset_grammar.specs.Front.{Front, single, caret, front, begins_unit}
use Rattle.uset_grammar.specs.Grammar.{Sort, of_one_character, of_variable_name, of_unit}
use Rattle.uset_grammar.specs.Fault.{as_character}
use Rattle.uset_grammar.specs.Reached.{OpenBracket, with_item, is_short, is_last_property}
use Rattle.uset_grammar.specs.Place.{size, bytes_before, offset_of}
use Rattle.uset_grammar.specs.Arranging.{next, went, fit, arrange}
use Rattle.uset_grammar.specs.Turn.{Verdict, rejected, Turn, goes, stops, UnitReader, at, last_at, two, greatest, reversed_code, refusal, judged, named_turn, unit_turn, closed, nested_turn, front_turn, turn}
use Rattle.uset_grammar.specs.Laws.{PlacesAre, AwaitedTells, RestsAreBehind}
use Rattle.uset_read.specs.declared.cursor.Cursor.{Cursor}
use Rattle.uset_read.specs.Cursors.{source_of, left_of}
use Rattle.uset_read.specs.declared.stop.Stop.{Stop}
use Rattle.uset_read.specs.declared.stop.Stop.TheVariants.{Fault, Ended, NoMemory as StopNoMemory}
use Rattle.uset_read.specs.Stops.{kind_seen}
use Rattle.uset_reader.specs.declared.bracket.OpenBracket.{OpenBracket as CodeBracket}
use Rattle.uset_fault.specs.declared.error.ParseError.{ParseError}
use Rattle.uset_reader.specs.declared.turn.Progress.{Progress}
use Rattle.uset_reader.specs.declared.turn.Progress.TheVariants.{GoesOn, Done}
use Rattle.uset_reader.specs.declared.turn.Sort.{Sort as CodeSort}
use Rattle.uset_reader.specs.declared.turn.Sort.TheVariants.{Written, Variable}
use Rattle.uset_reader.specs.declared.item.Item.{Item as CodeItem}
use Rattle.uset_reader.specs.declared.code_point.CodePoint.{CodePoint}
use Rattle.uset_reader.specs.declared.bracket.Taken.{Taken}
use Rattle.uset_reader.specs.declared.bracket.Taken.TheVariants.{Fits, Reversed, Unfit}
use Rattle.uset_reader.specs.Items.{number_of, awaits_seen}
use Rattle.uset_reader.specs.Brackets.{Stands, begun, IsBegun, IsItem, Takes, Closes}
use Rattle.uset_reader.specs.declared.bracket.Opening.{Opening as CodeOpening}
use Rattle.uset_steps.specs.declared.closed.Closed.{Closed as ClosedSet}
use Rattle.uset_steps.specs.declared.gathering.Gathering.{Gathering}
use Rattle.uset_steps.specs.Gathering.{Fits as NamesFit}
use Rattle.uset_reader.specs.Named.{sets_of}
use Rattle.uset_reader.specs.declared.item.Operand.TheVariants.{Inner}
use Rattle.uset_reader.specs.declared.item.Item.TheVariants.{Set}
use Rattle.uset_fault.specs.Errors.{kind_of, offset_in, kind_told, ToldAs, Tells}
use Rattle.uset_reader.specs.Faults.{IsAt, IsBefore, IsStop}
use Rattle.uset_reader.specs.Units.{UnitIs, UnitStops}
use Rattle.uset_reader.specs.Turns.{Before, Around, AllStand, TurnedTo, ForAll, Turns, Rejects, IsUnfit, TakesAs, TakesVariable, TakesUnit, Opens, ClosesAs}
use Rattle.uset_reader.specs.declared.syntax.Syntax.{Syntax}
use Rattle.uset_variables.specs.declared.value.VariableValue.{VariableValue}
use Rattle.uset_variables.specs.Values.{value_seen}
use Rattle.uset_variables.specs.Variables.{bound}
use Rattle.uset_reader.specs.Syntaxes.{language_seen}

-- WHAT AN ERROR TELLS
pub tells : (e : ParseError) (k : Kind) (P : Kind → Option ℕ → Type 0) → kind_told (kind_of e) ≡ Some k → P k (offset_in e) → Tells e P
tells e k P is h = subst (λ o. ToldAs o (offset_in e) P) (sym is) h

pub tells_nothing : (e : ParseError) (P : Kind → Option ℕ → Type 0) → kind_told (kind_of e) ≡ None → offset_in e ≡ None → Tells e P
tells_nothing e P is nowhere = subst (λ o. ToldAs o (offset_in e) P) (sym is) nowhere

pub tells_too : (e : ParseError) (P Q : Kind → Option ℕ → Type 0) → ((k : Kind) (o : Option ℕ) → P k o → Q k o) → Tells e P → Tells e Q
tells_too e P Q f h = by (kind_told (kind_of e)) h
  where
    by : (o : Option Kind) → ToldAs o (offset_in e) P → ToldAs o (offset_in e) Q
    by None h = h
    by (Some k) h = f k (offset_in e) h

-- a fault is where the turn stops
pub stops_so : (l : Language) (t : Turn) (v : Verdict) (e : ParseError) (outer : List CodeBracket) (b : CodeBracket) → t ≡ stops v → Rejects v e → TurnedTo l t outer b (Err e)
stops_so l t v e outer b is h = tells_too e _ _ (λ k o r. (r.0, is ∙ ap stops r.1, r.2)) h

module _ (places : PlacesAre) (l : Language) (units : UnitReader l) (cursor : Cursor) where
  abbrev source : Text
  source = chars (source_of cursor)

  -- a fault at the front of a text
  pub rejects_at : (text : List ℕ) (e : ParseError) (k : Kind) → Before (source_of cursor) text → kind_told (kind_of e) ≡ Some k → ((t : Text) → bytes_before k t ≡ size t) → IsAt cursor text (offset_in e) →
      Rejects (rejected k (Some (at l units source (chars text)))) e
  rejects_at text e k here is plain offset =
      let place = (places l units source here.before (chars text)).0 here.is in
      tells e k _ is (Some (at l units source (chars text)), refl, offset here.before here.is ∙ ap (λ t. Some t) (ap size (sym place) ∙ sym (plain (at l units source (chars text)))))

  -- a fault at the last character in front of a rest
  pub rejects_before : (text rest : List ℕ) (e : ParseError) (k : Kind) → Before (source_of cursor) text → IsBehind (chars text) (chars rest) → kind_told (kind_of e) ≡ Some k →
      ((t : Text) → bytes_before k t ≡ size t) → IsBefore cursor rest (offset_in e) → Rejects (rejected k (Some (last_at l units source (chars rest)))) e
  rejects_before text rest e k here (front, ends) is plain offset =
      let parts : source ≡ (here.before ++ front) ++ ends.last ∷ chars rest = here.is ∙ (ap (λ t. here.before ++ t) ends.parts ∙ sym (append_assoc here.before front (ends.last ∷ chars rest))) in
      let place = (places l units source (here.before ++ front) (chars rest)).1 ends.last parts in
      tells e k _ is (Some (last_at l units source (chars rest)), refl, offset (here.before ++ front) ends.last parts ∙ ap (λ t. Some t) (ap size (sym place) ∙ sym (plain (last_at l units source (chars rest)))))

-- ITEMS
refusal_of_variable : (l : Language) (units : UnitReader l) (source q r : Text) (s : Sort) → s ≡ of_variable_name →
    refusal l units source s q r None ≡ rejected unexpected_variable (Some (last_at l units source r))
refusal_of_variable l units source q r of_variable_name e = refl
refusal_of_variable l units source q r of_one_character e = absurd (let g = e in cc)
refusal_of_variable l units source q r of_unit e = absurd (let g = e in cc)

pub unfit_variable : (places : PlacesAre) (cursor : Cursor) (text rest : List ℕ) (e : ParseError) → kind_told (kind_of e) ≡ Some unexpected_variable → IsBefore cursor rest (offset_in e) →
    IsUnfit cursor Variable text rest e
unfit_variable places cursor text rest e is offset l units s sort here behind =
    subst (λ v. Rejects v e) (sym (refusal_of_variable l units (chars (source_of cursor)) (chars text) (chars rest) s sort))
    (rejects_before places l units cursor text rest e unexpected_variable here behind is (λ t. refl) offset)

judged_fit : (l : Language) (units : UnitReader l) (source q : Text) (o : OpenBracket) (os : List OpenBracket) (s : Sort) (i : Item) (r : Text) (x : Bool) → x ≡ true →
    judged l units source o os q s i r x ≡ goes (with_item o i ∷ os) r
judged_fit l units source q o os s i r true e = refl
judged_fit l units source q o os s i r false e = absurd (let g = e in cc)

judged_unfit : (l : Language) (units : UnitReader l) (source q : Text) (o : OpenBracket) (os : List OpenBracket) (s : Sort) (i : Item) (r : Text) (x : Bool) → x ≡ false →
    judged l units source o os q s i r x ≡ stops (refusal l units source s q r (reversed_code i (fit (o.items ++ greatest ∷ []))))
judged_unfit l units source q o os s i r false e = refl
judged_unfit l units source q o os s i r true e = absurd (let g = e in cc)

pub takes_fit : (source : List ℕ) (old new : CodeBracket) (item : CodeItem) (sort : CodeSort) (text : List ℕ) (rest : Bor (List ℕ)) → Takes old item Fits new →
    TakesAs source old item sort text rest.now new (Ok (GoesOn rest))
takes_fit source old new item sort text rest h l units s i outer sorted is here behind o os stands around =
    let took = h l o i stands is in
    (with_item o i, os, judged_fit l units (chars source) (chars text) o os s i (chars rest.now) (fit (o.items ++ i ∷ [])) took.fits, took.stands, around)

pub takes_reversed : (places : PlacesAre) (cursor : Cursor) (old new : CodeBracket) (item : CodeItem) (sort : CodeSort) (text rest : List ℕ) (c : CodePoint) (e : ParseError) → Takes old item (Reversed c) new →
    kind_told (kind_of e) ≡ Some (unexpected (as_character (number_of c))) → IsBefore cursor rest (offset_in e) → TakesAs (source_of cursor) old item sort text rest new (Err e)
takes_reversed places cursor old new item sort text rest c e h is offset l units s i outer sorted item_is here behind o os stands around =
    let refused = h l o i stands item_is in
    let source = chars (source_of cursor) in
    stops_so l _ (rejected (unexpected (as_character (number_of c))) (Some (last_at l units source (chars rest)))) e outer new
    (judged_unfit l units source (chars text) o os s i (chars rest) (fit (o.items ++ i ∷ [])) refused.unfit ∙ ap (λ z. stops (refusal l units source s (chars text) (chars rest) z)) refused.reversed)
    (rejects_before places l units cursor text rest e (unexpected (as_character (number_of c))) here behind is (λ t. refl) offset)

pub takes_unfit : (cursor : Cursor) (old new : CodeBracket) (item : CodeItem) (sort : CodeSort) (text rest : List ℕ) (e : ParseError) → Takes old item Unfit new → IsUnfit cursor sort text rest e →
    TakesAs (source_of cursor) old item sort text rest new (Err e)
takes_unfit cursor old new item sort text rest e h unfit l units s i outer sorted item_is here behind o os stands around =
    let refused = h l o i stands item_is in
    let source = chars (source_of cursor) in
    stops_so l _ (refusal l units source s (chars text) (chars rest) None) e outer new
    (judged_unfit l units source (chars text) o os s i (chars rest) (fit (o.items ++ i ∷ [])) refused.unfit ∙ ap (λ z. stops (refusal l units source s (chars text) (chars rest) z)) refused.reversed)
    (unfit l units s sorted here behind)

-- VARIABLES
module _ (s : Syntax) where
  abbrev l : Language
  l = language_seen s

  bound_by : (name : List ℕ) → encode_utf8_all (chars name) ≡ name → l.variable (chars name) ≡ option_map value_seen (bound s.variables.now name)
  bound_by name text = ap (λ bs. option_map value_seen (bound s.variables.now bs)) text

  pub takes_unbound : (places : PlacesAre) (cursor : Cursor) (b : CodeBracket) (name text rest : List ℕ) (e : ParseError) → encode_utf8_all (chars name) ≡ name → bound s.variables.now name ≡ None →
      kind_told (kind_of e) ≡ Some unknown_variable → IsBefore cursor rest (offset_in e) → TakesVariable l (source_of cursor) b name text rest b (Err e)
  takes_unbound places cursor b name text rest e utf8 none is offset units outer here behind o os stands around =
      let source = chars (source_of cursor) in
      stops_so l _ (rejected unknown_variable (Some (last_at l units source (chars rest)))) e outer b
      (ap (λ v. named_turn l units source o os (chars text) (chars rest) v) (bound_by name utf8 ∙ ap (option_map value_seen) none))
      (rejects_before places l units cursor text rest e unknown_variable here behind is (λ t. refl) offset)

  pub takes_bound : (source : List ℕ) (b new : CodeBracket) (name text rest : List ℕ) (v : VariableValue) (item : CodeItem) (result : Result Progress ParseError) → encode_utf8_all (chars name) ≡ name →
      bound s.variables.now name ≡ Some v → ((l : Language) (g : Gathering) → l.variable (chars name) ≡ Some (value_seen v) → IsItem l g item (item_of (value_seen v))) → TakesAs source b item Variable text rest new result → TakesVariable l source b name text rest new result
  takes_bound source b new name text rest v item result utf8 some is h units outer here behind o os stands around =
      subst (λ t. TurnedTo l t outer new result)
      (sym (ap (λ z. named_turn l units (chars source) o os (chars text) (chars rest) z) (bound_by name utf8 ∙ ap (option_map value_seen) some)))
      (h l units of_variable_name (item_of (value_seen v)) outer refl (is l b.gathered (bound_by name utf8 ∙ ap (option_map value_seen) some)) here behind o os stands around)

-- UNITS
module _ (places : PlacesAre) (awaited : AwaitedTells) (l : Language) (cursor : Cursor) (b : CodeBracket) (text : List ℕ) (several : Bool) (fits : several ≡ went (next (awaits_seen b.awaits) two)) where
  abbrev whole : Text
  whole = chars (source_of cursor)

  -- the outcome of the unit that the grammar's turn asks
  asked : (units : UnitReader l) → front l (chars text) ≡ begins_unit → is_short (chars text) ≡ false → (o : OpenBracket) → Stands l b o → (x : Outcome Meaning) →
      UnitOutcome l.white_space several (resolves l) (lacks l) (chars text) x → units.unit_at (fit (o.items ++ two ∷ [])) (chars text) ≡ x
  asked units f long o stands x is =
      let fit_is = (awaited o.items (awaits_seen b.awaits) stands.steps stands.awaited two).0 in
      ap (λ z. units.unit_at z (chars text)) (fit_is ∙ sym fits) ∙ units.only_unit several (chars text) x f long is

  -- a unit that isn't read
  pub takes_stopped : (stop : Stop) (e : ParseError) → (NamesFit (sets_of l) b.gathered → UnitStops l several text stop) → IsStop cursor stop e → TakesUnit l (source_of cursor) b text b (Err e)
  takes_stopped (Fault kind rest) e stopped is units outer here f long o os stands around =
      let found = stopped stands.fits (units.unit_begins (chars text) f long) in
      let t = asked units f long o stands (faulty (kind_seen kind) found.0) found.2 in
      let place = (places l units whole here.before (chars text)).0 here.is in
      let parts : whole ≡ (here.before ++ found.0) ++ chars rest.now = here.is ∙ (ap (λ z. here.before ++ z) found.1 ∙ sym (append_assoc here.before found.0 (chars rest.now))) in
      tells e (kind_seen kind) _ is.0
      (Some (at l units whole (chars text) ++ found.0), ap (λ z. unit_turn l units whole o os (chars text) z) t, is.1 (here.before ++ found.0) parts ∙ ap (λ z. offset_of (kind_seen kind) (Some (z ++ found.0))) (sym place))
  takes_stopped Ended e stopped is units outer here f long o os stands around =
      let t = asked units f long o stands ended (stopped stands.fits (units.unit_begins (chars text) f long)) in
      tells e eof _ is.0 (None, ap (λ z. unit_turn l units whole o os (chars text) z) t, is.1)
  takes_stopped StopNoMemory e stopped is units outer here f long o os stands around = tells_nothing e _ is.0 is.1

  module _ (item : CodeItem) (rest : List ℕ) (read : NamesFit (sets_of l) b.gathered → UnitIs l b.gathered several text item rest) where
    taken_turn : (units : UnitReader l) → front l (chars text) ≡ begins_unit → is_short (chars text) ≡ false → (o : OpenBracket) (os : List OpenBracket) → Stands l b o → (x : Bool) →
        ((i : Item) → IsItem l b.gathered item i → is_last_property of_unit i (chars rest) ≡ x) → (i : Item) × IsItem l b.gathered item i × (unit_turn l units whole o os (chars text) (units.unit_at (fit (o.items ++ two ∷ [])) (chars text))
        ≡ cond x (stops (rejected eof None)) (judged l units whole o os (chars text) of_unit i (chars rest) (fit (o.items ++ i ∷ []))))
    taken_turn units f long o os stands x last =
        let found = read stands.fits (units.unit_begins (chars text) f long) in
        let i = stands_for l found.unit in
        let t = asked units f long o stands (got found.unit (chars rest)) found.outcome in
        (i, found.item_is, ap (λ z. unit_turn l units whole o os (chars text) z) t ∙ ap (λ z. cond z (stops (rejected eof None)) (judged l units whole o os (chars text) of_unit i (chars rest) (fit (o.items ++ i ∷ [])))) (last i found.item_is))

    -- a property with nothing behind it
    pub takes_last : (e : ParseError) → ((i : Item) → IsItem l b.gathered item i → is_last_property of_unit i (chars rest) ≡ true) → kind_told (kind_of e) ≡ Some eof → offset_in e ≡ None → TakesUnit l (source_of cursor) b text b (Err e)
    takes_last e last is offset units outer here f long o os stands around =
        let t = taken_turn units f long o os stands true last in
        tells e eof _ is (None, t.2, offset)

    -- any other unit
    pub takes_unit : (new : CodeBracket) (result : Result Progress ParseError) → RestsAreBehind l → ((i : Item) → IsItem l b.gathered item i → is_last_property of_unit i (chars rest) ≡ false) →
        TakesAs (source_of cursor) b item Written text rest new result → TakesUnit l (source_of cursor) b text new result
    takes_unit new result behind goes_on h units outer here f long o os stands around =
        let t = taken_turn units f long o os stands false goes_on in
        let found = read stands.fits (units.unit_begins (chars text) f long) in
        let unit = (found.outcome.reads found.unit (chars rest)).0 refl in
        subst (λ z. TurnedTo l z outer new result) (sym t.2)
        (h l units of_unit t.0 outer (λ z. (let g = z in cc)) t.1 here (behind.units several (chars text) (chars rest) found.unit unit) o os stands around)

-- nothing was taken off a list
pub none_popped : (old new : List CodeBracket) (n : ℕ) → old ≡ new ++ [] → new ≡ take (n - 1) old → n ≡ 0 → old ≡ []
none_popped old new n parts rest none = parts ∙ (append-nil new ∙ (rest ∙ ap (λ m. take (m - 1) old) none))

-- an item that wasn't taken doesn't fit
pub misfits : (old new : CodeBracket) (item : CodeItem) (taken : Taken) → (taken ≡ Fits → ⊥) → Takes old item taken new → (l : Language) (o : OpenBracket) (i : Item) → Stands l old o → IsItem l old.gathered item i → fit (o.items ++ i ∷ []) ≡ false
misfits old new item Fits n h l o i s is = absurd (n refl)
misfits old new item (Reversed c) n h l o i s is = (h l o i s is).unfit
misfits old new item Unfit n h l o i s is = (h l o i s is).unfit

-- a bracket opens inside
pub opens_inside : (places : PlacesAre) (cursor : Cursor) (outer new_outer : List CodeBracket) (b new : CodeBracket) (opening : CodeOpening) (text : List ℕ) (inner : Bor (List ℕ)) (offset : ℕ) →
    ((before : Text) → chars (source_of cursor) ≡ before ++ chars text → offset ≡ size before) → IsBegun opening offset new → new_outer ≡ outer ++ b ∷ [] →
    Opens (source_of cursor) outer b opening text inner.now new_outer new (Ok (GoesOn inner))
opens_inside places cursor outer new_outer b new opening text inner offset at_text is pushed l units here o os stands around =
    let whole = chars (source_of cursor) in
    let place = (places l units whole here.before (chars text)).0 here.is in (
      begun (at l units whole (chars text)) opening,
      o ∷ os,
      refl,
      is l (at l units whole (chars text)) (at_text here.before here.is ∙ ap size (sym place)),
      subst (λ bs. AllStand l bs (o ∷ os)) (sym (ap reverse pushed ∙ reverse-append outer (b ∷ []))) (stands, around),
    )

-- a `]` that doesn't fit
pub closes_unfit : (places : PlacesAre) (cursor : Cursor) (outer new_outer : List CodeBracket) (b new : CodeBracket) (text rest : List ℕ) (e : ParseError) → Closes b None → kind_told (kind_of e) ≡ Some (unexpected 0x5D) →
    IsAt cursor text (offset_in e) → ClosesAs (source_of cursor) outer b text rest new_outer new (Err e)
closes_unfit places cursor outer new_outer b new text rest e h is offset l units here o os stands around =
    stops_so l _ (rejected (unexpected 0x5D) (Some (at l units (chars (source_of cursor)) (chars text)))) e new_outer new
    (ap (λ z. closed l units (chars (source_of cursor)) o os (chars text) (chars rest) z) (h l o stands))
    (rejects_at places l units cursor text e (unexpected 0x5D) here is (λ t. refl) offset)

none_around : (l : Language) (os : List OpenBracket) → AllStand l [] os → os ≡ []
none_around l [] h = refl
none_around l (o ∷ os) h = absurd h

-- the outermost bracket closes
pub closes_outermost : (source : List ℕ) (outer new_outer : List CodeBracket) (b new : CodeBracket) (text : List ℕ) (rest : Bor (List ℕ)) (made : Box ClosedSet Global) → Closes b (Some made.value) → outer ≡ [] →
    ClosesAs source outer b text rest.now new_outer new (Ok (Done made rest))
closes_outermost source outer new_outer b new text rest made h none l units here o os stands around =
    let shut = h l o stands in
    let alone = none_around l os (subst (λ bs. AllStand l (reverse bs) os) none around) in (
      tree_of o.header shut.steps,
      ap (λ z. closed l units (chars source) o os (chars text) (chars rest.now) z) shut.arranged ∙ ap (λ z. closed l units (chars source) o z (chars text) (chars rest.now) (Some shut.steps)) alone,
      shut.members,
    )

-- the bracket around the innermost one
pub record BracketAround (l : Language) (around : CodeBracket) (outer : List CodeBracket) (os : List OpenBracket) : Type 0 where
  pub next : OpenBracket
  pub further : List OpenBracket
  pub are : os ≡ next ∷ further
  pub stands : Stands l around next
  pub around_too : Around l outer further

bracket_around : (l : Language) (outer left : List CodeBracket) (around : CodeBracket) (os : List OpenBracket) → outer ≡ left ++ around ∷ [] → Around l outer os → BracketAround l around left os
bracket_around l outer left around os is h = by os refl (subst (λ bs. AllStand l bs os) (ap reverse is ∙ reverse-append left (around ∷ [])) h)
  where
    by : (xs : List OpenBracket) → os ≡ xs → AllStand l (around ∷ reverse left) xs → BracketAround l around left os
    by [] e h = absurd h
    by (o ∷ more) e h = record { next = o; further = more; are = e; stands = h.0; around_too = h.1 }

-- no bracket is around it
pub closes_alone : (source : List ℕ) (outer left : List CodeBracket) (b new : CodeBracket) (text rest : List ℕ) (result : Result Progress ParseError) → outer ≡ left ++ [] → outer ≡ [] →
    ClosesAs source [] b text rest [] new result → ClosesAs source outer b text rest left new result
closes_alone source outer left b new text rest result parts none h =
    let left_none : left ≡ [] = sym (append-nil left) ∙ (sym parts ∙ none) in
    subst (λ z. ClosesAs source z b text rest left new result) (sym none) (subst (λ z. ClosesAs source [] b text rest z new result) (sym left_none) h)

-- nothing stands behind a bracket inside
pub closes_last : (source : List ℕ) (outer new_outer left : List CodeBracket) (b around new : CodeBracket) (text rest : List ℕ) (made : ClosedSet) (e : ParseError) → Closes b (Some made) → outer ≡ left ++ around ∷ [] →
    chars rest ≡ [] → kind_told (kind_of e) ≡ Some eof → offset_in e ≡ None → ClosesAs source outer b text rest new_outer new (Err e)
closes_last source outer new_outer left b around new text rest made e h popped none is offset l units here o os stands around_h =
    let shut = h l o stands in
    let next = bracket_around l outer left around os popped around_h in
    tells e eof _ is (
      None,
      ap (λ z. closed l units (chars source) o os (chars text) (chars rest) z) shut.arranged
          ∙ (ap (λ z. closed l units (chars source) o z (chars text) (chars rest) (Some shut.steps)) next.are ∙ ap (λ z. closed l units (chars source) o (next.next ∷ next.further) (chars text) z (Some shut.steps)) none),
      offset,
    )

module _ (source : List ℕ) (outer left : List CodeBracket) (b around new : CodeBracket) (text : List ℕ) (rest : Bor (List ℕ)) (made : ClosedSet) (shuts : Closes b (Some made)) (popped : outer ≡ left ++ around ∷ []) (c : ℕ) (t : Text)
    (more : chars rest.now ≡ c ∷ t) where
  module _ (l : Language) (units : UnitReader l) (o : OpenBracket) (os : List OpenBracket) (stands : Stands l b o) (around_h : Around l outer os) where
    abbrev inside : BracketAround l around left os
    inside = bracket_around l outer left around os popped around_h

    abbrev set_item : Item
    set_item = nested (tree_of o.header (shuts l o stands).steps)

    is_set_item : IsItem l around.gathered (Set (Inner made)) set_item
    is_set_item = record { meant = record { tree = tree_of o.header (shuts l o stands).steps; text = [] }; same = λ m. sym ((shuts l o stands).members m); is = refl }

    closed_turn : (x : Bool) → fit (inside.next.items ++ set_item ∷ []) ≡ x →
        closed l units (chars source) o os (chars text) (chars rest.now) (arrange o.items) ≡ nested_turn l units (chars source) o inside.next inside.further (c ∷ t) set_item x
    closed_turn x fits =
        ap (λ z. closed l units (chars source) o os (chars text) (chars rest.now) z) (shuts l o stands).arranged
        ∙ (ap (λ z. closed l units (chars source) o z (chars text) (chars rest.now) (Some (shuts l o stands).steps)) inside.are
        ∙ (ap (λ z. closed l units (chars source) o (inside.next ∷ inside.further) (chars text) z (Some (shuts l o stands).steps)) more
        ∙ ap (λ z. nested_turn l units (chars source) o inside.next inside.further (c ∷ t) set_item z) fits))

  -- its set fits outside
  pub closes_inside : Takes around (Set (Inner made)) Fits new → ClosesAs source outer b text rest.now left new (Ok (GoesOn rest))
  closes_inside h l units here o os stands around_h =
      let k = inside l units o os stands around_h in
      let took = h l k.next (set_item l units o os stands around_h) k.stands (is_set_item l units o os stands around_h) in (
        with_item k.next (set_item l units o os stands around_h),
        k.further,
        closed_turn l units o os stands around_h true took.fits ∙ ap (λ z. goes (with_item k.next (set_item l units o os stands around_h) ∷ k.further) z) (sym more),
        took.stands,
        k.around_too,
      )

  -- its set doesn't fit outside
  pub closes_misplaced : (unfit : (l : Language) (o : OpenBracket) (i : Item) → Stands l around o → IsItem l around.gathered (Set (Inner made)) i → fit (o.items ++ i ∷ []) ≡ false) (e : ParseError) →
      kind_told (kind_of e) ≡ Some (unexpected 0x5B) → offset_in e ≡ Some b.before → ClosesAs source outer b text rest.now left new (Err e)
  closes_misplaced unfit e is offset l units here o os stands around_h =
      let k = inside l units o os stands around_h in
      tells e (unexpected 0x5B) _ is (
        Some o.before,
        closed_turn l units o os stands around_h false (unfit l k.next (set_item l units o os stands around_h) k.stands (is_set_item l units o os stands around_h)),
        offset ∙ ap (λ z. Some z) stands.before,
      )

-- A TURN
skip_parts : (test : ℕ → Bool) (t : Text) → (w : Text) × (t ≡ w ++ skip test t)
skip_parts test [] = ([], refl)
skip_parts test (c ∷ t) = by (test c) (skip_parts test t)
  where
    by : (x : Bool) → (w : Text) × (t ≡ w ++ skip test t) → (w : Text) × (c ∷ t ≡ w ++ cond x (skip test t) (c ∷ t))
    by true (w, e) = (c ∷ w, ap (λ z. c ∷ z) e)
    by false p = ([], refl)

module _ (s : Syntax) (cursor : Cursor) (outer : List CodeBracket) (b : CodeBracket) (text : List ℕ) (skipped : chars text ≡ skip (language_seen s).white_space (chars (left_of cursor)))
    (long : is_short (chars text) ≡ false) where
  abbrev spoken : Language
  spoken = language_seen s

  abbrev all_of_it : Text
  all_of_it = chars (source_of cursor)

  text_there : Before (source_of cursor) (left_of cursor) → Before (source_of cursor) text
  text_there here =
      let w = skip_parts spoken.white_space (chars (left_of cursor)) in
      record { before = here.before ++ w.0; is = here.is ∙ (ap (λ t. here.before ++ t) (w.1 ∙ ap (λ t. w.0 ++ t) (sym skipped)) ∙ sym (append_assoc here.before w.0 (chars text))) }

  turn_is : (units : UnitReader spoken) (o : OpenBracket) (os : List OpenBracket) (f : Front) → front spoken (chars text) ≡ f → turn spoken units all_of_it (o ∷ os) (chars (left_of cursor)) ≡ front_turn spoken units all_of_it o os (chars text) f
  turn_is units o os f e =
      ap (λ q. cond (is_short q) (stops (rejected eof None)) (front_turn spoken units all_of_it o os q (front spoken q))) (sym skipped)
      ∙ (ap (λ x. cond x (stops (rejected eof None)) (front_turn spoken units all_of_it o os (chars text) (front spoken (chars text)))) long
      ∙ ap (λ z. front_turn spoken units all_of_it o os (chars text) z) e)

  pub turned : (f : Front) → front spoken (chars text) ≡ f → (new_outer : List CodeBracket) (new : CodeBracket) (result : Result Progress ParseError) →
      ((units : UnitReader spoken) → Before (source_of cursor) text → ForAll spoken outer b (λ o os. TurnedTo spoken (front_turn spoken units all_of_it o os (chars text) f) new_outer new result)) →
      Turns spoken (source_of cursor) (left_of cursor) outer b new_outer new result
  turned f e new_outer new result h units here o os stands around =
      subst (λ t. TurnedTo spoken t new_outer new result) (sym (turn_is units o os f e)) (h units (text_there here) o os stands around)

  pub turned_caret : PlacesAre → front spoken (chars text) ≡ caret → (e : ParseError) → kind_told (kind_of e) ≡ Some (unexpected 0x5E) → IsAt cursor text (offset_in e) →
      Turns spoken (source_of cursor) (left_of cursor) outer b outer b (Err e)
  turned_caret places f e is offset =
      turned caret f outer b (Err e) (λ units here o os stands around.
      stops_so spoken _ (rejected (unexpected 0x5E) (Some (at spoken units all_of_it (chars text)))) e outer b refl
      (rejects_at places spoken units cursor text e (unexpected 0x5E) here is (λ t. refl) offset))

  pub turned_single : RestsAreBehind spoken → (item : CodeItem) (seen : Item) (rest : List ℕ) (new : CodeBracket) (result : Result Progress ParseError) → ((m : Language) (g : Gathering) → IsItem m g item seen) →
      front spoken (chars text) ≡ single seen (chars rest) → TakesAs (source_of cursor) b item Written text rest new result →
      Turns spoken (source_of cursor) (left_of cursor) outer b outer new result
  turned_single behind item seen rest new result is f h =
      turned (single seen (chars rest)) f outer new result (λ units here o os stands around.
      h spoken units of_one_character seen outer (λ z. (let g = z in cc)) (is spoken b.gathered) here
      (behind.singles (chars text) (chars rest) seen f) o os stands around)
