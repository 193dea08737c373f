-- One turn of a reader, from the brackets that are open and the rest: it goes on, or stops. That each turn is a move, a
-- fault or a reading is a law.
use Rattle.std.specs.Prelude.{◌≡◌, ℕ, ◌-◌, suc, length, take, Bool, true, false, List, [], ◌∷◌, ◌++◌, Option, Some, None, if◌then◌else◌}
use Prim.Native.Char.{code}
use Rattle.uset_grammar.specs.Text.{Text, skip}
use Rattle.uset_grammar.specs.Tree.{Tree, Member, given, Steps}
use Rattle.uset_grammar.specs.Item.{Item, chars, text, nested, minus, ampersand, dollar, tree_of}
use Rattle.uset_grammar.specs.Body.{Body}
use Rattle.uset_grammar.specs.Arranging.{fit, arrange}
use Rattle.uset_grammar.specs.Outcome.{Kind, unexpected, unknown_variable, unexpected_variable, eof, Outcome, got, faulty, ended}
use Rattle.uset_grammar.specs.Property.{Query, PropertyBegins, PropertyRead, PropertyOutcome}
use Rattle.uset_grammar.specs.Unit.{Meaning, UnitBegins, UnitOutcome}
use Rattle.uset_grammar.specs.Language.{Value, character, string, set, item_of, Language, stands_for, resolves, lacks, property_tree}
use Rattle.uset_grammar.specs.Front.{Front, nothing, closing, opening, single, of_name, begins_unit, caret, front, First, too_short, stray, bare, of_variable, of_bracket, of_property, first}
use Rattle.uset_grammar.specs.Grammar.{Sort, of_one_character, of_variable_name, of_unit}
use Rattle.uset_grammar.specs.Reached.{OpenBracket, with_item, is_short, is_last_property, Moves}
use Rattle.uset_grammar.specs.Fault.{as_character, FaultAt}

-- The outcome of each unit that begins a text in a bracket, and of each property that begins a source.
pub record UnitReader (l : Language) : Type 0 where
  pub unit_at : Bool → Text → Outcome Meaning
  pub property_at : Text → Outcome Query
  pub units : (both : Bool) (q : Text) → front l q ≡ begins_unit → is_short q ≡ false →
      UnitOutcome l.white_space both (resolves l) (lacks l) q (unit_at both q)
  pub properties : (t : Text) → first l t ≡ of_property →
      PropertyOutcome l.white_space (resolves l) (lacks l) t (property_at t)
  -- there is no other
  pub only_unit : (both : Bool) (q : Text) (o : Outcome Meaning) → front l q ≡ begins_unit → is_short q ≡ false →
      UnitOutcome l.white_space both (resolves l) (lacks l) q o → unit_at both q ≡ o
  pub only_property : (t : Text) (o : Outcome Query) → first l t ≡ of_property →
      PropertyOutcome l.white_space (resolves l) (lacks l) t o → property_at t ≡ o
  -- how units and properties begin
  pub unit_begins : (q : Text) → front l q ≡ begins_unit → is_short q ≡ false → UnitBegins q
  pub property_begins : (t : Text) → first l t ≡ of_property → PropertyBegins t

-- What the machine ends with: a tree and a rest, or a kind of fault and the text before its place.
pub data Verdict : Type 0 where
  accepted : Tree → Text → Verdict
  rejected : Kind → Option Text → Verdict

pub data Turn : Type 0 where
  goes : List OpenBracket → Text → Turn
  stops : Verdict → Turn

-- two codes and the greatest code
abbrev pub two : Item
two = chars (0 ∷ 0 ∷ [])

abbrev pub greatest : Item
greatest = chars (0x10FFFF ∷ [])

-- the code of a range that is reversed
abbrev pub reversed_code : Item → Bool → Option ℕ
reversed_code (chars []) over = None
reversed_code (chars (c ∷ [])) over = if over then Some c else None
reversed_code (chars (c ∷ d ∷ cs)) over = None
reversed_code (text t) over = None
reversed_code (nested t) over = None
reversed_code minus over = None
reversed_code ampersand over = None
reversed_code dollar over = None

abbrev pub head : Text → ℕ
head [] = 0
head (c ∷ t) = c

module _ (l : Language) (units : UnitReader l) (source : Text) where
  -- the text before a rest, and that before the character in front of it
  abbrev pub at : Text → Text
  at r = take (length source - length r) source

  abbrev pub last_at : Text → Text
  last_at r = take (length source - suc (length r)) source

  abbrev pub refusal : Sort → Text → Text → Option ℕ → Verdict
  refusal s q r (Some c) = rejected (unexpected (as_character c)) (Some (last_at r))
  refusal of_variable_name q r None = rejected unexpected_variable (Some (last_at r))
  refusal of_one_character q r None = rejected (unexpected (head q)) (Some (at q))
  refusal of_unit q r None = rejected (unexpected (head q)) (Some (at q))

  abbrev pub judged : OpenBracket → List OpenBracket → Text → Sort → Item → Text → Bool → Turn
  judged b bs q s i r true = goes (with_item b i ∷ bs) r
  judged b bs q s i r false = stops (refusal s q r (reversed_code i (fit (b.items ++ greatest ∷ []))))

  abbrev pub taken : OpenBracket → List OpenBracket → Text → Sort → Item → Text → Turn
  taken b bs q s i r =
      if is_last_property s i r then stops (rejected eof None) else judged b bs q s i r (fit (b.items ++ i ∷ []))

  abbrev pub named_turn : OpenBracket → List OpenBracket → Text → Text → Option Value → Turn
  named_turn b bs q r None = stops (rejected unknown_variable (Some (last_at r)))
  named_turn b bs q r (Some v) = taken b bs q of_variable_name (item_of v) r

  abbrev pub unit_turn : OpenBracket → List OpenBracket → Text → Outcome Meaning → Turn
  unit_turn b bs q (got m r) = taken b bs q of_unit (stands_for l m) r
  unit_turn b bs q (faulty k w) = stops (rejected k (Some (at q ++ w)))
  unit_turn b bs q ended = stops (rejected eof None)

  abbrev pub nested_turn : OpenBracket → OpenBracket → List OpenBracket → Text → Item → Bool → Turn
  nested_turn b outer bs r i true = goes (with_item outer i ∷ bs) r
  nested_turn b outer bs r i false = stops (rejected (unexpected (code "[")) (Some b.before))

  abbrev pub closed : OpenBracket → List OpenBracket → Text → Text → Option Steps → Turn
  closed b bs q r None = stops (rejected (unexpected (code "]")) (Some (at q)))
  closed b [] q r (Some steps) = stops (accepted (tree_of b.header steps) r)
  closed b (outer ∷ bs) q [] (Some steps) = stops (rejected eof None)
  closed b (outer ∷ bs) q (c ∷ r) (Some steps) =
      nested_turn b outer bs (c ∷ r) (nested (tree_of b.header steps)) (fit (outer.items ++ nested (tree_of b.header steps) ∷ []))

  abbrev pub front_turn : OpenBracket → List OpenBracket → Text → Front → Turn
  front_turn b bs q nothing = stops (rejected eof None)
  front_turn b bs q (closing r) = closed b bs q r (arrange b.items)
  front_turn b bs q (opening o inner) = goes (record { before = at q; header = o; items = [] } ∷ b ∷ bs) inner
  front_turn b bs q (single i r) = taken b bs q of_one_character i r
  front_turn b bs q (of_name n r) = named_turn b bs q r (l.variable n)
  front_turn b bs q begins_unit = unit_turn b bs q (units.unit_at (fit (b.items ++ two ∷ [])) q)
  front_turn b bs q caret = stops (rejected (unexpected (code "^")) (Some (at q)))

  abbrev pub variable_turn : Text → Option Value → Turn
  variable_turn r None = stops (rejected unknown_variable (Some (last_at r)))
  variable_turn r (Some (character c)) = stops (rejected unexpected_variable (Some (last_at r)))
  variable_turn r (Some (string t)) = stops (rejected unexpected_variable (Some (last_at r)))
  variable_turn r (Some (set members)) = stops (accepted (given members) r)

  abbrev pub property_turn : Text → Outcome Query → Turn
  property_turn t (got n r) = stops (accepted (property_tree l n) r)
  property_turn t (faulty k w) = stops (rejected k (Some (at t ++ w)))
  property_turn t ended = stops (rejected eof None)

  abbrev pub first_turn : Text → First → Turn
  first_turn t too_short = stops (rejected eof None)
  first_turn t (stray c) = stops (rejected (unexpected c) (Some (at t)))
  first_turn t bare = stops (rejected (unexpected (code "$")) (Some (at t)))
  first_turn t (of_variable n r) = variable_turn r (l.variable n)
  first_turn t (of_bracket o inner) = goes (record { before = at t; header = o; items = [] } ∷ []) inner
  first_turn t of_property = property_turn t (units.property_at t)

  abbrev pub turn : List OpenBracket → Text → Turn
  turn [] t = first_turn t (first l t)
  turn (b ∷ bs) t =
      if is_short (skip l.white_space t) then stops (rejected eof None)
      else front_turn b bs (skip l.white_space t) (front l (skip l.white_space t))

  -- what is read at last
  pub data Accepts : List OpenBracket → Text → Tree → Text → Type 0 where
    variable_read : {t n r : Text} {members : Member → Bool} → first l t ≡ of_variable n r →
        l.variable n ≡ Some (set members) → Accepts [] t (given members) r
    property_read : {t r : Text} {n : Query} → first l t ≡ of_property →
        PropertyRead l.white_space (resolves l) (lacks l) t n r → Accepts [] t (property_tree l n) r
    bracket_read : {t r : Text} {b : OpenBracket} {steps : Steps} → front l (skip l.white_space t) ≡ closing r →
        Body b.items steps → Accepts (b ∷ []) t (tree_of b.header steps) r

  abbrev pub Means : List OpenBracket → Text → Turn → Type 0
  Means bs t (goes cs u) = Moves l source bs t cs u
  Means bs t (stops (accepted tree r)) = Accepts bs t tree r
  Means bs t (stops (rejected k p)) = FaultAt l source bs t k p
