-- Units that are read.
use Rattle.std.proofs.Common.{zero, suc, length, Option, Some, None, inl, inr, ◌≡◌, ◌≤◌, ℕ, Bool, true, false, not, nat_lt, All, Box, List, [], ◌∷◌, refl, sym, ap, ◌∙◌, subst, arith}
use Rattle.std.specs.Prelude.{◌==◌, is_some}
use Rattle.std.proofs.lemmas.Bool.{eqb-true, and_parts}
use Rattle.std.proofs.lemmas.Bool.Decides.{nat_tests}
use Rattle.std.specs.Global.{Global}
use Rattle.std.specs.declared.string.String.{String}
use Rattle.cp_strset.specs.StringList.{sole_of}
use Rattle.std.specs.List.{list_all}
use Rattle.std.specs.Str.{chars}
use Rattle.std.specs.String.{string_bytes}
use Rattle.std.proofs.lemmas.List.{nil_from_length}
use Rattle.uset_grammar.specs.Text.{Text}
use Rattle.uset_grammar.specs.Outcome.{Outcome, got, faulty, ended, meaning}
use Rattle.uset_grammar.specs.Escape.{Spelled, is_above}
use Rattle.uset_grammar.specs.EscapeSlips.{in_bracket, fits_in, so_many, allowed, EscapeOutcome}
use Rattle.uset_grammar.specs.BracedString.{StringOutcome}
use Rattle.uset_grammar.specs.Property.{Query, PropertyBegins, PropertyOutcome}
use Rattle.uset_grammar.specs.Unit.{Meaning, an_escape, a_string, a_property, begins_property, UnitBegins, brace_begins, posix_begins, backslash_begins, UnitOutcome}
use Rattle.uset_grammar.specs.Tree.{Tree, Member, given, is_text}
use Rattle.uset_grammar.specs.Item.{chars as item_chars, text as item_text, nested, text_item}
use Rattle.uset_grammar.specs.Language.{string as value_string, set as value_set, Language, resolves, lacks, property_tree}
use Rattle.uset_grammar.specs.Laws.{KindsTell, UnitsOfKinds}
use Rattle.cp_strset.specs.StringSet.{StringSet}
use Rattle.uset_gather.specs.Gathered.{in_set}
use Rattle.uset_steps.specs.declared.gathering.Gathering.{Gathering}
use Rattle.uset_steps.specs.declared.named_set.Named.{Named as NamedOperand}
use Rattle.uset_steps.specs.Names.{variable, name_seen, named_in, IsSetOf}
use Rattle.uset_reader.specs.declared.item.Operand.TheVariants.{Named}
use Rattle.uset_reader.specs.Named.{bound_set, sets_of}
use Rattle.uset_read.specs.declared.stop.Stop.{Stop}
use Rattle.uset_read.specs.declared.stop.Stop.TheVariants.{Fault, Ended, NoMemory}
use Rattle.uset_read.specs.declared.escape.Spelled.{Spelled as CodeSpelled}
use Rattle.uset_read.specs.declared.escape.Spelled.TheVariants.{Itself, Numbers}
use Rattle.uset_read.specs.declared.escape.Around.TheVariants.{Bracket}
use Rattle.uset_read.specs.Spelled.{spelled_seen, EscapeIs, EscapeStops}
use Rattle.uset_read.specs.Pieces.{StringIs, StringStops}
use Rattle.uset_read.specs.UnitRead.{StopsAt}
use Rattle.uset_reader.specs.declared.syntax.Syntax.{Syntax}
use Rattle.uset_reader.specs.declared.item.Operand.{Operand}
use Rattle.uset_reader.specs.declared.item.Item.{Item as CodeItem}
use Rattle.uset_reader.specs.declared.item.Item.TheVariants.{Single, Several, Text as Spelled_text, NamedText, Set}
use Rattle.uset_reader.specs.declared.item.Codes.{Codes}
use Rattle.uset_reader.specs.declared.code_point.CodePoint.{CodePoint}
use Rattle.uset_reader.specs.Items.{number_of, Meant, Means, item_seen}
use Rattle.uset_reader.specs.Brackets.{IsItem}
use Rattle.uset_reader.specs.Syntaxes.{language_seen}
use Rattle.uset_reader.specs.Units.{begins_with, AreCodePoints, chars_of, IsString, IsEscape, IsProperty, OperandIn, OperandStops, UnitIs, UnitStops}

-- a stop of one kind of unit is a stop of the unit
stops_lift : {V : Type 0} (f : V → Meaning) (Is : Outcome V → Type 0) (IsUnit : Outcome Meaning → Type 0) → ((o : Outcome V) → Is o → IsUnit (meaning f o)) → (q : Text) (stop : Stop) →
    StopsAt Is q stop → StopsAt IsUnit q stop
stops_lift f Is IsUnit lift q (Fault kind rest) h = (h.0, h.1, lift (faulty _ h.0) h.2)
stops_lift f Is IsUnit lift q Ended h = lift ended h
stops_lift f Is IsUnit lift q NoMemory h = tt

not_above : (n : ℕ) → not (is_above n) ≡ true → n ≤ 0x10FFFF
unfolding is_above
not_above n h = by (nat_lt 0x10FFFF n) refl h
  where
    by : (x : Bool) → nat_lt 0x10FFFF n ≡ x → not x ≡ true → n ≤ 0x10FFFF
    by true e h = absurd (let g : false ≡ true = h in cc)
    by false e h = grind (arith, nat_tests)

all_within : (several : Bool) (ns : List ℕ) → list_all (fits_in (in_bracket several)) ns ≡ true → All (λ n. n ≤ 0x10FFFF) ns
all_within several [] h i d below = absurd (omega (arith, below))
all_within several (n ∷ ns) h zero d below = not_above n (and_parts (not (is_above n)) (list_all (fits_in (in_bracket several)) ns) h).0
all_within several (n ∷ ns) h (suc i) d below = all_within several ns (and_parts (not (is_above n)) (list_all (fits_in (in_bracket several)) ns) h).1 i d (omega (arith, below))

allowed_within : (several : Bool) (spelled : CodeSpelled) → allowed (in_bracket several) (spelled_seen spelled) ≡ true → AreCodePoints spelled
allowed_within several (Itself c) h = tt
allowed_within several (Numbers first more) h = all_within several (first ∷ more.items) (and_parts (list_all (fits_in (in_bracket several)) (first ∷ more.items)) (so_many (in_bracket several) (first ∷ more.items)) h).0

-- what no item has that is no set
no_tree : Tree
no_tree = given (λ m. false)

pub nothing_meant : Meant
nothing_meant = record { tree = no_tree; text = [] }

-- an item that is no set
pub plain_item : (l : Language) (g : Gathering) (item : CodeItem) → Means l g item nothing_meant → IsItem l g item (item_seen nothing_meant item)
plain_item l g item h = record { meant = nothing_meant; same = h; is = refl }

-- ITEMS
pub single_item : (l : Language) (g : Gathering) (c : CodePoint) (n : ℕ) → number_of c ≡ n → IsItem l g (Single c) (item_chars (n ∷ []))
single_item l g c n e = record { meant = nothing_meant; same = tt; is = ap (λ z. item_chars (z ∷ [])) (sym e) }

pub one_item : (l : Language) (g : Gathering) (c : CodePoint) (n : ℕ) (more : List ℕ) → number_of c ≡ n → more ≡ [] → IsItem l g (Single c) (item_chars (n ∷ more))
one_item l g c n more e none = subst (λ ns. IsItem l g (Single c) (item_chars (n ∷ ns))) (sym none) (single_item l g c n e)

pub several_item : (l : Language) (g : Gathering) (codes : Codes) → IsItem l g (Several codes) (item_chars (codes.first ∷ codes.more.items))
several_item l g codes = record { meant = nothing_meant; same = tt; is = refl }

pub none_left : (xs ys : List ℕ) (b : Bool) → ys ≡ xs → b ≡ (length ys == 0) → b ≡ true → xs ≡ []
none_left xs ys b same is h = nil_from_length xs (eqb-true (length xs) 0 (sym (is ∙ ap (λ zs. length zs == 0) same) ∙ h))

sole_text : (t : Text) (c : ℕ) → sole_of t ≡ Some c → text_item t ≡ item_chars (c ∷ [])
sole_text [] c h = absurd (let g = h in cc)
sole_text (d ∷ []) c h = let g : d ≡ c = cc in ap (λ z. item_chars (z ∷ [])) g
sole_text (d ∷ e ∷ t) c h = absurd (let g = h in cc)

other_text : (t : Text) → sole_of t ≡ None → text_item t ≡ item_text t
other_text [] h = refl
other_text (d ∷ []) h = absurd (let g = h in cc)
other_text (d ∷ e ∷ t) h = refl

pub sole_item : (l : Language) (g : Gathering) (c : CodePoint) (t : Text) (d : ℕ) → sole_of t ≡ Some d → number_of c ≡ d → IsItem l g (Single c) (text_item t)
sole_item l g c t d h e = subst (IsItem l g (Single c)) (sym (sole_text t d h)) (single_item l g c d e)

pub string_item : (l : Language) (g : Gathering) (s : String Global) → sole_of (chars (string_bytes s)) ≡ None → IsItem l g (Spelled_text s) (text_item (chars (string_bytes s)))
string_item l g s h = record { meant = nothing_meant; same = tt; is = other_text (chars (string_bytes s)) h }

-- a copy of a string
pub copied_item : (l : Language) (g : Gathering) (s : String Global) (bytes : List ℕ) → string_bytes s ≡ bytes → IsItem l g (Spelled_text s) (item_text (chars bytes))
copied_item l g s bytes e = record { meant = nothing_meant; same = tt; is = ap (λ bs. item_text (chars bs)) (sym e) }

-- a variable that is bound to a set stands for it
pub variable_set : (l : Language) (named : NamedOperand) (name : List ℕ) (set : StringSet) → name_seen named.name ≡ variable name → ((m : Member) → named_in named.set m ≡ in_set set m) →
    l.variable (chars name) ≡ Some (value_set (in_set set)) → IsSetOf (sets_of l) named
variable_set l named name set called same bound = record { members = in_set set; is = ap (sets_of l) called ∙ ap bound_set bound; same = same }

-- a variable that is bound to a set
pub set_item : (l : Language) (g : Gathering) (named : Box NamedOperand Global) (name : List ℕ) (set : StringSet) → name_seen named.value.name ≡ variable name → ((m : Member) → named_in named.value.set m ≡ in_set set m) →
    l.variable (chars name) ≡ Some (value_set (in_set set)) → IsItem l g (Set (Named named)) (nested (given (in_set set)))
set_item l g named name set called same bound = record {
  meant = record { tree = given (in_set set); text = [] };
  same = (λ m. sym (same m), variable_set l named.value name set called same bound);
  is = refl;
}

-- a variable that is bound to a string, and the set of it alone
pub named_text_item : (l : Language) (g : Gathering) (named : Box NamedOperand Global) (name bytes : List ℕ) → name_seen named.value.name ≡ variable name → ((m : Member) → named_in named.value.set m ≡ is_text (chars bytes) m) →
    l.variable (chars name) ≡ Some (value_string (chars bytes)) → IsItem l g (NamedText named) (item_text (chars bytes))
named_text_item l g named name bytes called same bound = record {
  meant = record { tree = no_tree; text = chars bytes };
  same = (same, record { members = is_text (chars bytes); is = ap (sets_of l) called ∙ ap bound_set bound; same = same });
  is = refl;
}

-- UNITS
module _ (s : Syntax) (kinds : KindsTell) (several : Bool) (text : List ℕ) where
  abbrev l : Language
  l = language_seen s

  abbrev Outcomes : Text → Outcome Meaning → Type 0
  Outcomes = UnitOutcome l.white_space several (resolves l) (lacks l)

  abbrev units : UnitsOfKinds l.white_space several (resolves l) (lacks l)
  units = kinds l.white_space s.apart several (resolves l) (lacks l)

  of_string : (inner : Text) → chars text ≡ 0x7B ∷ inner → (o : Outcome (List Spelled)) → StringOutcome l.white_space (chars text) o → Outcomes (chars text) (meaning a_string o)
  of_string inner e o h = subst (λ z. Outcomes z (meaning a_string o)) (sym e) (units.strings inner o (subst (λ z. StringOutcome l.white_space z o) e h))

  pub string_read : IsString (chars text) → (string rest : List ℕ) (item : CodeItem) → StringIs s.white_space.now text string rest → (g : Gathering) → IsItem l g item (text_item (chars string)) → UnitIs l g several text item rest
  string_read begins string rest item h g is b =
      let found = h s.apart begins.inner begins.parts in record {
        unit = a_string found.0;
        outcome = of_string begins.inner begins.parts (got found.0 (chars rest)) found.1;
        item_is = subst (λ t. IsItem l g item (text_item t)) found.2 is;
      }

  pub string_stops : IsString (chars text) → (stop : Stop) → StringStops s.white_space.now text stop → UnitStops l several text stop
  string_stops begins stop h b =
      stops_lift a_string (StringOutcome l.white_space (chars text)) (Outcomes (chars text)) (of_string begins.inner begins.parts) (chars text) stop (h s.apart begins.inner begins.parts)

  -- the character behind the backslash
  letter_of : (inner : Text) → chars text ≡ 0x5C ∷ inner → begins_with begins_property inner ≡ false → UnitBegins (chars text) → (d : ℕ) × (t : Text) × (chars text ≡ 0x5C ∷ d ∷ t) × (begins_property d ≡ false)
  letter_of inner e other b = by (chars text) refl b
    where
      by : (q : Text) → chars text ≡ q → UnitBegins q → (d : ℕ) × (t : Text) × (chars text ≡ 0x5C ∷ d ∷ t) × (begins_property d ≡ false)
      by _ is brace_begins = absurd (let g : ◌≡◌ {A = ℕ} 0x7B 0x5C = (let h = sym is ∙ e in cc) in omega (arith, g))
      by _ is posix_begins = absurd (let g : ◌≡◌ {A = ℕ} 0x5B 0x5C = (let h = sym is ∙ e in cc) in omega (arith, g))
      by _ is (backslash_begins {d} {t}) = (d, t, is, let behind : d ∷ t ≡ inner = (let h = sym is ∙ e in cc) in ap (begins_with begins_property) behind ∙ other)

  of_escape : (d : ℕ) (t : Text) → chars text ≡ 0x5C ∷ d ∷ t → begins_property d ≡ false → (o : Outcome Spelled) → EscapeOutcome l.white_space (in_bracket several) (chars text) o →
      Outcomes (chars text) (meaning an_escape o)
  of_escape d t e other o h = subst (λ z. Outcomes z (meaning an_escape o)) (sym e) (units.escapes d t o other (subst (λ z. EscapeOutcome l.white_space (in_bracket several) z o) e h))

  pub escape_within : IsEscape (chars text) → (spelled : CodeSpelled) (rest : List ℕ) → EscapeIs s.white_space.now (Bracket several) text spelled rest → AreCodePoints spelled
  escape_within begins spelled rest h =
      let found = h s.apart begins.inner begins.parts in
      allowed_within several spelled ((found.reads (spelled_seen spelled) (chars rest)).0 refl).fits

  pub escape_read : IsEscape (chars text) → (spelled : CodeSpelled) (rest : List ℕ) (item : CodeItem) → EscapeIs s.white_space.now (Bracket several) text spelled rest → (g : Gathering) → IsItem l g item (chars_of spelled) →
      UnitIs l g several text item rest
  escape_read begins spelled rest item h g is b =
      let letter = letter_of begins.inner begins.parts begins.no_property b in record {
        unit = an_escape (spelled_seen spelled);
        outcome = of_escape letter.0 letter.1 letter.2 letter.3 (got (spelled_seen spelled) (chars rest)) (h s.apart begins.inner begins.parts);
        item_is = is;
      }

  pub escape_stops : IsEscape (chars text) → (stop : Stop) → EscapeStops s.white_space.now (Bracket several) text stop → UnitStops l several text stop
  escape_stops begins stop h b =
      let letter = letter_of begins.inner begins.parts begins.no_property b in
      stops_lift an_escape (EscapeOutcome l.white_space (in_bracket several) (chars text)) (Outcomes (chars text)) (of_escape letter.0 letter.1 letter.2 letter.3) (chars text) stop
      (h s.apart begins.inner begins.parts)

  property_begins : UnitBegins (chars text) → IsProperty (chars text) → PropertyBegins (chars text)
  property_begins b other = by (chars text) refl b
    where
      by : (q : Text) → chars text ≡ q → UnitBegins q → PropertyBegins (chars text)
      by _ is (brace_begins {t}) = absurd (other.no_string t is)
      by _ is (posix_begins {t}) = (t, inl is)
      by _ is (backslash_begins {d} {t}) = (d ∷ t, inr is)

  of_property : UnitBegins (chars text) → IsProperty (chars text) → (o : Outcome Query) → PropertyOutcome l.white_space (resolves l) (lacks l) (chars text) o → Outcomes (chars text) (meaning a_property o)
  of_property b other o h = by (chars text) refl b
    where
      by : (q : Text) → chars text ≡ q → UnitBegins q → Outcomes (chars text) (meaning a_property o)
      by _ is (brace_begins {t}) = absurd (other.no_string t is)
      by _ is (posix_begins {t}) = subst (λ z. Outcomes z (meaning a_property o)) (sym is) (units.posix_properties (0x3A ∷ t) o (subst (λ z. PropertyOutcome l.white_space (resolves l) (lacks l) z o) is h))
      by _ is (backslash_begins {d} {t}) =
          subst (λ z. Outcomes z (meaning a_property o)) (sym is) (units.perl_properties d t o (other.no_escape d t is) (subst (λ z. PropertyOutcome l.white_space (resolves l) (lacks l) z o) is h))

  pub property_read : IsProperty (chars text) → (g : Gathering) (operand : Operand) (rest : List ℕ) → OperandIn l g text operand rest → UnitIs l g several text (Set operand) rest
  property_read other g operand rest h b =
      let found = h (property_begins b other) in record {
        unit = a_property found.query;
        outcome = of_property b other (got found.query (chars rest)) found.outcome;
        item_is = record { meant = record { tree = property_tree l found.query; text = [] }; same = found.members; is = refl };
      }

  pub property_stops : IsProperty (chars text) → (stop : Stop) → OperandStops l text stop → UnitStops l several text stop
  property_stops other stop h b =
      stops_lift a_property (PropertyOutcome l.white_space (resolves l) (lacks l) (chars text)) (Outcomes (chars text)) (of_property b other) (chars text) stop (h (property_begins b other))
