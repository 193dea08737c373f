-- A property that is read up to its end mark, as the code keeps it.
use Rattle.std.specs.Prelude.{◌≡◌, ℕ, Bool, true, false, List, [], ◌++◌, String}
use Rattle.std.specs.Borrow.{Bor}
use Rattle.std.specs.Option.{option_map}
use Rattle.std.specs.Str.{chars}
use Rattle.std.specs.String.{string_bytes}
use Prim.Native.Char.{code}
use Rattle.cp_invlist.specs.InversionList.{contains}
use Rattle.uset_grammar.specs.Text.{Text}
use Rattle.uset_grammar.specs.Outcome.{Outcome, got, faulty}
use Rattle.uset_grammar.specs.Property.{Query, Form, posix, perl, unresolved, PropertyBegins, PropertyOutcome}
use Rattle.uset_grammar.specs.PropertyParts.{Sign, end_mark, equal, unequal, KeyPart, space, letter, ends, unfit, key_in, value_in, with_value_in, query_in, close_in}
use Rattle.uset_read.specs.declared.property.Form.{Form as CodeForm}
use Rattle.uset_read.specs.declared.property.Form.TheVariants.{Posix, Perl}
use Rattle.uset_read.specs.declared.property.Query.{Query as CodeQuery}
use Rattle.uset_read.specs.declared.property.Sign.{Sign as CodeSign}
use Rattle.uset_read.specs.declared.property.Sign.TheVariants.{Mark, Equal, Unequal}
use Rattle.uset_read.specs.declared.property.KeyPart.{KeyPart as CodeKeyPart}
use Rattle.uset_read.specs.declared.property.KeyPart.TheVariants.{Space, Letter, Ends, Unfit}
use Rattle.uset_read.specs.declared.stop.Stop.{Stop}
use Rattle.uset_read.specs.Stops.{Stops}
use Rattle.uset_read.specs.UnitRead.{StopsAt}

abbrev pub form_seen : CodeForm → Form
form_seen Posix = posix
form_seen Perl = perl

abbrev pub sign_seen : CodeSign → Sign
sign_seen Mark = end_mark
sign_seen Equal = equal
sign_seen Unequal = unequal

abbrev pub key_part_seen : CodeKeyPart → KeyPart
key_part_seen Space = space
key_part_seen Letter = letter
key_part_seen (Ends sign) = ends (sign_seen sign)
key_part_seen Unfit = unfit

abbrev pub query_seen : CodeQuery → Query
query_seen query = record {
  negated = query.negated;
  key = chars (string_bytes query.key);
  value = option_map (λ s. chars (string_bytes s)) query.value;
}

-- a key and what ends it, a value, and a query, each with the text behind it
abbrev pub key_read : {Z : Type 0} → String Z × CodeSign × Bor (List ℕ) → Outcome (Text × Sign)
key_read p = got (chars (string_bytes p.0), sign_seen p.1) (chars p.2.now)

abbrev pub value_read : {Z : Type 0} → String Z × Bor (List ℕ) → Outcome Text
value_read p = got (chars (string_bytes p.0)) (chars p.1.now)

abbrev pub query_read : CodeQuery × Bor (List ℕ) → Outcome Query
query_read p = got (query_seen p.0) (chars p.1.now)

-- The property at the front of the text asks this, and its end mark is at this place: what the outcome of the text is,
-- whichever queries resolve.
pub record Asks (white_space : ℕ → Bool) (resolves lacks : Query → Bool) (q : Text)
    (form : Form) (query : Query) (at : Text) : Type 0 where
  -- where it resolves to nothing, the fault is at the end mark
  pub refused : resolves query ≡ false →
      (before : Text) × (q ≡ before ++ at)
      × PropertyOutcome white_space resolves lacks q (faulty (unresolved white_space resolves lacks query) before)
  -- where it resolves, what closes it decides
  pub closed : (rest : Text) → resolves query ≡ true → close_in form at ≡ got tt rest →
      PropertyOutcome white_space resolves lacks q (got query rest)
  pub unclosed : (stop : Stop) → resolves query ≡ true → Stops (close_in form at) stop →
      StopsAt (PropertyOutcome white_space resolves lacks q) q stop

-- What was read at the front of these bytes is what the property there asks, where no `a` is white space.
abbrev pub PropertyIs : List ℕ → List ℕ → CodeForm → CodeQuery → List ℕ → Type 0
PropertyIs white_space text form query at =
    contains white_space (code "a") ≡ false → PropertyBegins (chars text) → (resolves lacks : Query → Bool) →
    Asks (contains white_space) resolves lacks (chars text) (form_seen form) (query_seen query) (chars at)

-- The property there has the fault, with the place, or is not ended, as it says, whichever queries resolve.
pub record PropertyStops (white_space text : List ℕ) (stop : Stop) : Type 0 where
  pub outcome : contains white_space (code "a") ≡ false → PropertyBegins (chars text) →
      (resolves lacks : Query → Bool) →
      StopsAt (PropertyOutcome (contains white_space) resolves lacks (chars text)) (chars text) stop

-- The parts of the reader over the bytes that the code holds.
abbrev pub key_at : List ℕ → CodeForm → List ℕ → Outcome (Text × Sign)
key_at white_space form text = key_in (contains white_space) (form_seen form) [] (chars text)

abbrev pub value_at : List ℕ → CodeForm → List ℕ → Outcome Text
value_at white_space form text = value_in (contains white_space) (form_seen form) [] (chars text)

abbrev pub query_at : List ℕ → CodeForm → Bool → List ℕ → Outcome Query
query_at white_space form negated text = query_in (contains white_space) (form_seen form) negated (chars text)

abbrev pub with_value_at : List ℕ → CodeForm → Bool → List ℕ → List ℕ → Outcome Query
with_value_at white_space form negated key text =
    with_value_in (contains white_space) (form_seen form) negated (chars key) (chars text)
