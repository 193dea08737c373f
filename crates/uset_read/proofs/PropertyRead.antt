-- What the reader says of a property is its outcome.
use Rattle.std.proofs.Common.{◌≡◌, ℕ, Bool, true, false, cond, List, sym, ap, ◌∙◌, subst}
use Rattle.std.specs.Str.{chars}
use Rattle.cp_invlist.specs.InversionList.{contains}
use Rattle.uset_grammar.specs.Text.{Text}
use Rattle.uset_grammar.specs.Outcome.{Outcome, got, faulty}
use Rattle.uset_grammar.specs.Property.{Query, Form, unresolved, PropertyOutcome}
use Rattle.uset_grammar.specs.Parts.{and_then, TellsOutcome}
use Rattle.uset_grammar.specs.PropertyParts.{front_in, query_in, asked_in, close_in, judged, property_in}
use Rattle.uset_grammar.specs.Laws.{PropertiesByParts}
use Rattle.uset_read.specs.declared.property.Form.{Form as CodeForm}
use Rattle.uset_read.specs.declared.property.Query.{Query as CodeQuery}
use Rattle.uset_read.specs.declared.stop.Stop.{Stop}
use Rattle.uset_read.specs.Stops.{Stops}
use Rattle.uset_read.specs.UnitRead.{StopsAt}
use Rattle.uset_read.specs.Queries.{form_seen, query_seen, query_at, Asks, PropertyIs, PropertyStops}
use Rattle.uset_read.proofs.NumbersInBraces.{stops_then}
use Rattle.uset_read.proofs.Told.{told_stop}

module _ (white_space : ℕ → Bool) where
  abbrev inner : Form × Bool → Text → Outcome (Form × Query)
  inner f u = and_then (query_in white_space f.0 f.1 u) (λ q. got (f.0, q))

  -- in front, or in the inner text
  front_ends : (q : Text) (stop : Stop) → Stops (front_in q) stop → Stops (asked_in white_space q) stop
  front_ends q stop h = stops_then (front_in q) inner stop h

  inner_ends : (q u : Text) (form : Form) (negated : Bool) (stop : Stop) → front_in q ≡ got (form, negated) u → Stops (query_in white_space form negated u) stop →
      Stops (asked_in white_space q) stop
  inner_ends q u form negated stop e h = subst (λ o. Stops (and_then o inner) stop) (sym e) (stops_then (query_in white_space form negated u) (λ q. got (form, q)) stop h)

  inner_asks : (q u at : Text) (form : Form) (negated : Bool) (query : Query) → front_in q ≡ got (form, negated) u → query_in white_space form negated u ≡ got query at →
      asked_in white_space q ≡ got (form, query) at
  inner_asks q u at form negated query e h = ap (λ o. and_then o inner) e ∙ ap (λ o. and_then o (λ q. got (form, q))) h

  module _ (resolves lacks : Query → Bool) (q : Text) (told : TellsOutcome (PropertyOutcome white_space resolves lacks q) q (property_in white_space resolves lacks q)) where
    asked_stops : (stop : Stop) → Stops (asked_in white_space q) stop → StopsAt (PropertyOutcome white_space resolves lacks q) q stop
    asked_stops stop h =
        told_stop (PropertyOutcome white_space resolves lacks q) q (property_in white_space resolves lacks q) stop told
        (stops_then (asked_in white_space q) (λ x. judged white_space resolves lacks x.0 x.1) stop h)

    module _ (form : Form) (query : Query) (at : Text) (asked : asked_in white_space q ≡ got (form, query) at) where
      abbrev close : Outcome Query
      close = and_then (close_in form at) (λ z. got query)

      judged_by : (b : Bool) → resolves query ≡ b → property_in white_space resolves lacks q ≡ cond b close (faulty (unresolved white_space resolves lacks query) at)
      judged_by b is =
          ap (λ o. and_then o (λ x. judged white_space resolves lacks x.0 x.1)) asked
          ∙ ap (λ z. cond z close (faulty (unresolved white_space resolves lacks query) at)) is

      asked_got : Asks white_space resolves lacks q form query at
      asked_got = record {
        refused = λ unmet. subst (TellsOutcome (PropertyOutcome white_space resolves lacks q) q) (judged_by false unmet) told;
        closed = λ rest met h. subst (TellsOutcome (PropertyOutcome white_space resolves lacks q) q) (judged_by true met ∙ ap (λ o. and_then o (λ z. got query)) h) told;
        unclosed = λ stop met h.
            told_stop (PropertyOutcome white_space resolves lacks q) q (property_in white_space resolves lacks q) stop told
            (subst (λ o. Stops o stop) (sym (judged_by true met)) (stops_then (close_in form at) (λ z. got query) stop h));
      }

-- over the bytes that the code holds
module _ (properties : PropertiesByParts) where
  pub front_stops : (white_space text : List ℕ) (stop : Stop) → Stops (front_in (chars text)) stop → PropertyStops white_space text stop
  front_stops white_space text stop h = record {
    outcome = λ letters begins resolves lacks.
        asked_stops (contains white_space) resolves lacks (chars text) (properties (contains white_space) letters resolves lacks (chars text) begins) stop
        (front_ends (contains white_space) (chars text) stop h);
  }

  pub inner_stops : (white_space text inner : List ℕ) (form : CodeForm) (negated : Bool) (stop : Stop) → front_in (chars text) ≡ got (form_seen form, negated) (chars inner) →
      Stops (query_at white_space form negated inner) stop → PropertyStops white_space text stop
  inner_stops white_space text inner form negated stop e h = record {
    outcome = λ letters begins resolves lacks.
        asked_stops (contains white_space) resolves lacks (chars text) (properties (contains white_space) letters resolves lacks (chars text) begins) stop
        (inner_ends (contains white_space) (chars text) (chars inner) (form_seen form) negated stop e h);
  }

  pub inner_got : (white_space text inner at : List ℕ) (form : CodeForm) (negated : Bool) (query : CodeQuery) → front_in (chars text) ≡ got (form_seen form, negated) (chars inner) →
      query_at white_space form negated inner ≡ got (query_seen query) (chars at) → PropertyIs white_space text form query at
  inner_got white_space text inner at form negated query e h letters begins resolves lacks =
      asked_got (contains white_space) resolves lacks (chars text) (properties (contains white_space) letters resolves lacks (chars text) begins)
      (form_seen form) (query_seen query) (chars at)
      (inner_asks (contains white_space) (chars text) (chars inner) (chars at) (form_seen form) negated (query_seen query) e h)
