-- The reader on a whole source.
use Rattle.std.proofs.Common.{◌≡◌, ℕ, false, List, [], ◌∷◌, Option, Some, None, Ok, Err, refl, sym, ap, ◌∙◌, subst, option_map, encode_utf8_all, Box}
use Rattle.std.specs.Global.{Global}
use Rattle.std.specs.Borrow.{Bor}
use Rattle.std.specs.Str.{chars}
use Rattle.uset_grammar.specs.Text.{Text, IsBehind}
use Rattle.uset_grammar.specs.Outcome.{Kind, unexpected, unknown_variable, unexpected_variable, eof}
use Rattle.uset_grammar.specs.Tree.{Member, given}
use Rattle.uset_grammar.specs.Language.{Language, Lawful, is_set, property_tree}
use Rattle.uset_grammar.specs.Front.{too_short, stray, bare, of_variable, of_bracket, of_property, first}
use Rattle.uset_grammar.specs.Grammar.{Reads, a_property, a_variable}
use Rattle.uset_grammar.specs.Reached.{OpenBracket, Moves, opens_first, Reached, whole, further}
use Rattle.uset_grammar.specs.Fault.{FaultAt, empty, no_set, no_name, unbound_first, no_set_variable, property_fails, property_ends}
use Rattle.uset_grammar.specs.Place.{size, offset_of}
use Rattle.uset_grammar.specs.Turn.{accepted, rejected, Turn, goes, stops, UnitReader, turn, Means}
use Rattle.uset_grammar.specs.Laws.{UnitsAreRead, TurnsMean, ReadAtLast, MovesOn, AllRestsAreBehind}
use Rattle.uset_steps.specs.declared.closed.Closed.{Closed as ClosedSet}
use Rattle.uset_gather.specs.Gathered.{in_set}
use Rattle.uset_steps.specs.Terms.{closed_in}
use Rattle.uset_steps.specs.declared.named_set.Named.{Named}
use Rattle.uset_steps.specs.Names.{named_in, Sets, IsSetOf}
use Rattle.uset_read.specs.declared.cursor.Cursor.{Cursor}
use Rattle.uset_read.specs.declared.stop.Stop.{Stop}
use Rattle.uset_read.specs.declared.stop.Stop.TheVariants.{Fault as StopFault, Ended, NoMemory as StopNoMemory}
use Rattle.uset_read.specs.Stops.{kind_seen}
use Rattle.uset_read.specs.Cursors.{source_of, left_of}
use Rattle.uset_reader.specs.declared.bracket.Opening.{Opening as CodeOpening}
use Rattle.uset_reader.specs.declared.bracket.OpenBracket.{OpenBracket as CodeBracket}
use Rattle.uset_fault.specs.declared.error.ParseError.{ParseError}
use Rattle.uset_reader.specs.declared.syntax.Syntax.{Syntax}
use Rattle.cp_strset.specs.StringSet.{StringSet}
use Rattle.uset_variables.specs.declared.value.VariableValue.{VariableValue}
use Rattle.uset_variables.specs.declared.value.VariableValue.TheVariants.{UnicodeSet}
use Rattle.uset_variables.specs.Values.{value_seen}
use Rattle.uset_variables.specs.Variables.{bound}
use Rattle.uset_reader.specs.declared.turn.Progress.TheVariants.{GoesOn, Done}
use Rattle.uset_reader.specs.Brackets.{opening_seen, Stands, begun, IsBegun}
use Rattle.uset_fault.specs.Errors.{kind_of, offset_in, kind_told}
use Rattle.uset_reader.specs.Faults.{IsAt, IsBefore, IsStop}
use Rattle.uset_reader.specs.Syntaxes.{language_seen}
use Rattle.uset_reader.specs.Turns.{Around, Before, Turns}
use Rattle.uset_reader.specs.Units.{OperandIs, OperandStops}
use Rattle.uset_reader.specs.Named.{sets_of}
use Rattle.uset_reader.specs.Readings.{IsSetOfVariable, IsReading, IsRefusal}
use Rattle.uset_reader.proofs.TurnLemmas.{tells, tells_too, tells_nothing}

pub lawful : (s : Syntax) → Lawful (language_seen s)
lawful s = s.apart

-- the brackets that are open stand for ones that are reached
pub record OpenAt (l : Language) (source left : List ℕ) (outer : List CodeBracket) (b : CodeBracket) : Type 0 where
  pub innermost : OpenBracket
  pub others : List OpenBracket
  pub stands : Stands l b innermost
  pub around : Around l outer others
  pub reached : Reached l (chars source) (innermost ∷ others) (chars left)
  pub here : Before source left

module _ (units_read : UnitsAreRead) (means : TurnsMean) (last : ReadAtLast) (onward : MovesOn) (s : Syntax) (source : List ℕ) where
  abbrev l : Language
  l = language_seen s

  abbrev units : UnitReader l
  units = units_read l (lawful s)

  pub begins : (opening : CodeOpening) (inner : List ℕ) (b : CodeBracket) → first l (chars source) ≡ of_bracket (opening_seen opening) (chars inner) → IsBegun opening 0 b → OpenAt l source inner [] b
  begins opening inner b f fresh =
      let moves : Moves l (chars source) [] (chars source) (begun [] opening ∷ []) (chars inner) = opens_first f refl in
      let on = onward l (chars source) [] (begun [] opening ∷ []) [] (chars source) (chars inner) refl moves in record {
        innermost = begun [] opening;
        others = [];
        stands = fresh l [] refl;
        around = tt;
        reached = further whole moves;
        here = record { before = on.0; is = on.1 };
      }

  module _ (left : List ℕ) (outer : List CodeBracket) (b : CodeBracket) (at : OpenAt l source left outer b) where
    abbrev turned : Turn
    turned = turn l units (chars source) (at.innermost ∷ at.others) (chars left)

    meant : (t : Turn) → turned ≡ t → Means l units (chars source) (at.innermost ∷ at.others) (chars left) t
    meant t e = subst (λ z. Means l units (chars source) (at.innermost ∷ at.others) (chars left) z) e (means l units (chars source) (at.innermost ∷ at.others) at.here.before (chars left) at.here.is)

    pub goes_on : (new_outer : List CodeBracket) (new : CodeBracket) (rest : Bor (List ℕ)) → Turns l source left outer b new_outer new (Ok (GoesOn rest)) → OpenAt l source rest.now new_outer new
    goes_on new_outer new rest h =
        let k = h units at.here at.innermost at.others at.stands at.around in
        let moves : Moves l (chars source) (at.innermost ∷ at.others) (chars left) (k.0 ∷ k.1) (chars rest.now) = meant (goes (k.0 ∷ k.1) (chars rest.now)) k.2 in
        let on = onward l (chars source) (at.innermost ∷ at.others) (k.0 ∷ k.1) at.here.before (chars left) (chars rest.now) at.here.is moves in record {
          innermost = k.0;
          others = k.1;
          stands = k.3;
          around = k.4;
          reached = further at.reached moves;
          here = record { before = on.0; is = on.1 };
        }

    pub is_read : (new_outer : List CodeBracket) (new : CodeBracket) (made : Box ClosedSet Global) (rest : Bor (List ℕ)) (end : Cursor) → Turns l source left outer b new_outer new (Ok (Done made rest)) → source_of end ≡ source → left_of end ≡ rest.now →
        IsReading l source made.value end
    is_read new_outer new made rest end h same_source same_left =
        let k = h units at.here at.innermost at.others at.stands at.around in record {
          tree = k.0;
          read = subst (λ z. Reads l (chars source) k.0 (chars z)) (sym same_left) (last l units (chars source) (at.innermost ∷ at.others) (chars left) k.0 (chars rest.now) at.reached (meant (stops (accepted k.0 (chars rest.now))) k.1));
          members = k.2;
          same = same_source;
        }

    pub is_refused : (new_outer : List CodeBracket) (new : CodeBracket) (e : ParseError) → Turns l source left outer b new_outer new (Err e) → IsRefusal l source e
    is_refused new_outer new e h =
        tells_too e _ _ (λ kind offset k. (k.0, record { brackets = at.innermost ∷ at.others; rest = chars left; reached = at.reached; fails = meant (stops (rejected kind k.0)) k.1 }, k.2))
        (h units at.here at.innermost at.others at.stands at.around)

-- a fault at the first character
module _ (l : Language) (source : List ℕ) (e : ParseError) where
  pub refused_first : (k : Kind) (p : Option Text) → kind_told (kind_of e) ≡ Some k → FaultAt l (chars source) [] (chars source) k p → offset_in e ≡ offset_of k p → IsRefusal l source e
  refused_first k p is fails offset = tells e k _ is (p, record { brackets = []; rest = chars source; reached = whole; fails = fails }, offset)

-- SOURCES THAT BEGIN OTHERWISE
module _ (s : Syntax) (source : List ℕ) where
  abbrev spoken : Language
  spoken = language_seen s

  pub refused_short : (e : ParseError) → first spoken (chars source) ≡ too_short → kind_told (kind_of e) ≡ Some eof → offset_in e ≡ None → IsRefusal spoken source e
  refused_short e f is offset = refused_first spoken source e eof None is (empty f) offset

  at_front : (cursor : Cursor) (e : ParseError) → source_of cursor ≡ source → IsAt cursor source (offset_in e) → offset_in e ≡ Some 0
  at_front cursor e same h = h [] (ap chars same)

  pub refused_stray : (cursor : Cursor) (e : ParseError) (c : ℕ) → first spoken (chars source) ≡ stray c → source_of cursor ≡ source → kind_told (kind_of e) ≡ Some (unexpected c) → IsAt cursor source (offset_in e) →
      IsRefusal spoken source e
  refused_stray cursor e c f same is h = refused_first spoken source e (unexpected c) (Some []) is (no_set f refl) (at_front cursor e same h)

  pub refused_bare : (cursor : Cursor) (e : ParseError) → first spoken (chars source) ≡ bare → source_of cursor ≡ source → kind_told (kind_of e) ≡ Some (unexpected 0x24) → IsAt cursor source (offset_in e) →
      IsRefusal spoken source e
  refused_bare cursor e f same is h = refused_first spoken source e (unexpected 0x24) (Some []) is (no_name f refl) (at_front cursor e same h)

  module _ (behind : AllRestsAreBehind) (name rest : List ℕ) (begins_so : first spoken (chars source) ≡ of_variable (chars name) (chars rest)) (utf8 : encode_utf8_all (chars name) ≡ name) where
    ends : IsBehind (chars source) (chars rest)
    ends = (behind spoken).first_names (chars source) (chars name) (chars rest) begins_so

    bound_by : spoken.variable (chars name) ≡ option_map value_seen (bound s.variables.now name)
    bound_by = ap (λ bs. option_map value_seen (bound s.variables.now bs)) utf8

    placed : (cursor : Cursor) (e : ParseError) → source_of cursor ≡ source → IsBefore cursor rest (offset_in e) → offset_in e ≡ Some (size ends.0)
    placed cursor e same h = h ends.0 ends.1.last (ap chars same ∙ ends.1.parts)

    pub refused_unbound : (cursor : Cursor) (e : ParseError) → bound s.variables.now name ≡ None → source_of cursor ≡ source → kind_told (kind_of e) ≡ Some unknown_variable → IsBefore cursor rest (offset_in e) →
        IsRefusal spoken source e
    refused_unbound cursor e none same is h =
        refused_first spoken source e unknown_variable (Some ends.0) is (unbound_first begins_so (bound_by ∙ ap (option_map value_seen) none) ends.1) (placed cursor e same h)

    pub refused_other : (cursor : Cursor) (e : ParseError) (v : VariableValue) → bound s.variables.now name ≡ Some v → is_set (value_seen v) ≡ false → source_of cursor ≡ source →
        kind_told (kind_of e) ≡ Some unexpected_variable → IsBefore cursor rest (offset_in e) → IsRefusal spoken source e
    refused_other cursor e v some other same is h =
        refused_first spoken source e unexpected_variable (Some ends.0) is (no_set_variable begins_so (bound_by ∙ ap (option_map value_seen) some) other ends.1) (placed cursor e same h)

    pub read_variable : (made : ClosedSet) (v : StringSet) (end : Cursor) → bound s.variables.now name ≡ Some (UnicodeSet v) → IsSetOfVariable name v made → source_of end ≡ source → left_of end ≡ rest →
        IsReading spoken source made end
    read_variable made v end some members same left = record {
      tree = given (in_set v);
      read = subst (λ z. Reads spoken (chars source) (given (in_set v)) (chars z)) (sym left) (a_variable begins_so (bound_by ∙ ap (option_map value_seen) some));
      members = members spoken (bound_by ∙ ap (option_map value_seen) some);
      same = same;
    }

  module _ (units : UnitReader spoken) (begins_so : first spoken (chars source) ≡ of_property) where
    pub read_property : (named : Named) (made : ClosedSet) (rest : List ℕ) (end : Cursor) → OperandIs spoken source named rest → ((sets : Sets) → IsSetOf sets named → (m : Member) → closed_in sets made m ≡ named_in named.set m) → source_of end ≡ source →
        left_of end ≡ rest → IsReading spoken source made end
    read_property named made rest end h members same left =
        let found = h (units.property_begins (chars source) begins_so) in record {
          tree = property_tree spoken found.query;
          read = subst (λ z. Reads spoken (chars source) (property_tree spoken found.query) (chars z)) (sym left) (a_property begins_so ((found.outcome.reads found.query (chars rest)).0 refl));
          members = λ m. members (sets_of spoken) found.members.1 m ∙ sym (found.members.0 m);
          same = same;
        }

    pub refused_property : (cursor : Cursor) (stop : Stop) (e : ParseError) → OperandStops spoken source stop → source_of cursor ≡ source → IsStop cursor stop e → IsRefusal spoken source e
    refused_property cursor (StopFault kind rest) e stopped same is =
        let found = stopped (units.property_begins (chars source) begins_so) in
        refused_first spoken source e (kind_seen kind) (Some found.0) is.0 (property_fails [] begins_so ((found.2.faults (kind_seen kind) found.0).0 refl) refl) (is.1 found.0 (ap chars same ∙ found.1))
    refused_property cursor Ended e stopped same is =
        refused_first spoken source e eof None is.0 (property_ends begins_so ((stopped (units.property_begins (chars source) begins_so)).ends.0 refl)) is.1
    refused_property cursor StopNoMemory e stopped same is = tells_nothing e _ is.0 is.1
