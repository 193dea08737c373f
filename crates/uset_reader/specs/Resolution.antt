-- What a property resolves to, as the reader takes it.
use Rattle.std.specs.Prelude.{◌≡◌, Bool, true, false, Option, is_some, Result, MatchResult, if◌then◌else◌}
use Rattle.prop_data.specs.Tables.{Tables}
use Rattle.uset_grammar.specs.Outcome.{internal, unknown_property}
use Rattle.uset_grammar.specs.Property.{Query}
use Rattle.uset_grammar.specs.Language.{Resolved, found}
use Rattle.uset_steps.specs.declared.named_set.NamedSet.{NamedSet}
use Rattle.uset_read.specs.declared.stop.Kind.{Kind as CodeKind}
use Rattle.uset_read.specs.Stops.{kind_seen}
use Rattle.uset_resolve.specs.Resolution.{resolve, lacking}
use Rattle.uset_resolve.specs.Sources.{IsResolution}
use Rattle.uset_resolve.specs.declared.query.Resolution.{Resolution}
use Rattle.uset_reader.specs.Items.{IsNamed}

abbrev pub resolved_by : Tables → Query → Option Resolved
resolved_by tables q = resolve tables q.key q.value

abbrev pub lacked_by : Tables → Query → Bool
lacked_by tables q = lacking tables q.key q.value

-- what a property resolves to over these tables
abbrev pub ResolvesTo : Tables → Query → Resolution → Type 0
ResolvesTo tables q r = IsResolution r (resolved_by tables q) (lacked_by tables q)

-- It is the set of a property that resolves, or it says what is wrong with one that doesn't.
abbrev pub IsSetOfProperty : Resolution → Bool → Result NamedSet CodeKind → Type 0
IsSetOfProperty resolution negated result =
    (resolved : Option Resolved) (lacks : Bool) → IsResolution resolution resolved lacks →
    MatchResult result (λ set. (is_some resolved ≡ true) × IsNamed set (found negated resolved))
    (λ kind. (is_some resolved ≡ false) × (kind_seen kind ≡ (if lacks then internal else unknown_property)))
