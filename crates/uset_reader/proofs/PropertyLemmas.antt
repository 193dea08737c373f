-- Properties that are read and resolved.
use mathlib.Core.Bool.{beq}
use Rattle.std.proofs.Common.{◌≡◌, ℕ, List, ◌++◌, Option, Some, None, option_map, Box, Result, Ok, Err, IfErr, Bool, true, false, cond, is_some, refl, sym, ap, ap₂, ◌∙◌, subst, encode_utf8_all}
use Rattle.std.specs.Borrow.{Bor}
use Rattle.std.specs.Result.{IsErr, IsErrAnd}
use Rattle.std.specs.Global.{Global}
use Rattle.std.specs.declared.string.String.{String}
use Rattle.std.proofs.lemmas.Str.{encodes-chars, IsUtf8-string_bytes}
use Rattle.std.specs.Str.{chars}
use Rattle.std.specs.String.{string_bytes}
use Rattle.prop_data.specs.Database.{tables_of}
use Rattle.prop_data.specs.Tables.{Tables}
use Rattle.uset_grammar.specs.Outcome.{got, faulty}
use Rattle.uset_grammar.specs.Property.{PropertyOutcome}
use Rattle.cp_invlist.specs.InversionList.{contains, differ}
use Rattle.uset_grammar.specs.Tree.{Member, point, string, has, negation, in_source}
use Rattle.uset_grammar.specs.Language.{Language, Resolved, found, resolves, lacks}
use Rattle.uset_steps.specs.declared.name.Name.TheVariants.{Property}
use Rattle.uset_steps.specs.declared.gathering.Gathering.{Gathering}
use Rattle.uset_steps.specs.declared.gathering.Place.{Place}
use Rattle.uset_steps.specs.declared.named_set.Named.{Named as NamedOperand}
use Rattle.uset_steps.specs.declared.named_set.NamedSet.{NamedSet}
use Rattle.uset_steps.specs.Names.{property}
use Rattle.uset_steps.specs.Gathering.{IsPlaceOf}
use Rattle.uset_read.specs.declared.property.Form.{Form as CodeForm}
use Rattle.uset_read.specs.declared.property.Query.{Query as CodeQuery}
use Rattle.uset_read.specs.declared.stop.Kind.{Kind as CodeKind}
use Rattle.uset_read.specs.declared.stop.Stop.{Stop}
use Rattle.uset_read.specs.declared.stop.Stop.TheVariants.{Fault}
use Rattle.uset_read.specs.Stops.{Stops}
use Rattle.uset_grammar.specs.PropertyParts.{close_in}
use Rattle.uset_read.specs.Queries.{form_seen, query_seen, PropertyIs, PropertyStops}
use Rattle.uset_reader.specs.declared.syntax.Syntax.{Syntax}
use Rattle.uset_resolve.specs.declared.query.Resolution.{Resolution}
use Rattle.uset_resolve.specs.Resolution.{resolve_bytes, lacking_bytes}
use Rattle.uset_resolve.specs.Sources.{IsResolution, Resolves}
use Rattle.uset_reader.specs.Resolution.{resolved_by, lacked_by, IsSetOfProperty}
use Rattle.uset_reader.specs.Syntaxes.{language_seen}
use Rattle.uset_reader.specs.declared.item.Operand.TheVariants.{Named, Again}
use Rattle.uset_reader.specs.Named.{resolved_set, sets_of}
use Rattle.uset_reader.specs.Units.{OperandIs, OperandIn, OperandStops}

-- an error that is handed on
pub answered_err : {A E : Type 0} (result : Result A E) (e : E) (P : E → Type 0) → (IsErr result × IsErrAnd result (λ x. x ≡ e)) → P e → IfErr result P
answered_err (Ok x) e P (is, same) h = tt
answered_err (Err x) e P (is, same) h = subst P (sym same) h

-- a key and a value by their bytes
pub by_bytes : (tables : Tables) (query : CodeQuery) (resolution : Resolution) → IsResolution resolution (resolve_bytes tables (string_bytes query.key) (option_map string_bytes query.value)) (lacking_bytes tables (string_bytes query.key) (option_map string_bytes query.value)) →
    IsResolution resolution (resolved_by tables (query_seen query)) (lacked_by tables (query_seen query))
by_bytes tables query resolution h =
    let key = encodes-chars (string_bytes query.key) (IsUtf8-string_bytes query.key) in
    subst (λ k. IsResolution resolution (resolve_bytes tables k (option_map encode_utf8_all (query_seen query).value)) (lacking_bytes tables k (option_map encode_utf8_all (query_seen query).value))) (sym key)
    (by query.value h)
  where
    by : (v : Option (String Global)) → IsResolution resolution (resolve_bytes tables (string_bytes query.key) (option_map string_bytes v)) (lacking_bytes tables (string_bytes query.key) (option_map string_bytes v)) →
        IsResolution resolution (resolve_bytes tables (string_bytes query.key) (option_map encode_utf8_all (option_map (λ s. chars (string_bytes s)) v)))
        (lacking_bytes tables (string_bytes query.key) (option_map encode_utf8_all (option_map (λ s. chars (string_bytes s)) v)))
    by None h = h
    by (Some s) h =
        subst (λ k. IsResolution resolution (resolve_bytes tables (string_bytes query.key) (Some k)) (lacking_bytes tables (string_bytes query.key) (Some k))) (sym (encodes-chars (string_bytes s) (IsUtf8-string_bytes s))) h

-- the code points of a source are those of the list that stands for it
in_list : {list : List ℕ} {falsy : Bool} {o : Option Resolved} (h : Resolves list falsy o) (m : Member) → in_source h.source m ≡ in_source (contains list) m
in_list h (point c) = sym (h.members c)
in_list h (string bytes) = refl

-- a property that resolves has the members of its list, or the others
pub has-found : {list : List ℕ} {falsy : Bool} {o : Option Resolved} (negated other : Bool) → Resolves list falsy o → differ negated falsy ≡ other → (m : Member) → has (found negated o) m ≡ cond other (negation m (in_source (contains list) m)) (in_source (contains list) m)
has-found negated other h e m =
    ap (λ o. has (found negated o) m) h.is ∙ ap₂ (λ d b. cond d (negation m b) b) e (in_list h m)

pub differ-alike : (a b : Bool) → beq a b ≡ true → differ b a ≡ false
differ-alike true true h = refl
differ-alike false false h = refl
differ-alike true false h = absurd (let g = h in cc)
differ-alike false true h = absurd (let g = h in cc)

pub is-found : {list : List ℕ} {falsy : Bool} {o : Option Resolved} → Resolves list falsy o → is_some o ≡ true
is-found h = ap is_some h.is

-- the members of a property that resolves are those of the set that its name stands for
stands_by : (negated : Bool) (o : Option Resolved) → is_some o ≡ true → (members : Member → Bool) × (resolved_set negated o ≡ Some members) × ((m : Member) → has (found negated o) m ≡ members m)
stands_by negated None some = absurd (let g = some in cc)
stands_by negated (Some r) some = (has (found negated (Some r)), refl, λ m. refl)

resolved-some : (negated : Bool) (o : Option Resolved) → is_some (resolved_set negated o) ≡ true → is_some o ≡ true
resolved-some negated None h = absurd (let g = h in cc)
resolved-some negated (Some r) h = refl

module _ (s : Syntax) (text : List ℕ) where
  abbrev l : Language
  l = language_seen s

  pub stops_too : (stop : Stop) → PropertyStops s.white_space.now text stop → OperandStops l text stop
  stops_too stop h begins = h.outcome s.letter begins (resolves l) (lacks l)

  module _ (form : CodeForm) (query : CodeQuery) (mark : List ℕ) (read : PropertyIs s.white_space.now text form query mark)
      (resolution : Resolution) (answers : IsResolution resolution (resolved_by (tables_of s.database.now) (query_seen query)) (lacked_by (tables_of s.database.now) (query_seen query))) where
    -- a property that resolves to nothing
    pub misses : (kind : CodeKind) (at : Bor (List ℕ)) → at.now ≡ mark → IsSetOfProperty resolution query.negated (Err kind) → OperandStops l text (Fault kind at)
    misses kind at same h begins =
        let is = h (resolved_by (tables_of s.database.now) (query_seen query)) (lacked_by (tables_of s.database.now) (query_seen query)) answers in
        let missed = (read s.letter begins (resolves l) (lacks l)).refused is.0 in
        (missed.0, missed.1 ∙ ap (λ m. missed.0 ++ chars m) (sym same), subst (λ k. PropertyOutcome l.white_space (resolves l) (lacks l) (chars text) (faulty k missed.0)) (sym is.1) missed.2)

    pub unclosed : (set : NamedSet) (stop : Stop) → IsSetOfProperty resolution query.negated (Ok set) → Stops (close_in (form_seen form) (chars mark)) stop → OperandStops l text stop
    unclosed set stop h stops begins =
        let is = h (resolved_by (tables_of s.database.now) (query_seen query)) (lacked_by (tables_of s.database.now) (query_seen query)) answers in
        (read s.letter begins (resolves l) (lacks l)).unclosed stop is.0 stops

    pub closed : (set : NamedSet) (rest : List ℕ) → IsSetOfProperty resolution query.negated (Ok set) → close_in (form_seen form) (chars mark) ≡ got tt (chars rest) → OperandIs l text (record { name = Property query; set = set }) rest
    closed set rest h ends begins =
        let is = h (resolved_by (tables_of s.database.now) (query_seen query)) (lacked_by (tables_of s.database.now) (query_seen query)) answers in
        record { query = query_seen query; outcome = (read s.letter begins (resolves l) (lacks l)).closed (chars rest) is.0 ends; members = (is.1, (let by = stands_by query.negated (resolved_by (tables_of s.database.now) (query_seen query)) is.0 in record { members = by.0; is = by.1; same = λ m. sym (is.1 m) ∙ by.2 m })) }

  -- a property that the bracket keeps
  module _ (form : CodeForm) (query : CodeQuery) (mark : List ℕ) (read : PropertyIs s.white_space.now text form query mark) (some : is_some (sets_of l (property (query_seen query))) ≡ true) where
    resolves_again : resolves l (query_seen query) ≡ true
    resolves_again = resolved-some query.negated (resolved_by (tables_of s.database.now) (query_seen query)) some

    pub kept_unclosed : (stop : Stop) → Stops (close_in (form_seen form) (chars mark)) stop → OperandStops l text stop
    kept_unclosed stop stops begins = (read s.letter begins (resolves l) (lacks l)).unclosed stop resolves_again stops

    pub kept : (g : Gathering) (place : Place) (rest : List ℕ) → IsPlaceOf g (property (query_seen query)) place → close_in (form_seen form) (chars mark) ≡ got tt (chars rest) → OperandIn l g text (Again place) rest
    kept g place rest at ends begins = record {
      query = query_seen query;
      outcome = (read s.letter begins (resolves l) (lacks l)).closed (chars rest) resolves_again ends;
      members = (property (query_seen query), at, (let by = stands_by query.negated (resolved_by (tables_of s.database.now) (query_seen query)) resolves_again in record { members = by.0; is = by.1; same = by.2 }));
    }

  -- the same property in a bracket
  pub in_bracket : (named : Box NamedOperand Global) (g : Gathering) (rest : List ℕ) → OperandIs l text named.value rest → OperandIn l g text (Named named) rest
  in_bracket named g rest h begins = let found = h begins in record { query = found.query; outcome = found.outcome; members = found.members }
