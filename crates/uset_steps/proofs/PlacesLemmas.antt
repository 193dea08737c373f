-- Queries that ask the same, and the places of sets.
use Rattle.std.proofs.Common.{◌≡◌, ◌⊎◌, inl, inr, ℕ, Bool, true, false, List, Option, Some, None, refl, sym, ap, ◌∙◌}
use Rattle.std.specs.Prelude.{String, option_map, cond}
use Rattle.std.specs.Global.{Global}
use Rattle.std.specs.Str.{chars, bytes_eq}
use Rattle.std.specs.String.{string_bytes, string_cmp}
use Rattle.std.specs.Option.{option_cmp}
use Rattle.std.specs.Cmp.Lexicographic.{slice_cmp}
use Rattle.std.specs.Ordering.{is_eq, nat_cmp, bool_cmp, ordering_then}
use Rattle.std.specs.Option.{IfSome, IfNone}
use Rattle.std.specs.BTreeMap.{BTreeMap, get, get_by_text, UpdatesBy}
use Rattle.std.specs.Map.{lookup}
use Rattle.std.proofs.Math.Utf8.{encodes}
use Rattle.std.proofs.lemmas.Str.{encodes-chars, IsUtf8-string_bytes}
use Rattle.std.specs.Cmp.{tied_then}
use Rattle.std.proofs.lemmas.Bool.{cases_Bool, cond-true, cond-false, and_parts}
use Rattle.std.proofs.lemmas.Map.Text.{is_eq-slice_cmp, btree_map_updates_text}
use Rattle.std.proofs.lemmas.Slice.Eq.{bytes_eq-Decides}
use Rattle.std.proofs.lemmas.Option.{same_Some, none-some}
use Rattle.uset_read.specs.declared.property.Query.{Query}
use Rattle.uset_read.specs.Queries.{query_seen}
use Rattle.uset_steps.specs.declared.places.Places.{Places}
use Rattle.uset_steps.specs.Names.{Name, variable, property}
use Rattle.uset_steps.specs.Places.{query_cmp, IsPlaceIn, HasNoPlace, Adds}

-- strings with the same characters have the same bytes
same_bytes : (s t : String Global) → chars (string_bytes s) ≡ chars (string_bytes t) → string_bytes s ≡ string_bytes t
same_bytes s t h = sym (encodes-chars (string_bytes s) (IsUtf8-string_bytes s)) ∙ (ap encodes h ∙ encodes-chars (string_bytes t) (IsUtf8-string_bytes t))

same_values : (s t k : Option (String Global)) → option_map (λ v. chars (string_bytes v)) s ≡ option_map (λ v. chars (string_bytes v)) t → option_cmp string_cmp s k ≡ option_cmp string_cmp t k
same_values None None k h = refl
same_values None (Some t) k h = absurd (let e = h in cc)
same_values (Some s) None k h = absurd (let e = h in cc)
same_values (Some s) (Some t) None h = refl
same_values (Some s) (Some t) (Some k) h = ap (λ bs. slice_cmp nat_cmp bs (string_bytes k)) (same_bytes s t (same_Some (chars (string_bytes s)) (chars (string_bytes t)) h))

-- queries that ask the same compare alike
compared : (asked other k : Query) → query_seen asked ≡ query_seen other → query_cmp asked k ≡ query_cmp other k
compared asked other k h = λ i.
    ordering_then (bool_cmp (h i).negated k.negated)
    (ordering_then (slice_cmp nat_cmp (same_bytes asked.key other.key (ap (λ q. q.key) h) i) (string_bytes k.key)) (same_values asked.value other.value k.value (ap (λ q. q.value) h) i))

pub found_alike : (m : BTreeMap Query ℕ) (asked other : Query) → query_seen asked ≡ query_seen other → get query_cmp m asked ≡ get query_cmp m other
found_alike m asked other h = λ i. lookup (λ k. is_eq (compared asked other k h i)) m.entries

-- and queries that compare equal ask the same
flags_equal : (a b : Bool) → is_eq (bool_cmp a b) ≡ true → a ≡ b
flags_equal true true h = refl
flags_equal false false h = refl
flags_equal true false h = absurd (let e = h in cc)
flags_equal false true h = absurd (let e = h in cc)

bytes_equal : (xs ys : List ℕ) → is_eq (slice_cmp nat_cmp xs ys) ≡ true → xs ≡ ys
bytes_equal xs ys h = (bytes_eq-Decides xs ys).0 (sym (is_eq-slice_cmp xs ys) ∙ h)

values_equal : (s t : Option (String Global)) → is_eq (option_cmp string_cmp s t) ≡ true → option_map (λ v. chars (string_bytes v)) s ≡ option_map (λ v. chars (string_bytes v)) t
values_equal None None h = refl
values_equal None (Some t) h = absurd (let e = h in cc)
values_equal (Some s) None h = absurd (let e = h in cc)
values_equal (Some s) (Some t) h = ap (λ bs. Some (chars bs)) (bytes_equal (string_bytes s) (string_bytes t) h)

asks_same : (query asked : Query) → is_eq (query_cmp query asked) ≡ true → query_seen query ≡ query_seen asked
asks_same query asked h =
    let values = option_cmp string_cmp query.value asked.value in
    let texts = slice_cmp nat_cmp (string_bytes query.key) (string_bytes asked.key) in
    let flags = bool_cmp query.negated asked.negated in
    let all = and_parts (is_eq flags) (is_eq (ordering_then texts values)) (tied_then flags (ordering_then texts values) ∙ h) in
    let rest = and_parts (is_eq texts) (is_eq values) (tied_then texts values ∙ all.1) in
    λ i. record {
      negated = flags_equal query.negated asked.negated all.0 i;
      key = chars (bytes_equal (string_bytes query.key) (string_bytes asked.key) rest.0 i);
      value = values_equal query.value asked.value rest.1 i;
    }

-- what a look-up finds is the place of what the query asks, and where it finds none there is none
pub found_place : (places : Places) (query : Query) (found : Option ℕ) → found ≡ get query_cmp places.properties query → IfSome found (IsPlaceIn places (property (query_seen query)))
found_place places query None is = tt
found_place places query (Some place) is = (query, refl, sym is)

pub found_none : (places : Places) (query : Query) (found : Option ℕ) → found ≡ get query_cmp places.properties query → IfNone found (HasNoPlace places (property (query_seen query)))
found_none places query (Some place) is = tt
found_none places query None is = λ place (asked, same, there). none-some place (is ∙ (sym (found_alike places.properties asked query same) ∙ there))

-- a variable is given its place
pub adds_variable : (bytes : List ℕ) (place : ℕ) (old new : Places) → UpdatesBy string_cmp (λ k. slice_cmp nat_cmp bytes (string_bytes k)) old.variables new.variables (Some place) → new.properties ≡ old.properties →
    Adds (variable bytes) place old new
adds_variable bytes place old new updates same = record { placed = updates.1; others = others }
  where
    after : (name : List ℕ) → get_by_text new.variables name ≡ cond (bytes_eq bytes name) (Some place) (get_by_text old.variables name)
    after name = btree_map_updates_text bytes old.variables new.variables (Some place) updates name

    others : (other : Name) (at : ℕ) → IsPlaceIn new other at → IsPlaceIn old other at ⊎ ((other ≡ variable bytes) × (at ≡ place))
    others (property query) at (asked, asks, there) = inl (asked, asks, ap (λ m. get query_cmp m asked) (sym same) ∙ there)
    others (variable name) at there = elim (cases_Bool (bytes_eq bytes name)) [
      | inl it ↦ inr (ap variable (sym ((bytes_eq-Decides bytes name).0 it)), sym (same_Some place at (sym (cond-true (bytes_eq bytes name) (Some place) (get_by_text old.variables name) it) ∙ (sym (after name) ∙ there))))
      | inr it ↦ inl (sym (cond-false (bytes_eq bytes name) (Some place) (get_by_text old.variables name) it) ∙ (sym (after name) ∙ there))
    ]

-- and a property
pub adds_property : (query : Query) (place : ℕ) (old new : Places) → UpdatesBy query_cmp (query_cmp query) old.properties new.properties (Some place) → new.variables ≡ old.variables →
    Adds (property (query_seen query)) place old new
adds_property query place old new updates same = record { placed = (query, refl, updates.1); others = others }
  where
    others : (other : Name) (at : ℕ) → IsPlaceIn new other at → IsPlaceIn old other at ⊎ ((other ≡ property (query_seen query)) × (at ≡ place))
    others (variable name) at there = inl (ap (λ m. get_by_text m name) (sym same) ∙ there)
    others (property q) at (asked, asks, there) = elim (cases_Bool (is_eq (query_cmp query asked))) [
      | inl it ↦ inr (
        ap property (sym asks ∙ sym (asks_same query asked it)),
        sym (same_Some place at (sym (cond-true (is_eq (query_cmp query asked)) (Some place) (get query_cmp old.properties asked) it) ∙ (sym (updates.0 asked) ∙ there))),
      )
      | inr it ↦ inl (asked, asks, sym (cond-false (is_eq (query_cmp query asked)) (Some place) (get query_cmp old.properties asked) it) ∙ (sym (updates.0 asked) ∙ there))
    ]
