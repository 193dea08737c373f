-- Where the sets that are kept stand, by their names.
use Rattle.std.specs.Prelude.{◌≡◌, ◌⊎◌, ℕ, Some}
use Rattle.std.specs.declared.cmp.Ordering.{Ordering}
use Rattle.std.specs.BTreeMap.{get, get_by_text}
use Rattle.uset_read.specs.contracts.property.QueryOrd.TheImpl as query_order
use Rattle.uset_read.specs.declared.property.Query.{Query}
use Rattle.uset_read.specs.Queries.{query_seen}
use Rattle.uset_steps.specs.declared.places.Places.{Places}
use Rattle.uset_steps.specs.Names.{Name, variable, property}

-- the order of queries, which is that of their fields
abbrev pub query_cmp : Query → Query → Ordering
query_cmp = (query_order.ghosts).cmp

-- the set with this name is kept at this place
abbrev pub IsPlaceIn : Places → Name → ℕ → Type 0
IsPlaceIn places (variable name) place = get_by_text places.variables name ≡ Some place
IsPlaceIn places (property query) place =
    (asked : Query) × (query_seen asked ≡ query) × (get query_cmp places.properties asked ≡ Some place)

abbrev pub HasPlace : Places → Name → Type 0
HasPlace places name = (place : ℕ) × IsPlaceIn places name place

abbrev pub HasNoPlace : Places → Name → Type 0
HasNoPlace places name = (place : ℕ) → IsPlaceIn places name place → ⊥

-- the name has this place, and each other name has one only where it had it before
pub record Adds (name : Name) (place : ℕ) (old new : Places) : Type 0 where
  pub placed : IsPlaceIn new name place
  pub others : (other : Name) (at : ℕ) → IsPlaceIn new other at →
      IsPlaceIn old other at ⊎ ((other ≡ name) × (at ≡ place))
