-- Sets in the making whose steps are put off.
use Rattle.std.specs.Prelude.{◌≡◌, ℕ, Bool, true, false, Option, Some, None, is_some, slice_get, Box, if◌then◌else◌}
use Rattle.std.specs.Global.{Global}
use Rattle.uset_grammar.specs.Tree.{Member, negation}
use Rattle.uset_gather.specs.Gathered.{gathered_in}
use Rattle.uset_steps.specs.declared.gathering.Gathering.{Gathering}
use Rattle.uset_steps.specs.declared.later.Later.{Later}
use Rattle.uset_steps.specs.declared.gathering.Place.{Place}
use Rattle.uset_steps.specs.declared.named_set.Named.{Named}
use Rattle.uset_steps.specs.declared.step.Operation.{Operation}
use Rattle.uset_steps.specs.Names.{Name, Sets, StandsFor}
use Rattle.uset_steps.specs.Places.{IsPlaceIn}
use Rattle.uset_steps.specs.Operations.{operated}
use Rattle.uset_steps.specs.Later.{later_done, LaterFits}

-- whether something is a member behind the steps that were put off, where there are some
abbrev pub behind : Sets → Option (Box Later Global) → Member → Bool → Bool
behind sets None m b = b
behind sets (Some later) m b = later_done sets later.value m b

-- the member was gathered, where the names stand for these sets
abbrev pub gathering_in : Sets → Gathering → Member → Bool
gathering_in sets g m = behind sets g.later m (gathered_in g.gathered m)

abbrev pub BehindFits : Sets → Option (Box Later Global) → Type 0
BehindFits sets None = Unit {0}
BehindFits sets (Some later) = LaterFits sets later.value

-- whether something is a member of a set that is closed, from whether it was gathered
abbrev pub closed : Bool → Member → Bool → Bool
closed negated m b = if negated then negation m b else b

-- Each set that is kept under a name is the one that the name stands for.
abbrev pub Fits : Sets → Gathering → Type 0
Fits sets g = BehindFits sets g.later

-- the set that is kept at the place, where one is
abbrev pub kept_behind : Option (Box Later Global) → ℕ → Option Named
kept_behind None place = None
kept_behind (Some later) place = slice_get later.value.sets.items place

abbrev pub kept_at : Gathering → Place → Option Named
kept_at g place = kept_behind g.later place.index

-- the set with this name is kept at the place
abbrev pub IsPlaceBehind : Option (Box Later Global) → Name → ℕ → Type 0
IsPlaceBehind None name place = ⊥
IsPlaceBehind (Some later) name place = IsPlaceIn later.value.places name place

abbrev pub IsPlaceOf : Gathering → Name → Place → Type 0
IsPlaceOf g name place = IsPlaceBehind g.later name place.index

-- it is kept at some place, or at none
abbrev pub IsSomewhere : Gathering → Name → Type 0
IsSomewhere g name = (place : ℕ) × IsPlaceBehind g.later name place

abbrev pub IsNowhere : Gathering → Name → Type 0
IsNowhere g name = (place : ℕ) → IsPlaceBehind g.later name place → ⊥

-- the same sets are kept at their places
abbrev pub KeepsPlaces : Gathering → Gathering → Type 0
KeepsPlaces old new = (name : Name) (place : Place) → IsPlaceOf old name place → IsPlaceOf new name place

-- What was gathered has these members, and fits this meaning of the names.
pub record BecomesWith (sets : Sets) (new : Gathering) (members : Member → Bool) : Type 0 where
  pub has : (m : Member) → gathering_in sets new m ≡ members m
  pub fits : Fits sets new

-- the same for each meaning of the names that what was gathered before fits
abbrev pub Becomes : Gathering → Gathering → (Sets → Member → Bool) → Type 0
Becomes old new members = (sets : Sets) → Fits sets old → BecomesWith sets new (members sets)

-- Nothing was gathered, whatever the names stand for.
abbrev pub IsEmpty : Gathering → Type 0
IsEmpty g = (sets : Sets) → BecomesWith sets g (λ m. false)

-- the same members were gathered
abbrev pub Settles : Gathering → Gathering → Type 0
Settles old new = Becomes old new (λ sets. gathering_in sets old)

-- The name stands for a set, where each set that is kept is the one that its name stands for.
abbrev pub StandsForSome : Gathering → Name → Type 0
StandsForSome g name = (sets : Sets) → Fits sets g → is_some (sets name) ≡ true

-- The set that is kept at the place was gathered, which is the one that its name stands for.
abbrev pub GathersKept : Operation → Place → Gathering → Gathering → Type 0
GathersKept operation place old new =
    (sets : Sets) (name : Name) (set : Member → Bool) → Fits sets old → IsPlaceOf old name place →
    StandsFor sets name set →
    BecomesWith sets new (λ m. operated operation (set m) (gathering_in sets old m))
