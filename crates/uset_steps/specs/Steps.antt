-- Steps that are put off, and what they make of a set.
use Rattle.std.specs.Prelude.{◌≡◌, ℕ, ◌<◌, Bool, true, false, not, ◌&&◌, ◌||◌, ◌==◌, List, [], ◌∷◌, Option, Some, None, slice_get}
use Rattle.std.specs.List.{list_any}
use Rattle.std.specs.String.{string_bytes}
use Rattle.uset_grammar.specs.Tree.{Member, in_range}
use Rattle.uset_gather.specs.Gathered.{is_string}
use Rattle.uset_steps.specs.declared.step.Operation.{Operation}
use Rattle.uset_steps.specs.declared.step.Operation.TheVariants.{Join, Remove, Retain}
use Rattle.uset_steps.specs.declared.step.Step.{Step}
use Rattle.uset_steps.specs.declared.step.Step.TheVariants.{Range, Text, Set, Named}
use Rattle.uset_steps.specs.declared.named_set.Named.{Named as NamedSet}
use Rattle.uset_steps.specs.Names.{Sets, named_in}
use Rattle.uset_steps.specs.Operations.{operated}
use Rattle.uset_steps.specs.Terms.{closed_in}

-- the same with a set that is kept, where there is one
abbrev pub with_kept : Operation → Option NamedSet → Member → Bool → Bool
with_kept operation None m b = b
with_kept operation (Some named) m b = operated operation (named_in named.set m) b

-- whether something is a member once the step is done, by whether it was one, over the sets that are kept; the names in terms
-- stand for the sets that are told
abbrev pub step_done : Sets → List NamedSet → Step → Member → Bool → Bool
step_done sets kept (Range span) m b = b || in_range span.range.start span.range.end m
step_done sets kept (Text spelled) m b = b || is_string (string_bytes spelled.value.text) m
step_done sets kept (Set operation set) m b = operated operation (closed_in sets set.value m) b
step_done sets kept (Named operation place) m b = with_kept operation (slice_get kept place) m b

-- the same once all steps are done, from left to right
abbrev pub steps_done : Sets → List NamedSet → List Step → Member → Bool → Bool
steps_done sets kept [] m b = b
steps_done sets kept (s ∷ ss) m b = steps_done sets kept ss m (step_done sets kept s m b)

-- both lists of steps make the same of every set, whatever sets are kept, and named in terms
abbrev pub MakeSame : List Step → List Step → Type 0
MakeSame ss others = (sets : Sets) (kept : List NamedSet) (m : Member) (b : Bool) →
    steps_done sets kept ss m b ≡ steps_done sets kept others m b

-- the step names no set that is kept but one of so many
abbrev pub IsWithin : ℕ → Step → Type 0
IsWithin n (Named operation place) = place < n
IsWithin n (Range span) = Unit {0}
IsWithin n (Text spelled) = Unit {0}
IsWithin n (Set operation set) = Unit {0}

abbrev pub AreWithin : ℕ → List Step → Type 0
AreWithin n [] = Unit {0}
AreWithin n (s ∷ ss) = IsWithin n s × AreWithin n ss

-- the step names no set that is kept
abbrev pub names_none : Step → Bool
names_none (Named operation place) = false
names_none (Range span) = true
names_none (Text spelled) = true
names_none (Set operation set) = true

-- whether the operation says what becomes of all that its set lacks, and not of what it has
abbrev pub retains : Operation → Bool
retains Join = false
retains Remove = false
retains Retain = true

abbrev pub is_side : Bool → Bool → Bool
is_side true b = b
is_side false b = not b

-- whether the step has the last word on the set that is kept at the place, or on all that this lacks
abbrev pub is_about : Bool → ℕ → Step → Bool
is_about outside place (Named operation p) = is_side outside (retains operation) && p == place
is_about outside place (Range span) = false
is_about outside place (Text spelled) = false
is_about outside place (Set operation set) = false

-- one of the steps has
abbrev pub occurs : Bool → ℕ → List Step → Bool
occurs outside place ss = list_any (is_about outside place) ss
