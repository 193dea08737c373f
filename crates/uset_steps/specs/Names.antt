-- The names of sets, and the sets that they stand for.
use Rattle.std.specs.Prelude.{◌≡◌, ℕ, ◌/◌, Bool, false, ◌||◌, nat_le, List, length, Option, Some, None}
use Rattle.std.specs.String.{string_bytes}
use Rattle.cp_invlist.specs.InversionList.{contains}
use Rattle.uset_grammar.specs.Property.{Query}
use Rattle.uset_grammar.specs.Tree.{Member, in_source, negation}
use Rattle.uset_gather.specs.Gathered.{in_set, list_in}
use Rattle.uset_read.specs.Queries.{query_seen}
use Rattle.uset_steps.specs.declared.name.Name.{Name as CodeName}
use Rattle.uset_steps.specs.declared.name.Name.TheVariants.{Variable, Property}
use Rattle.uset_steps.specs.declared.named_set.Named.{Named}
use Rattle.uset_steps.specs.declared.named_set.NamedSet.{NamedSet}
use Rattle.uset_steps.specs.declared.named_set.NamedSet.TheVariants.{Set, CodePoints, Complement}

-- What a set is called: a variable by the bytes of its name, or a property by what it asks.
pub data Name : Type 0 where
  variable : List ℕ → Name
  property : Query → Name

abbrev pub name_seen : CodeName → Name
name_seen (Variable name) = variable (string_bytes name)
name_seen (Property query) = property (query_seen query)

-- the set that a name stands for has the member
abbrev pub named_in : NamedSet → Member → Bool
named_in (Set set) m = in_set set.now m
named_in (CodePoints source) m = in_source (contains (list_in source)) m
named_in (Complement source) m = negation m (in_source (contains (list_in source)) m)

-- how many ranges a set has, or its complement
abbrev pub ranges_of : NamedSet → ℕ
ranges_of (Set set) = length set.now.code_points / 2
ranges_of (CodePoints source) = length (list_in source) / 2
ranges_of (Complement source) = length (list_in source) / 2

-- how many strings it has
abbrev pub strings_of : NamedSet → ℕ
strings_of (Set set) = length set.now.strings
strings_of (CodePoints source) = 0
strings_of (Complement source) = 0

-- so many ranges, or strings, that the set is kept
abbrev pub is_large : NamedSet → Bool
is_large set = nat_le 32 (ranges_of set) || nat_le 4 (strings_of set)

-- the set that each name stands for, by its members, where it stands for one
abbrev pub Sets : Type 0
Sets = Name → Option (Member → Bool)

-- whether the set has the member, where there is one
abbrev pub in_some : Option (Member → Bool) → Member → Bool
in_some None m = false
in_some (Some members) m = members m

-- the set that the name stands for has the member
abbrev pub in_meant : Sets → Name → Member → Bool
in_meant sets name m = in_some (sets name) m

-- the set is the one that the name stands for
pub record StandsFor (sets : Sets) (name : Name) (set : Member → Bool) : Type 0 where
  pub members : Member → Bool
  pub is : sets name ≡ Some members
  pub same : (m : Member) → set m ≡ members m

-- the same of a set and its own name
abbrev pub IsSetOf : Sets → Named → Type 0
IsSetOf sets named = StandsFor sets (name_seen named.name) (named_in named.set)
