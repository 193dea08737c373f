-- Sets of terms, looked up and seen by their lists.
use Rattle.std.specs.Prelude.{◌≡◌, ℕ, Bool, true, false, List, [], map, Option, Some, None, slice_get, ⊤}
use Rattle.cp_strset.specs.StringSet.{StringSet}
use Rattle.cp_terms.specs.declared.step.Step.{Step}
use Rattle.cp_terms.specs.declared.step.Step.TheVariants.{Push, Both, Complement as Complemented, Clear}
use Rattle.cp_strset_terms.specs.Leaves.{code_points_of, strings_of}
use Rattle.cp_strset_terms.specs.Numbers.{AreNumbersOf}
use Rattle.cp_strset_terms.specs.declared.leaf.Leaf.{Leaf}
use Rattle.uset_grammar.specs.Tree.{Member}
use Rattle.uset_gather.specs.Gathered.{in_set, list_in}
use Rattle.uset_steps.specs.declared.named_set.NamedSet.{NamedSet}
use Rattle.uset_steps.specs.declared.named_set.NamedSet.TheVariants.{Set, CodePoints, Complement}
use Rattle.uset_steps.specs.declared.numbering.TermSet.{TermSet}
use Rattle.uset_steps.specs.Names.{Sets, named_in}
use Rattle.uset_steps.specs.NumberedTerms.{put_in, step_over, steps_over}
use Rattle.uset_reader.specs.declared.found.FoundSet.{FoundSet}
use Rattle.uset_reader.specs.declared.found.FoundSet.TheVariants.{Named, Numbered, Gathered}

-- the lists of a set, or of the one whose other code points it has
abbrev pub lists_of_named : NamedSet → StringSet
lists_of_named (Set set) = set.now
lists_of_named (CodePoints source) = record { code_points = list_in source; strings = [] }
lists_of_named (Complement source) = record { code_points = list_in source; strings = [] }

abbrev pub lists_of_found : FoundSet → StringSet
lists_of_found (Named set) = lists_of_named set
lists_of_found (Numbered set numbers) = set.now
lists_of_found (Gathered set) = set

-- where the set has numbers, they are those of its strings
abbrev pub FoundFits : List (List ℕ) → FoundSet → Type 0
FoundFits all (Named set) = ⊤
FoundFits all (Numbered set numbers) = AreNumbersOf all set.now.strings numbers.now
FoundFits all (Gathered set) = ⊤

abbrev pub lists_of_leaf : Leaf → StringSet
lists_of_leaf leaf = record { code_points = code_points_of leaf; strings = strings_of leaf }

-- whether the set has the other code points of its list
abbrev pub complements : NamedSet → Bool
complements (Set set) = false
complements (CodePoints source) = false
complements (Complement source) = true

abbrev pub is_complement : FoundSet → Bool
is_complement (Named set) = complements set
is_complement (Numbered set numbers) = false
is_complement (Gathered set) = false

abbrev pub some_complement : Option FoundSet → Bool
some_complement None = false
some_complement (Some found) = is_complement found

-- the step puts down the lists of such a set
abbrev pub puts_complement : List FoundSet → Step → Bool
puts_complement found (Push number) = some_complement (slice_get found number)
puts_complement found (Both operation) = false
puts_complement found Complemented = false
puts_complement found Clear = false

-- the set has the member
abbrev pub found_in : FoundSet → Member → Bool
found_in (Named set) m = named_in set m
found_in (Numbered set numbers) m = in_set set.now m
found_in (Gathered set) m = in_set set m

abbrev pub some_found_in : Option FoundSet → Member → Bool
some_found_in None m = false
some_found_in (Some found) m = found_in found m

-- the set with the number has the member, where there is one
abbrev pub found_at : List FoundSet → Member → ℕ → Bool
found_at all m number = some_found_in (slice_get all number) m

abbrev pub some_listed : Option StringSet → Member → Bool
some_listed None m = false
some_listed (Some lists) m = in_set lists m

-- the lists with the number have the member, where there are some
abbrev pub listed_at : List StringSet → Member → ℕ → Bool
listed_at all m number = some_listed (slice_get all number) m

-- The sets have the members of those that the term puts down.
abbrev pub AreFound : Sets → List TermSet → List FoundSet → Type 0
AreFound sets all found = (m : Member) → map (λ f. found_in f m) found ≡ map (λ s. put_in sets s m) all

-- the step does what another does over the sets themselves, where the lists of some are those of their complements
abbrev pub PushesStep : List FoundSet → Step → List Step → List Step → Type 0
PushesStep found step old new = (m : Member) →
    steps_over m (listed_at (map lists_of_found found) m) new [] ≡
    step_over m (found_at found m) step (steps_over m (listed_at (map lists_of_found found) m) old [])
