-- Sets as terms, where the names stand for these sets.
use Rattle.std.specs.Prelude.{Bool, []}
use Rattle.cp_terms.specs.Terms.{top}
use Rattle.uset_grammar.specs.Tree.{Member}
use Rattle.uset_gather.specs.Gathered.{gathered_in}
use Rattle.uset_steps.specs.declared.closed.Closed.{Closed}
use Rattle.uset_steps.specs.declared.closed.Closed.TheVariants.{Plain, Term as AsTerm}
use Rattle.uset_steps.specs.declared.growing.Growing.{Growing}
use Rattle.uset_steps.specs.declared.growing.Growing.TheVariants.{Plain as AllPlain, Term as AllTerm, Both}
use Rattle.uset_steps.specs.declared.term.Term.{Term}
use Rattle.uset_steps.specs.Names.{Sets}
use Rattle.uset_steps.specs.Operations.{operated}
use Rattle.uset_steps.specs.TermSteps.{term_steps}

-- the member is in the set of the term
abbrev pub term_in : Sets → Term → Member → Bool
term_in sets term m = top (term_steps sets m term.steps.items [])

-- the member is in the set of a bracket that is closed
abbrev pub closed_in : Sets → Closed → Member → Bool
closed_in sets (Plain set) m = gathered_in set m
closed_in sets (AsTerm term) m = term_in sets term.value m

-- the member is in the set that grows
abbrev pub growing_in : Sets → Growing → Member → Bool
growing_in sets (AllPlain set) m = gathered_in set m
growing_in sets (AllTerm term) m = term_in sets term m
growing_in sets (Both term operation set) m = operated operation (gathered_in set m) (term_in sets term m)
