-- Terms whose sets have numbers, where the names stand for these sets.
use Rattle.std.specs.Prelude.{ℕ, Bool, false, List, [], ◌∷◌, Option, Some, None, slice_get}
use Rattle.cp_terms.specs.Terms.{both_done, clear_done, top}
use Rattle.cp_terms.specs.declared.step.Step.{Step}
use Rattle.cp_terms.specs.declared.step.Step.TheVariants.{Push, Both, Complement, Clear}
use Rattle.uset_grammar.specs.Tree.{Member}
use Rattle.uset_gather.specs.Gathered.{in_set}
use Rattle.uset_steps.specs.declared.numbering.NumberedTerm.{NumberedTerm}
use Rattle.uset_steps.specs.declared.numbering.TermSet.{TermSet}
use Rattle.uset_steps.specs.declared.numbering.TermSet.TheVariants.{Named, Gathered}
use Rattle.uset_steps.specs.Names.{Sets, name_seen, in_meant}
use Rattle.uset_steps.specs.TermSteps.{negated_top}

-- the set that a term puts down has the member
abbrev pub put_in : Sets → TermSet → Member → Bool
put_in sets (Named name) m = in_meant sets (name_seen name) m
put_in sets (Gathered set) m = in_set set m

abbrev pub some_put_in : Sets → Option TermSet → Member → Bool
some_put_in sets None m = false
some_put_in sets (Some set) m = put_in sets set m

-- the set with the number has the member, where there is one
abbrev pub has_at : Sets → List TermSet → Member → ℕ → Bool
has_at sets all m number = some_put_in sets (slice_get all number) m

-- the stack behind a step, by which of the sets have the member
abbrev pub step_over : Member → (ℕ → Bool) → Step → List Bool → List Bool
step_over m v (Push number) stack = v number ∷ stack
step_over m v (Both operation) stack = both_done operation stack
step_over m v Complement stack = negated_top m stack
step_over m v Clear stack = clear_done stack

-- the stack behind all steps, from left to right
abbrev pub steps_over : Member → (ℕ → Bool) → List Step → List Bool → List Bool
steps_over m v [] stack = stack
steps_over m v (s ∷ ss) stack = steps_over m v ss (step_over m v s stack)

-- the member is in the set of the term
abbrev pub numbered_in : Sets → NumberedTerm → Member → Bool
numbered_in sets term m = top (steps_over m (has_at sets term.sets.items m) term.steps.items [])
