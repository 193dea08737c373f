-- Steps over a stack of sets, which is seen as truth values: whether each set on it has the member.
use Rattle.std.specs.Prelude.{◌≡◌, Bool, false, List, [], ◌∷◌}
use Rattle.cp_terms.specs.Terms.{both_done, top}
use Rattle.uset_grammar.specs.Tree.{Member, negation}
use Rattle.uset_gather.specs.Gathered.{gathered_in}
use Rattle.uset_steps.specs.declared.term.TermStep.{TermStep}
use Rattle.uset_steps.specs.declared.term.TermStep.TheVariants.{Plain, Named, Both, Negate}
use Rattle.uset_steps.specs.Names.{Sets, name_seen, in_meant}

-- the set on top is negated, where there is one
abbrev pub negated_top : Member → List Bool → List Bool
negated_top m [] = []
negated_top m (b ∷ stack) = negation m b ∷ stack

-- the stack behind a step, where the names stand for these sets
abbrev pub term_step : Sets → Member → TermStep → List Bool → List Bool
term_step sets m (Plain set) stack = gathered_in set.value m ∷ stack
term_step sets m (Named name) stack = in_meant sets (name_seen name.value) m ∷ stack
term_step sets m (Both operation) stack = both_done operation stack
term_step sets m Negate stack = negated_top m stack

-- the step puts a set down, which has the member
abbrev pub put_down : Sets → TermStep → Member → Bool
put_down sets (Plain set) m = gathered_in set.value m
put_down sets (Named name) m = in_meant sets (name_seen name.value) m
put_down sets (Both operation) m = false
put_down sets Negate m = false

abbrev pub PutsDown : TermStep → Type 0
PutsDown s = (sets : Sets) (m : Member) (stack : List Bool) → term_step sets m s stack ≡ put_down sets s m ∷ stack

-- the same behind all steps, from left to right
abbrev pub term_steps : Sets → Member → List TermStep → List Bool → List Bool
term_steps sets m [] stack = stack
term_steps sets m (s ∷ ss) stack = term_steps sets m ss (term_step sets m s stack)

-- the steps leave one set above what was on the stack, whatever that was
abbrev pub MakesOne : List TermStep → Type 0
MakesOne ss =
    (sets : Sets) (m : Member) (stack : List Bool) → term_steps sets m ss stack ≡ top (term_steps sets m ss []) ∷ stack
