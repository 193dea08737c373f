-- Terms that are made of others.
use Rattle.std.proofs.Common.{◌≡◌, Bool, List, [], ◌∷◌, ◌++◌, refl, sym, ap, ◌∙◌}
use Rattle.cp_terms.specs.Terms.{combined, both_done, top}
use Rattle.cp_terms.specs.declared.step.SetOperation.{SetOperation}
use Rattle.uset_grammar.specs.Tree.{Member, negation}
use Rattle.uset_steps.specs.declared.term.TermStep.{TermStep}
use Rattle.uset_steps.specs.declared.term.TermStep.TheVariants.{Both, Negate}
use Rattle.uset_steps.specs.Names.{Sets}
use Rattle.uset_steps.specs.TermSteps.{negated_top, term_step, term_steps, MakesOne}

-- steps behind others
pub steps_append : (sets : Sets) (m : Member) (ss ts : List TermStep) (stack : List Bool) → term_steps sets m (ss ++ ts) stack ≡ term_steps sets m ts (term_steps sets m ss stack)
steps_append sets m [] ts stack = refl
steps_append sets m (s ∷ ss) ts stack = steps_append sets m ss ts (term_step sets m s stack)

-- what the steps of two terms, and then one that makes one set of two, leave
pub both_made : (sets : Sets) (m : Member) (operation : SetOperation) (ss ts more all : List TermStep) (stack : List Bool) → more ≡ ss ++ ts → all ≡ more ++ Both operation ∷ [] → MakesOne ss → MakesOne ts →
    term_steps sets m all stack ≡ combined operation (top (term_steps sets m ss [])) (top (term_steps sets m ts [])) ∷ stack
both_made sets m operation ss ts more all stack is last one other =
    ap (λ steps. term_steps sets m steps stack) (last ∙ ap (λ steps. steps ++ Both operation ∷ []) is)
    ∙ (steps_append sets m (ss ++ ts) (Both operation ∷ []) stack
    ∙ ap (both_done operation) (steps_append sets m ss ts stack ∙ (ap (term_steps sets m ts) (one sets m stack) ∙ other sets m (top (term_steps sets m ss []) ∷ stack))))

-- what the steps of a term, and then a negation, leave
pub negation_made : (sets : Sets) (m : Member) (ss all : List TermStep) (stack : List Bool) → all ≡ ss ++ Negate ∷ [] → MakesOne ss → term_steps sets m all stack ≡ negation m (top (term_steps sets m ss [])) ∷ stack
negation_made sets m ss all stack is one = ap (λ steps. term_steps sets m steps stack) is ∙ (steps_append sets m ss (Negate ∷ []) stack ∙ ap (negated_top m) (one sets m stack))

-- steps that leave the same above every stack make one set
pub one_of : (ss : List TermStep) (value : Sets → Member → Bool) → ((sets : Sets) (m : Member) (stack : List Bool) → term_steps sets m ss stack ≡ value sets m ∷ stack) → MakesOne ss
one_of ss value makes sets m stack = makes sets m stack ∙ ap (λ b. b ∷ stack) (sym (ap top (makes sets m [])))
