use Rattle.std.proofs.Common.{[], ap}
use Rattle.uset_grammar.specs.Tree.{negation}
use Rattle.cp_terms.specs.Terms.{top}
use Rattle.uset_steps.specs.Terms.{term_in}
use Rattle.uset_steps.proofs.TermLemmas.{negation_made, one_of}
use Rattle.uset_steps.proofs.term.Term.negated.Goals as goal

pub invariant_of-result : goal.invariant_of-result
invariant_of-result c = record {
  one = one_of c.push.new.self.items (λ sets m. negation m (term_in sets c.args.self m)) (λ sets m stack. negation_made sets m c.args.self.steps.items c.push.new.self.items stack c.in_ok-push.ensures.items c.args.self.one);
}

pub returns : goal.returns
returns c = λ sets m. ap top (negation_made sets m c.args.self.steps.items c.push.new.self.items [] c.in_ok-push.ensures.items c.args.self.one)
