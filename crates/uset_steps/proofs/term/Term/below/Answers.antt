use Rattle.std.proofs.Common.{[], ap}
use Rattle.cp_terms.specs.Terms.{combined, top}
use Rattle.uset_steps.specs.Terms.{term_in}
use Rattle.uset_steps.proofs.TermLemmas.{both_made, one_of}
use Rattle.uset_steps.proofs.term.Term.below.Goals as goal

pub invariant_of-result : goal.invariant_of-result
invariant_of-result c = record {
  one = one_of c.push.new.self.items (λ sets m. combined c.args.operation (term_in sets c.args.self m) (term_in sets c.args.upper m))
      (λ sets m stack. both_made sets m c.args.operation c.args.self.steps.items c.args.upper.steps.items c.append.new.self.items c.push.new.self.items stack c.in_ok-append.ensures.items c.in_ok-push.ensures.items c.args.self.one c.args.upper.one);
}

pub returns : goal.returns
returns c = λ sets m. ap top (both_made sets m c.args.operation c.args.self.steps.items c.args.upper.steps.items c.append.new.self.items c.push.new.self.items [] c.in_ok-append.ensures.items c.in_ok-push.ensures.items c.args.self.one c.args.upper.one)
