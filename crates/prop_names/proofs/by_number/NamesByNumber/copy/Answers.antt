use Rattle.std.proofs.Common.{sym, ◌∙◌}
use Rattle.prop_names.proofs.CopyLemmas.{same_text}
use Rattle.prop_names.proofs.by_number.NamesByNumber.copy.Goals as goal

pub invariant_of-result : goal.invariant_of-result
invariant_of-result c = record {
  filled = λ n empty. c.args.self.now.filled n (sym (same_text c.args.self.now.names.entries c.in_ok-names.names.entries c.in_ok-names.ensures.cases n) ∙ empty);
}

pub returns : goal.returns
returns c = same_text c.args.self.now.names.entries c.in_ok-names.names.entries c.in_ok-names.ensures.cases
