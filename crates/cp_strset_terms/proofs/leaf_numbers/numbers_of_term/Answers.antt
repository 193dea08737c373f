use Rattle.std.proofs.Common.{ap, ◌∙◌}
use Rattle.std.proofs.lemmas.Option.{slice_get_within}
use Rattle.std.proofs.lemmas.Result.{IfOk-weaker}
use Rattle.cp_terms.specs.Terms.{value_of}
use Rattle.cp_strset_terms.specs.LeafNumbers.{has_number_at}
use Rattle.cp_strset_terms.proofs.TermLemmas.{value_of-same}
use Rattle.cp_strset_terms.proofs.leaf_numbers.numbers_of_term.Goals as goal

pub returns : goal.returns
returns c = IfOk-weaker c.set_of_term.result _ _ (λ set is number text here.
    is number (c.count_pieces.ensures number (slice_get_within c.args.all.now number text here))
    ∙ (ap (λ leaves. value_of (has_number_at leaves number) c.args.steps.now) c.deref.ensures.value
    ∙ value_of-same _ _ c.args.steps.now (c.in_ok-numbers.ensures number text here))) c.set_of_term.ensures
