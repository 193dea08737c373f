use Rattle.std.proofs.lemmas.Result.{on_ok_weaker}
use Rattle.cp_terms.specs.Terms.{combined}
use Rattle.cp_strset_terms.proofs.CandidatesLemmas.{combined_union, combined_difference, combined_reverse_difference}
use Rattle.cp_strset_terms.proofs.candidates.Sources.put_both.Goals as goal

pub returns-in-Union : goal.returns-in-Union
returns-in-Union c = on_ok_weaker c.put_joined.result
    (λ h v a b stack covered. h v a b (combined c.args.operation a b) stack covered (combined_union c.args.operation a b c.in-Union.is)) c.put_joined.ensures

pub returns-in-Difference : goal.returns-in-Difference
returns-in-Difference c = on_ok_weaker c.put_lower.result
    (λ h v a b stack covered. h v a b (combined c.args.operation a b) stack covered (combined_difference c.args.operation a b c.in-Difference.is)) c.put_lower.ensures

pub returns-in-ReverseDifference : goal.returns-in-ReverseDifference
returns-in-ReverseDifference c = on_ok_weaker c.put_upper.result
    (λ h v a b stack covered. h v a b (combined c.args.operation a b) stack covered (combined_reverse_difference c.args.operation a b c.in-ReverseDifference.is)) c.put_upper.ensures
