use Rattle.std.proofs.Common.{sym, ◌∙◌}
use Rattle.std.proofs.lemmas.List.Sorted.{list_any-IsPermutation}
use Rattle.std.proofs.lemmas.Result.{IfOk-weaker}
use Rattle.cp_invlist.specs.Ranges.{in_code_points}
use Rattle.uset_gather.proofs.run.sorted_union.Goals as goal

pub returns : goal.returns
returns c =
    IfOk-weaker c.union.result _ _ (λ set h d.
    h d
    ∙ sym (list_any-IsPermutation (λ r. in_code_points r d) c.args.ranges.items c.sort_unstable_by_key.new.self.items c.sort_unstable_by_key.ensures.permutation))
    (rw c.deref.ensures.value at c.union.ensures)
