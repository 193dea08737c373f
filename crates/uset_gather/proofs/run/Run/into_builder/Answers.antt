use Rattle.std.proofs.Common.{◌≡◌, ◌||◌, length, rules, sym, ap, ◌∙◌}
use Rattle.std.proofs.lemmas.List.{nil_from_length}
use Rattle.std.proofs.lemmas.List.Sorted.{list_any-IsPermutation}
use Rattle.std.proofs.lemmas.Result.{IfOk-weaker}
use Rattle.cp_invlist.specs.InversionList.{contains}
use Rattle.cp_invlist.specs.Ranges.{in_code_points}
use Rattle.uset_gather.proofs.RangesLemmas.{gathered_in_run, none_aside}
use Rattle.uset_gather.proofs.run.Run.into_builder.Goals as goal

pub returns-then-is_empty : goal.returns-then-is_empty
returns-then-is_empty c =
    let none : length c.args.self.aside.items ≡ 0 = search rules in
    none_aside c.args.self (nil_from_length c.args.self.aside.items none)

pub returns-then-get_range_count-len : goal.returns-then-get_range_count-len
returns-then-get_range_count-len c =
    IfOk-weaker c.sorted_union.result _ _ (λ set h d.
    gathered_in_run c.args.self c.build-front.result set d c.build-front.ensures.list
    (h d ∙ c.in_ok-put_aside.ensures d
    ∙ ap (λ b. b || contains c.build-front.result d)
    (sym (list_any-IsPermutation (λ r. in_code_points r d) c.args.self.aside.items c.reverse.new.self.items c.reverse.ensures.permutation))))
    c.sorted_union.ensures

pub returns : goal.returns
returns c = λ d.
    gathered_in_run c.args.self c.build-front.result c.add_set.new.self d c.build-front.ensures.list
    (c.in_ok-add_set.ensures.ok d ∙ ap (λ b. b || contains c.build-front.result d) (c.in_ok-builder.ensures d))
