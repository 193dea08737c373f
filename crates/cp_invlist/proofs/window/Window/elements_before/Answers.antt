use Rattle.std.proofs.Common.{◌≡◌, ◌-◌, nat_lt, List, ℕ, true, length, take, drop, rules, sym, ◌∙◌, subst}
use Rattle.std.proofs.lemmas.List.Sorted.{IsPartitionPoint-from_clause}
use Rattle.std.proofs.lemmas.List.{take-append-drop}
use Rattle.cp_invlist.specs.InversionList.{ascends_from}
use Rattle.cp_invlist.specs.ListLaws.{IsInversionList-parts, ascends_from-drop, ascends_from-take}
use Rattle.cp_invlist.specs.CutLaws.{partitioned_below, CutBefore-from}
use Rattle.cp_invlist.proofs.WindowLemmas.{rest_of}
use Rattle.cp_invlist.proofs.window.Window.elements_before.Goals as goal

pub returns : goal.returns
returns c =
    let xs = c.args.set.now in
    let taken = c.args.self.taken in
    let list = c.get_inversion_list.result.now in
    let left = take (length list - taken) (drop taken list) in
    let past = c.partition_point.result in
    let same : left ≡ drop taken xs = rest_of xs list taken c.get_inversion_list.ensures.elements in
    let ascends : ascends_from 0 left ≡ true = subst (λ (l : List ℕ). ascends_from 0 l ≡ true) (sym same) (ascends_from-drop 0 taken xs (IsInversionList-parts xs c.get_inversion_list.ensures.canonical).0) in
    let cut = CutBefore-from c.args.end left past (IsPartitionPoint-from_clause (λ y. nat_lt y c.args.end) left past c.partition_point.ensures.partitioned (partitioned_below c.args.end left ascends) (search rules)) in
    record {
      ascends = ascends_from-take 0 past left ascends;
      others = drop past left;
      split = sym (take-append-drop past left ∙ same);
      before = cut.before;
      behind = cut.behind;
    }
