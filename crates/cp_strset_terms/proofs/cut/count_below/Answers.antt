use Rattle.std.proofs.Common.{◌≤◌, map, take, subst, rules, arith, nat_cmp}
use Rattle.std.proofs.lemmas.List.{take-map, length-take}
use Rattle.std.proofs.lemmas.List.Sorted.{IsPartitionPoint-from_clause}
use Rattle.std.specs.Cmp.Lexicographic.{slice_cmp}
use Rattle.std.specs.List.Sorted.{IsPartitionPoint}
use Rattle.std.specs.Ordering.{is_lt}
use Rattle.std.specs.String.{string_bytes}
use Rattle.cp_strset.specs.StringList.{AreCanonical}
use Rattle.cp_strset_terms.specs.Cut.{IsBelowText, IsNotBelow}
use Rattle.cp_strset_terms.proofs.CutLemmas.{is_lt-falls, partitioned, front_of_front, fails_behind}
use Rattle.cp_strset_terms.proofs.TableLemmas.{canonical-take}
use Rattle.cp_strset_terms.proofs.cut.count_below.Goals as goal

-- where the text cuts the front that was searched
front_cut : (c : goal.After-text-2-1) → IsPartitionPoint (IsBelowText c.args.text.now) (IsNotBelow c.args.text.now) (take c.reach-end.result c.args.strings.now) c.partition_point.result
front_cut c =
    let strings = c.args.strings.now in
    let end = c.reach-end.result in
    let front = subst AreCanonical (take-map string_bytes end strings) (canonical-take end (map string_bytes strings) c.requires) in
    IsPartitionPoint-from_clause (λ y. is_lt (slice_cmp nat_cmp (string_bytes y) c.args.text.now)) (take end strings) c.partition_point.result c.partition_point.ensures.partitioned
    (partitioned is_lt is_lt-falls (take end strings) c.args.text.now front.ascending) (λ a r f' k. search rules)

pub returns-clause-bound : goal.returns-clause-bound
returns-clause-bound c = omega (arith, c.partition_point.ensures.bound, c.reach-end.ensures.bound, length-take c.reach-end.result c.args.strings.now)

pub returns-clause-below : goal.returns-clause-below
returns-clause-below c =
    let end = c.reach-end.result in
    let short : c.partition_point.result ≤ end = omega (arith, c.partition_point.ensures.bound, length-take end c.args.strings.now) in
    front_of_front (IsBelowText c.args.text.now) c.args.strings.now end c.partition_point.result short (front_cut c).0

pub returns-clause-behind : goal.returns-clause-behind
returns-clause-behind c =
    let strings = c.args.strings.now in
    let text = c.args.text.now in
    fails_behind (λ y. is_lt (slice_cmp nat_cmp (string_bytes y) text)) strings c.reach-end.result c.partition_point.result
    (partitioned is_lt is_lt-falls strings text c.requires.ascending) c.reach-end.ensures.bound (front_cut c).1 c.reach-end.ensures.ended
