use Rattle.std.proofs.Common.{nat_lt, rules}
use Rattle.std.proofs.lemmas.List.Sorted.{IsPartitionPoint-from_clause}
use Rattle.cp_invlist.specs.ListLaws.{IsInversionList-parts}
use Rattle.cp_invlist.specs.CutLaws.{partitioned_below, CutBefore-from}
use Rattle.cp_invlist.proofs.builder.cut_before.Goals as goal

pub returns-clause-cut : goal.returns-clause-cut
returns-clause-cut c =
    let xs = c.args.elements.now in
    CutBefore-from c.args.number xs _ (
    IsPartitionPoint-from_clause (λ y. nat_lt y c.args.number) xs c.partition_point.result c.partition_point.ensures.partitioned
    (partitioned_below c.args.number xs (IsInversionList-parts xs c.requires).0) (search rules)
    )
