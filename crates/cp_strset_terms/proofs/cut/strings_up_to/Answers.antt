use Rattle.std.proofs.Common.{map, subst, rules, nat_cmp}
use Rattle.std.proofs.lemmas.List.{take-map}
use Rattle.std.proofs.lemmas.List.Sorted.{IsPartitionPoint-from_clause}
use Rattle.std.specs.Cmp.Lexicographic.{slice_cmp}
use Rattle.std.specs.Ordering.{is_le}
use Rattle.std.specs.String.{string_bytes}
use Rattle.cp_strset.specs.StringList.{AreCanonical}
use Rattle.cp_strset_terms.proofs.TableLemmas.{canonical-take}
use Rattle.cp_strset_terms.proofs.CutLemmas.{is_le-falls, partitioned, holds-take}
use Rattle.cp_strset_terms.proofs.cut.strings_up_to.Goals as goal

pub returns-clause-canonical : goal.returns-clause-canonical
returns-clause-canonical c =
    let strings = c.args.strings.now in
    let end = c.partition_point-end.result in
    subst AreCanonical (take-map string_bytes end strings) (canonical-take end (map string_bytes strings) c.requires)

pub returns-clause-same : goal.returns-clause-same
returns-clause-same c = λ text passes.
    let strings = c.args.strings.now in
    let last = c.args.last.now in
    let end = c.partition_point-end.result in
    let cut = IsPartitionPoint-from_clause (λ y. is_le (slice_cmp nat_cmp (string_bytes y) last)) strings end c.partition_point-end.ensures.partitioned
    (partitioned is_le is_le-falls strings last c.requires.ascending) (λ a r f' k. search rules) in
    holds-take (λ s. is_le (slice_cmp nat_cmp s last)) strings end text cut.1 passes
