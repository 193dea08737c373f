use Rattle.std.proofs.Common.{◌≡◌, nat_le, rules, refl, sym, subst, List, ℕ, true}
use Rattle.std.proofs.lemmas.List.Sorted.{IsPartitionPoint-from_clause}
use Rattle.std.proofs.lemmas.Option.{slice_get_read}
use Rattle.cp_invlist.specs.InversionList.{ascends_from}
use Rattle.cp_invlist.specs.ListLaws.{IsInversionList-parts}
use Rattle.cp_invlist.specs.CutLaws.{partitioned_at_most, CutAfter-from}
use Rattle.cp_invlist.proofs.WindowLemmas.{window_at, window_behind}
use Rattle.cp_invlist.proofs.window.Window.at.Goals as goal

pub returns-in-Some-clause-window : goal.returns-in-Some-clause-window
returns-in-Some-clause-window c =
    let xs = c.get_inversion_list-elements.result.now in
    let taken = c.partition_point-taken.result in
    let found = c.in-Some.ensures.lookup in
    let ascends = subst (λ (l : List ℕ). ascends_from 0 l ≡ true) (sym c.get_inversion_list-elements.ensures.elements) (IsInversionList-parts c.args.set.now c.get_inversion_list-elements.ensures.canonical).0 in
    (window_at c.args.set.now xs c.args.place taken c.in-Some.element.now c.get_inversion_list-elements.ensures.elements c.get_inversion_list-elements.ensures.canonical
    (CutAfter-from c.args.place xs taken (IsPartitionPoint-from_clause (λ y. nat_le y c.args.place) xs taken c.partition_point-taken.ensures.partitioned (partitioned_at_most c.args.place xs ascends) (search rules)))
    (slice_get_read xs _ taken c.in-Some.element.now refl found.3.0 found.1)).window

pub returns-in-Some-clause-ahead : goal.returns-in-Some-clause-ahead
returns-in-Some-clause-ahead c =
    let xs = c.get_inversion_list-elements.result.now in
    let taken = c.partition_point-taken.result in
    let found = c.in-Some.ensures.lookup in
    let ascends = subst (λ (l : List ℕ). ascends_from 0 l ≡ true) (sym c.get_inversion_list-elements.ensures.elements) (IsInversionList-parts c.args.set.now c.get_inversion_list-elements.ensures.canonical).0 in
    (window_at c.args.set.now xs c.args.place taken c.in-Some.element.now c.get_inversion_list-elements.ensures.elements c.get_inversion_list-elements.ensures.canonical
    (CutAfter-from c.args.place xs taken (IsPartitionPoint-from_clause (λ y. nat_le y c.args.place) xs taken c.partition_point-taken.ensures.partitioned (partitioned_at_most c.args.place xs ascends) (search rules)))
    (slice_get_read xs _ taken c.in-Some.element.now refl found.3.0 found.1)).ahead

pub returns-in-None-clause-window : goal.returns-in-None-clause-window
returns-in-None-clause-window c =
    let xs = c.get_inversion_list-elements.result.now in
    let taken = c.partition_point-taken.result in
    let ascends = subst (λ (l : List ℕ). ascends_from 0 l ≡ true) (sym c.get_inversion_list-elements.ensures.elements) (IsInversionList-parts c.args.set.now c.get_inversion_list-elements.ensures.canonical).0 in
    window_behind c.args.set.now xs c.args.place taken 1114112 c.get_inversion_list-elements.ensures.elements c.partition_point-taken.ensures.bound
    (CutAfter-from c.args.place xs taken (IsPartitionPoint-from_clause (λ y. nat_le y c.args.place) xs taken c.partition_point-taken.ensures.partitioned (partitioned_at_most c.args.place xs ascends) (search rules)))
    c.in-None.ensures.lookup.3
