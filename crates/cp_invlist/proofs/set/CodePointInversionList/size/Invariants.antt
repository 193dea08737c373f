use Rattle.std.proofs.Common.{◌≡◌, ◌+◌, ◌≤◌, All, sum_by}
use Rattle.cp_invlist.specs.Size.{range_size}
use Rattle.cp_invlist.proofs.set.CodePointInversionList.size.Given as goal

abbrev pub invariant-loop-range : goal.invariant-loop-range
invariant-loop-range l = record {
  can_next : (goal.iterator-loop-range).can_next l.range-iterator;
  is_finite : (goal.iterator-loop-range).is_finite l.range-iterator;
  ordered : All (λ r. r.start ≤ r.end) l.range-iterator;
  counted : l.size + sum_by range_size l.range-iterator ≡ sum_by range_size l.initial.range-iterator;
  bound : sum_by range_size l.initial.range-iterator ≤ 0x11_0000;
}
