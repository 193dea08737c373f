use Rattle.std.proofs.Common.{◌≡◌, ◌-◌, ◌<◌, ◌≤◌, length, take}
use Rattle.cp_invlist.proofs.cursor.Cursor.count_equal.Given as goal

abbrev pub invariant-equal : goal.invariant-equal
invariant-equal l = record {
  some : 0 < l.count;
  within_own : l.count ≤ length l.own;
  within_its : l.count ≤ length l.its;
  equal : take l.count l.own ≡ take l.count l.its;
}

abbrev pub decreases-equal : goal.decreases-equal
decreases-equal l = length l.own - l.count
