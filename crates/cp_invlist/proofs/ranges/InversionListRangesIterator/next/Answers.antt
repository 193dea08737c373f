use Rattle.std.proofs.Common.{length, sym, ap, ◌∙◌, arith}
use Rattle.cp_invlist.proofs.RangesLemmas.{ranges_of-first, IsInversionList-rest}
use Rattle.cp_invlist.proofs.ranges.InversionListRangesIterator.next.Goals as goal

pub invariant_of-self : goal.invariant_of-self
invariant_of-self c = IsInversionList-rest c.self.inside.elements.now c.in-len2-up.len_at_least c.self.invariant

pub returns-clause-goes : goal.returns-clause-goes
returns-clause-goes c = record {
  on = λ _. (tt, tt, omega (arith, ap length (sym c.self.view_is ∙ ranges_of-first c.self.inside.elements.now c.in-len2-up.len_at_least)));
  keeps = tt;
  rests = λ _. tt;
}
