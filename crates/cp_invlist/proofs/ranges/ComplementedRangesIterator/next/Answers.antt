use Rattle.std.proofs.Common.{length, sym, ap, ◌∙◌, arith}
use Rattle.cp_invlist.proofs.GapsLemmas.{gaps_from_first}
use Rattle.cp_invlist.proofs.ranges.ComplementedRangesIterator.next.Goals as goal

pub returns-clause-goes : goal.returns-clause-goes
returns-clause-goes c = record {
  on = λ _. (tt, tt, omega (arith, ap length (sym c.self.view_is ∙ gaps_from_first c.self.inside.start c.self.inside.elements.now c.in-len2-up.len_at_least)));
  keeps = tt;
  rests = λ _. tt;
}
