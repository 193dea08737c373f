use Rattle.std.proofs.Common.{arith, sym, subst}
use Rattle.std.proofs.lemmas.Grind.{common_steps}
use Rattle.std.proofs.lemmas.List.Elements.{All-push}
use Rattle.cp_strset_terms.specs.Leaves.{FitsNumbers}
use Rattle.uset_reader.specs.Evaluation.{FoundFits}
use Rattle.uset_reader.proofs.evaluation.leaves_of.Goals as goal

pub loop-set-preserved : goal.loop-set-preserved
loop-set-preserved c = (
  grind (arith, common_steps),
  grind (arith, common_steps),
  λ all fits.
      let one : FoundFits all c.set-item.result = subst (λ found. FoundFits all found) (sym c.set-item.is) (fits c.loop-set.set-index c.set-item.result c.loop-set-test.true) in
      rw c.in_ok-push.ensures.items (All-push (FitsNumbers all) c.loop-set.leaves.items c.leaf.result (c.loop-set.invariant.2 all fits) (c.leaf.ensures.fits all one)),
)
