use Rattle.uset_gather.specs.Painting.{in_painting}
use Rattle.uset_gather.proofs.PaintingLemmas.{painting_removed}
use Rattle.uset_gather.proofs.painting.Painting.remove.Goals as goal

pub returns : goal.returns
returns c = λ d. painting_removed c.args.self.now _ _ _ d (in_painting c.args.set d) (c.complement.ensures d) (c.in_ok-join.ensures d) (c.complement-2.ensures d)
