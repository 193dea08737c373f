use Rattle.cp_invlist.specs.InversionList.{contains}
use Rattle.uset_gather.proofs.PaintingLemmas.{painting_removed}
use Rattle.uset_gather.proofs.painting.Painting.remove_set.Goals as goal

pub returns : goal.returns
returns c = λ d. painting_removed c.args.self.now _ _ _ d (contains c.args.set.now d) (c.complement.ensures d) (c.in_ok-add_set.ensures d) (c.complement-2.ensures d)
