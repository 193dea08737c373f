use Rattle.std.proofs.Common.{◌∙◌}
use Rattle.cp_invlist.specs.InversionList.{contains}
use Rattle.cp_invlist.specs.Ranges.{is_outside}
use Rattle.uset_gather.proofs.PaintingLemmas.{painting_removed, not_outside}
use Rattle.uset_gather.proofs.painting.Painting.retain_set.Goals as goal

pub returns : goal.returns
returns c = λ d.
    painting_removed c.args.self.now _ _ _ d (is_outside c.args.set.now d) (c.complement.ensures d) (c.in_ok-add_outside.ensures d) (c.complement-2.ensures d)
    ∙ not_outside c.args.self.now d (contains c.args.set.now d)
