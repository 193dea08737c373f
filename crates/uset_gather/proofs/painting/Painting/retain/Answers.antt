use Rattle.std.proofs.lemmas.Result.{on_ok_weaker}
use Rattle.uset_gather.proofs.PaintingLemmas.{painting_kept}
use Rattle.uset_gather.proofs.painting.Painting.retain.Goals as goal

pub returns : goal.returns
returns c = on_ok_weaker c.remove.result (λ h d. painting_kept c.args.self.now c.args.other _ _ d (c.complement.ensures d) (h d)) c.remove.ensures
