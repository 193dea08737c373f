use Rattle.std.proofs.Common.{refl}
use Rattle.uset_gather.proofs.PaintingLemmas.{painting_complemented}
use Rattle.uset_gather.proofs.painting.Painting.complement.Goals as goal

pub returns : goal.returns
returns c = painting_complemented c.args.self.now _ refl refl refl
