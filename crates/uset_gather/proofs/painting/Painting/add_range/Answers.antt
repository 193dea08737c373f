use Rattle.std.proofs.Common.{refl}
use Rattle.uset_gather.proofs.PaintingLemmas.{range_painted}
use Rattle.uset_gather.proofs.painting.Painting.add_range.Goals as goal

pub returns-clause-ok : goal.returns-clause-ok
returns-clause-ok c = range_painted c.args.self.now _ c.args.range refl refl c.in_ok-push.ensures.items
