use Rattle.cp_invlist.proofs.MergeLemmas.{inside_behind-take}
use Rattle.cp_invlist.proofs.cursor.Cursor.take.Goals as goal

pub returns-clause-inside : goal.returns-clause-inside
returns-clause-inside g c = inside_behind-take c.args.count c.args.self.now.rest.now c.args.self.now.inside c.requires
