use Rattle.std.specs.BTreeMap.{get}
use Rattle.std.proofs.Common.{nat_cmp}
use Rattle.prop_data.proofs.DatabaseLemmas.{all_allowed}
use Rattle.prop_data.proofs.database.PropertyDatabase.set.Goals as goal

pub returns-clause-syntax : goal.returns-clause-syntax
returns-clause-syntax c = all_allowed (get nat_cmp c.args.self.now.sets) c.args.self.now.allowed
