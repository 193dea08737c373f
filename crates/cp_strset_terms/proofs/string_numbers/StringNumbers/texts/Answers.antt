use Rattle.std.proofs.Common.{map, subst}
use Rattle.std.specs.String.{string_bytes}
use Rattle.cp_strset_terms.specs.Numbers.{StandOnce}
use Rattle.cp_strset_terms.proofs.NumbersLemmas.{stand_once}
use Rattle.cp_strset_terms.proofs.string_numbers.StringNumbers.texts.Goals as goal

pub returns-clause-once : goal.returns-clause-once
returns-clause-once c = subst StandOnce c.self.view_is (stand_once (map string_bytes c.self.inside.texts.items) c.self.inside.indices c.self.invariant)
