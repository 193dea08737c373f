use Rattle.cp_strset.proofs.StringsLemmas.{union_spelled, none_of_one_joined}
use Rattle.cp_strset.proofs.strings.Strings.with_all.Goals as goal

pub returns : goal.returns
returns c = rw (← c.self.view_is, ← c.other.view_is) (union_spelled c.self.inside.texts.keys c.other.inside.texts.keys c.append.new.self.keys c.in_ok-append.ensures.inserts_all.0)

pub invariant_of-result : goal.invariant_of-result
invariant_of-result c =
    none_of_one_joined c.self.inside.texts.keys c.other.inside.texts.keys c.append.new.self.keys c.self.invariant c.other.invariant
    (union_spelled c.self.inside.texts.keys c.other.inside.texts.keys c.append.new.self.keys c.in_ok-append.ensures.inserts_all.0)
