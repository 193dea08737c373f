use Rattle.std.proofs.Common.{ap, ◌∙◌}
use Rattle.prop_names.specs.Names.{ascend}
use Rattle.prop_names.specs.Texts.{texts}
use Rattle.prop_names.proofs.NamesLemmas.{ascend-texts}
use Rattle.prop_names.proofs.list.NameList.from_map.Goals as goal

pub invariant_of-result : goal.invariant_of-result
invariant_of-result c = ap (λ rows. ascend (texts rows)) c.in_ok-rows_of.ensures.rows ∙ ascend-texts c.args.map.entries c.in_ok-rows_of.ensures.ordered
