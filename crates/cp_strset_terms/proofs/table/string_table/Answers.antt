use Rattle.std.proofs.Common.{◌≢◌, length, All, subst, sym, ap, ◌∙◌}
use Rattle.std.specs.Str.{chars}
use Rattle.cp_strset.specs.StringList.{holds}
use Rattle.cp_strset_terms.proofs.table.string_table.Goals as goal

pub in_order-requires : goal.in_order-requires
in_order-requires c = subst (All (λ s. length (chars s) ≢ 1)) (sym c.in_ok-gathered_strings.ensures.strings) c.in_ok-gathered_strings.ensures.none_of_one

pub returns-clause-complete : goal.returns-clause-complete
returns-clause-complete c = λ bytes. c.in_order.ensures.same bytes ∙ ap (λ strings. holds strings bytes) c.in_ok-gathered_strings.ensures.strings
