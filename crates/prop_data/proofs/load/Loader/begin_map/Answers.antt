use Rattle.std.proofs.Common.{sym, ◌∙◌}
use Rattle.prop_data.proofs.RowLemmas.{accepted-takes}
use Rattle.prop_data.proofs.load.Loader.begin_map.Goals as goal

pub new-requires : goal.new-requires
new-requires c = accepted-takes c.in_ok-table.table c.in_ok-spelled.spelled c.in_ok-default.default (sym c.in_ok-default.ensures.ok_part ∙ c.accepted.ensures)
