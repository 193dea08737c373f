use Rattle.std.specs.Option.{option_or}
use Rattle.std.proofs.Common.{ap, sym, ◌∙◌}
use Rattle.prop_data.specs.Loading.{header_seen, kept, tables_begun}
use Rattle.prop_data.specs.LineFault.{header_fault, after_end}
use Rattle.prop_data.proofs.AboveLemmas.{same_above}
use Rattle.prop_data.proofs.LoadingLemmas.{last_seen-new, tables_with-new}
use Rattle.prop_data.proofs.load.Loader.begin_table.Goals as goal

pub returns : goal.returns
returns c =
    let begins = c.in_ok-open_table.ensures in
    let same = c.in_ok-is_behind_end.ensures.tables in
    let closed = c.in_ok-is_behind_end.ensures.closed in (
      ap (λ t. option_or (header_fault t (header_seen c.args.header)) (after_end (kept c.args.self.now).closed)) (sym same)
          ∙ (ap (λ o. option_or o (after_end (kept c.args.self.now).closed)) begins.0 ∙ ap after_end (sym closed ∙ c.if-is_behind_end.false)),
      same_above _ _ (sym c.if-is_behind_end.false ∙ closed) (sym begins.1) (last_seen-new c.in_ok-open_table.open_table begins.2)
          (tables_with-new c.in_ok-open_table.open_table _ _ begins.2 same ∙ ap (λ t. tables_begun t (kept c.args.self.now).tables) (sym begins.1)),
    )
