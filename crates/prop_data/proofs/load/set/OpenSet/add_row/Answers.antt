use Rattle.std.proofs.Common.{ℕ, ◌||◌, Some, option_map, refl, ap, sym, ◌∙◌}
use Rattle.std.specs.Option.{option_copied}
use Rattle.cp_invlist.specs.InversionList.{contains}
use Rattle.prop_data.specs.Headers.{set_table}
use Rattle.prop_data.specs.declared.load.OpenTable.TheVariants.{Set}
use Rattle.prop_data.specs.Loading.{tables_with, row_seen}
use Rattle.prop_data.specs.Rows.{holds}
use Rattle.prop_data.specs.LineFault.{row_fault}
use Rattle.prop_data.proofs.LoadingLemmas.{set_grown}
use Rattle.prop_data.proofs.RowLemmas.{allowed-grown, range_fault-none, set_row_fault-none, in_code_points-holds}
use Rattle.prop_data.proofs.load.set.OpenSet.add_row.Goals as goal

pub invariant_of-self-2 : goal.invariant_of-self-2
invariant_of-self-2 c = record {
  allowed =
      allowed-grown c.args.self.now.table c.in_ok-range.range.start c.in_ok-range.range.end (contains c.args.self.now.builder) (contains c.add_range32.new.self) c.args.self.now.allowed
      (sym c.in_ok-check_syntax.ensures) c.in_ok-add_range32.ensures.ok;
}

pub returns : goal.returns
returns c =
    let range_fine = sym c.in_ok-check_range.ensures in
    let syntax_fine = sym c.in_ok-check_syntax.ensures in
    let allowed = allowed-grown c.args.self.now.table c.in_ok-range.range.start c.in_ok-range.range.end (contains c.args.self.now.builder) (contains c.add_range32.new.self) c.args.self.now.allowed syntax_fine c.in_ok-add_range32.ensures.ok in
    let is = ap (option_map (λ r. (r.start, r.end))) (sym c.in_ok-range.ensures.ok_part) ∙ c.range.ensures in (
      λ tables.
          ap (λ s. row_fault (tables_with (Set c.args.self.now) tables) (Some (set_table c.args.self.now.table)) c.args.self.now.last (c.args.row.first.now, s)) (ap option_copied c.in-None.is)
          ∙ set_row_fault-none _ _ _ _ is range_fine syntax_fine,
      refl,
      ap (option_map (λ (x : ℕ × ℕ). x.1)) is,
      set_grown c.args.self.now (record { table = c.args.self.now.table; builder = c.add_range32.new.self; last = Some c.in_ok-range.range.end; allowed = allowed }) (row_seen c.args.row) refl (λ d.
          c.in_ok-add_range32.ensures.ok d
          ∙ ap (λ b. contains c.args.self.now.builder d || b) (in_code_points-holds _ _ d (range_fault-none _ _ range_fine).within ∙ ap (λ s. holds s d) is)),
    )
