use Rattle.std.specs.Option.{option_or}
use Rattle.std.proofs.Common.{ℕ, Option, option_map, ◌||◌, refl, ap, sym, ◌∙◌}
use Rattle.cp_invlist.specs.InversionList.{contains}
use Rattle.std.specs.BTreeSet.{contains_text}
use Rattle.std.proofs.Math.Bool.{or-false}
use Rattle.prop_data.specs.LineFault.{emoji_range_fault}
use Rattle.prop_data.specs.Rows.{holds}
use Rattle.prop_data.proofs.RowLemmas.{range_fault-none, in_code_points-holds}
use Rattle.prop_data.proofs.load.emoji.OpenEmoji.add_range.Goals as goal

pub returns : goal.returns
returns c =
    let old = c.args.self.now in
    let is = ap (option_map (λ r. (r.start, r.end))) (sym c.in_ok-range.ensures.ok_part) ∙ c.range.ensures in
    let range_fine = sym c.in_ok-check_range.ensures in (
      ap (emoji_range_fault old.last) (sym is) ∙ range_fine,
      refl,
      ap (λ (o : Option (ℕ × ℕ)). option_or (option_map (λ (x : ℕ × ℕ). x.1) o) old.last) is,
      λ d.
          c.in_ok-add_range32.ensures.ok d
          ∙ ap (λ b. contains old.builder d || b) (in_code_points-holds _ _ d (range_fault-none _ _ range_fine).within ∙ ap (λ s. holds s d) is),
      λ bytes. sym (or-false (contains_text old.strings bytes)),
    )
