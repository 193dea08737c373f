use Rattle.std.proofs.Common.{◌≡◌, ◌≢◌, ◌||◌, ℕ, true, All, List, length, map, sym, subst, ap, ◌∙◌}
use Rattle.std.proofs.Math.Bool.{or-true, or-false}
use Rattle.std.proofs.lemmas.List.Elements.{All-append}
use Rattle.std.specs.Str.{chars}
use Rattle.std.specs.String.{string_bytes}
use Rattle.cp_invlist.specs.InversionList.{contains}
use Rattle.cp_invlist.specs.declared.ranges.CodePointRange.{CodePointRange}
use Rattle.cp_invlist.specs.Ranges.{in_ranges}
use Rattle.cp_strset.specs.StringList.{holds}
use Rattle.cp_strset_terms.specs.Places.{texts}
use Rattle.cp_strset_terms.proofs.NarrowedLemmas.{range_pushed, holds-behind}
use Rattle.cp_strset_terms.proofs.narrowed.push_placed.Goals as goal

pub loop-range-init : goal.loop-range-init
loop-range-init c = (
  λ text held. held,
  λ number text at inside. ap (λ b. holds (texts c.args.table.now.items) text || b) inside ∙ or-true (holds (texts c.args.table.now.items) text),
  λ old strings. old,
)

pub loop-range-preserved : goal.loop-range-preserved
loop-range-preserved c =
    let old = texts c.loop-range.table.items in
    let more = map string_bytes c.stretch.result.now in
    let new = texts c.push_strings.new.table.items in (
      λ text held. holds-behind old more new text c.in_ok-push_strings.ensures (ap (λ b. b || holds more text) (c.loop-range.invariant.0 text held)),
      λ number text at inside. range_pushed old more new text c.in-Some.range c.next.new.self number c.in_ok-push_strings.ensures (c.stretch.ensures.held number text at)
          (ap (λ (ranges : List CodePointRange). holds old text || in_ranges ranges number) (sym c.in-Some.ensures.steps) ∙ c.loop-range.invariant.1 number text at inside),
      λ before strings. subst (All (λ (s : List ℕ). length (chars s) ≢ 1)) (sym c.in_ok-push_strings.ensures)
          (All-append (λ s. length (chars s) ≢ 1) old more (c.loop-range.invariant.2 before strings) (c.stretch.ensures.none_of_one strings)),
    )

pub returns : goal.returns
returns c = record {
  held = c.loop-range.invariant.0;
  placed = λ number text at member.
      let inside : in_ranges c.into_iter-range-iterator.result number ≡ true =
      ap (λ (ranges : List CodePointRange). in_ranges ranges number) c.into_iter-range-iterator.ensures.into_iter_gives
      ∙ (c.ranges_hold_members.ensures (contains c.args.places.now) c.iter_ranges-range-items.result c.iter_ranges-range-items.ensures.maximal number ∙ member) in
      sym (or-false (holds (texts c.loop-range.table.items) text))
      ∙ (ap (λ (ranges : List CodePointRange). holds (texts c.loop-range.table.items) text || in_ranges ranges number) (sym c.in-None.ensures.steps.0) ∙ c.loop-range.invariant.1 number text at inside);
  none_of_one = c.loop-range.invariant.2;
}
