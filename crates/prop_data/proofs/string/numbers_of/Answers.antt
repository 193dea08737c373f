use Rattle.std.proofs.Common.{ℕ, List, ◌++◌, option_map, sym, ap, ◌∙◌, rules, tests}
use Rattle.std.proofs.lemmas.Iterator.Consumers.{YieldsList-at}
use Rattle.std.proofs.lemmas.Iterator.Splits.{YieldsList-from_slice_split}
use Rattle.std.specs.List.{slice_split}
use Rattle.prop_names.specs.Folding.{is_underscore}
use Rattle.prop_data.specs.Strings.{numbers_of}
use Rattle.prop_data.proofs.SpelledLemmas.{next_part, no_part, numbers_of-front, numbers_of-end, numbers_of-misspelled, numbers_of-next}
use Rattle.prop_data.proofs.string.numbers_of.Goals as goal

pub loop-part-init : goal.loop-part-init
loop-part-init c =
    let parts = slice_split is_underscore c.args.text.now in
    let split = c.split-part-items.ensures in (
      parts,
      YieldsList-at c.into_iter-part-iterator.ensures.into_iter_gives (YieldsList-from_slice_split _ is_underscore c.args.text.now split.rest split.done split.closure (λ x b q k. search (rules, tests))),
      numbers_of-front c.new-numbers.result.items (numbers_of parts) c.new-numbers.ensures.items,
    )

pub returns-in_default : goal.returns-in_default
returns-in_default c =
    let read = c.loop-part.numbers.items in
    let left = c.loop-part.invariant in
    let next = next_part c.loop-part.part-iterator c.next.new.self c.in-Some.part left.0 left.1 c.in-Some.ensures.steps in
    sym (numbers_of-misspelled read c.in-Some.part.now next.0 c.in_default.ensures) ∙ (ap (λ (ps : List (List ℕ)). option_map (λ (ns : List ℕ). read ++ ns) (numbers_of ps)) (sym next.2) ∙ left.2)

pub loop-part-preserved : goal.loop-part-preserved
loop-part-preserved c =
    let read = c.loop-part.numbers.items in
    let left = c.loop-part.invariant in
    let next = next_part c.loop-part.part-iterator c.next.new.self c.in-Some.part left.0 left.1 c.in-Some.ensures.steps in (
      next.0,
      next.1,
      ap (λ (r : List ℕ). option_map (λ (ns : List ℕ). r ++ ns) (numbers_of next.0)) c.in_ok-push.ensures.items
          ∙ (numbers_of-next read c.in-Some-hex.number c.in-Some.part.now next.0 c.in-Some-hex.ensures
          ∙ (ap (λ (ps : List (List ℕ)). option_map (λ (ns : List ℕ). read ++ ns) (numbers_of ps)) (sym next.2) ∙ left.2)),
    )

pub returns : goal.returns
returns c =
    let left = c.loop-part.invariant in
    numbers_of-end c.loop-part.numbers.items left.0 (no_part c.loop-part.part-iterator c.next.new.self left.0 left.1 c.in-None.ensures.steps) ∙ left.2
