use Rattle.std.proofs.Common.{◌||◌, ◌==◌, [], ◌∷◌, map, take, sym, ap, ap₂, ◌∙◌}
use Rattle.std.proofs.Math.Bool.{or-false}
use Rattle.std.proofs.lemmas.List.{take_all}
use Rattle.std.proofs.lemmas.List.Folds.{list_any-append}
use Rattle.std.proofs.lemmas.Option.{same_Some}
use Rattle.std.proofs.lemmas.Result.{IfOk-weaker}
use Rattle.std.specs.List.{list_any}
use Rattle.std.specs.String.{string_bytes}
use Rattle.cp_strset.specs.StringList.{holds}
use Rattle.cp_strset_terms.proofs.KeptLemmas.{holds-more, same_place, absent}
use Rattle.cp_strset_terms.proofs.leaf_numbers.numbers_of_strings.Goals as goal
use Rattle.cp_strset_terms.proofs.leaf_numbers.numbers_of_strings.Goals.{in-Some+in_ok-push, in_default}

pub loop-string-preserved : goal.loop-string-preserved
loop-string-preserved c = λ number text here.
    let all = c.args.all.now in
    let string = c.as_str.result.now in
    let before = c.loop-string.invariant number text here in
    let done = holds (map string_bytes (take c.loop-string.string-index c.args.strings.now)) text in
    let more = holds-more c.args.strings.now c.loop-string.string-index c.string-item.result string text c.loop-string-test.true (c.as_str.ensures.value ∙ ap string_bytes c.string-item.is) in
    elim c.match-get.branch [
      | in-Some+in_ok-push w ↦
          let there = (c.get.ensures w.in-Some.number).0 w.in-Some.is in
          ap (λ numbers. list_any (λ n. n == number) numbers.items) w.numbers-is
          ∙ (ap (list_any (λ n. n == number)) w.in_ok-push.ensures.items
          ∙ (list_any-append (λ n. n == number) c.loop-string.numbers.items (w.in-Some.number ∷ [])
          ∙ (ap₂ ◌||◌ before (or-false (w.in-Some.number == number) ∙ same_place all w.in-Some.number number string text (λ k at. same_Some k w.in-Some.number (sym ((c.get.ensures k).1 at) ∙ w.in-Some.is)) there here)
          ∙ sym more)))
      | in_default w ↦
          ap (λ numbers. list_any (λ n. n == number) numbers.items) w.numbers-is
          ∙ (before
          ∙ (sym (or-false done)
          ∙ (ap (λ b. done || b) (sym (absent all number string text (λ k at. w.in_default.not-Some k ((c.get.ensures k).1 at)) here))
          ∙ sym more)))
    ]

pub returns : goal.returns
returns c = IfOk-weaker c.from_numbers.result _ _ (λ set is number text here.
    is number
    ∙ (c.loop-string.invariant number text here
    ∙ ap (λ l. holds (map string_bytes l) text) (take_all c.loop-string.string-index c.args.strings.now c.loop-string-test.false))) c.from_numbers.ensures
