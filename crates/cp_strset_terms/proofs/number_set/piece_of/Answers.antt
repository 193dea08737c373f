use Rattle.std.proofs.Common.{◌==◌, ◌||◌, ◌%◌, ap, ap₂, sym, ◌∙◌, take, get_or}
use Rattle.std.proofs.Math.Bool.{or-false}
use Rattle.std.proofs.lemmas.List.Folds.{list_any_more}
use Rattle.std.specs.List.{list_any}
use Rattle.std.proofs.lemmas.List.{take_all}
use Rattle.cp_invlist.specs.InversionList.{contains}
use Rattle.cp_strset_terms.proofs.number_set.piece_of.Goals.{then-number-index+in_ok-add32, else-number-index}
use Rattle.cp_strset_terms.proofs.NumberSetLemmas.{added_by_rest, of_other_piece}
use Rattle.cp_strset_terms.proofs.number_set.piece_of.Goals as goal

pub loop-number-init : goal.loop-number-init
loop-number-init c = λ number same. ap (λ list. contains list (number % 0x11_0000)) c.new-builder.ensures

pub loop-number-preserved : goal.loop-number-preserved
loop-number-preserved c =
    let k = c.loop-number.number-index in
    let n = get_or c.args.numbers.now k 0 in
    elim c.if-number-index.branch [
      | then-number-index+in_ok-add32 w ↦ λ number same.
          ap (λ list. contains list (number % 0x11_0000)) w.builder-is
          ∙ (w.in_ok-add32.ensures.ok (number % 0x11_0000)
          ∙ (ap₂ (λ x y. x || y) (c.loop-number.invariant number same) (added_by_rest n number (w.if-number-index.true ∙ sym same))
          ∙ sym (list_any_more (λ m. m == number) c.args.numbers.now k 0 c.loop-number-test.true)))
      | else-number-index w ↦ λ number same.
          ap (λ list. contains list (number % 0x11_0000)) w.builder-is
          ∙ (c.loop-number.invariant number same
          ∙ (sym (or-false (list_any (λ m. m == number) (take k c.args.numbers.now)))
          ∙ (ap (λ b. list_any (λ m. m == number) (take k c.args.numbers.now) || b) (sym (of_other_piece n number c.args.index w.if-number-index.false same))
          ∙ sym (list_any_more (λ m. m == number) c.args.numbers.now k 0 c.loop-number-test.true))))
    ]

pub returns : goal.returns
returns c = λ number same. ap (λ list. contains list (number % 0x11_0000)) (c.in_ok-index_if_long.ensures ∙ c.build-piece.ensures.list) ∙ (c.loop-number.invariant number same ∙ ap (list_any (λ n. n == number)) (take_all c.loop-number.number-index c.args.numbers.now c.loop-number-test.false))
