use Rattle.std.proofs.Common.{◌+◌, ◌/◌, ◌==◌, ◌∷◌, [], ◌∙◌, ap, length, length-append, subst, sym, arith, inl, inr}
use Rattle.std.specs.List.{list_any}
use Rattle.std.proofs.lemmas.Bool.{cases_lt}
use Rattle.cp_strset_terms.proofs.NumberSetLemmas.{TellsBelow, tells_more, no_piece, lacks_all}
use Rattle.cp_strset_terms.proofs.number_set.pieces_of.Goals as goal

pub returns : goal.returns
returns c = λ number. elim (cases_lt (number / 0x11_0000) c.loop-index.index) [
  | inl below ↦ c.loop-index.invariant.1 number below
  | inr past ↦ no_piece c.loop-index.pieces.items number (omega arith)
      ∙ sym (lacks_all c.args.numbers.now c.count_pieces-index-end.result number c.count_pieces-index-end.ensures (omega arith))
]

pub loop-index-init : goal.loop-index-init
loop-index-init c = (ap length c.new-pieces.ensures.items, λ number lt. absurd (omega (arith, lt)))

pub loop-index-preserved : goal.loop-index-preserved
loop-index-preserved c = (
  ap length c.in_ok-push.ensures.items ∙ (length-append c.loop-index.pieces.items (c.in_ok-piece_of.field-0 ∷ []) ∙ ap (λ n. n + 1) c.loop-index.invariant.0),
  subst (λ pieces. TellsBelow (λ number. list_any (λ n. n == number) c.args.numbers.now) pieces (c.loop-index.index + 1)) (sym c.in_ok-push.ensures.items)
      (tells_more (λ number. list_any (λ n. n == number) c.args.numbers.now) c.loop-index.pieces.items c.in_ok-piece_of.field-0 c.loop-index.index c.loop-index.invariant.0 c.loop-index.invariant.1
      c.in_ok-piece_of.ensures),
)
