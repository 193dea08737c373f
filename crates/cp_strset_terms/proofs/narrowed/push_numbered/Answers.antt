use Rattle.std.proofs.Common.{◌≡◌, ◌/◌, ◌%◌, true, [], sym, ap, ◌∙◌, length, arith, inl, inr}
use Rattle.std.proofs.lemmas.Bool.{cases_lt}
use Rattle.std.proofs.lemmas.List.{get_or_default}
use Rattle.cp_invlist.specs.InversionList.{contains}
use Rattle.cp_strset_terms.specs.NumberSets.{piece_at}
use Rattle.cp_strset_terms.proofs.NumberSetLemmas.{piece_there}
use Rattle.cp_strset_terms.proofs.narrowed.push_numbered.Goals as goal

pub loop-index-preserved : goal.loop-index-preserved
loop-index-preserved c = (
  λ text held. c.in_ok-push_placed.ensures.held text (c.loop-index.invariant.0 text held),
  λ number text below at member. elim (cases_lt (number / 0x11_0000) c.loop-index.index) [
    | inl earlier ↦ c.in_ok-push_placed.ensures.held text (c.loop-index.invariant.1 number text earlier at member)
    | inr behind ↦ (
        let here : number / 0x11_0000 ≡ c.loop-index.index = omega arith in
        let placed : contains c.piece-item.result (number % 0x11_0000) ≡ true =
        ap (λ p. contains p (number % 0x11_0000))
        (c.piece-item.is
        ∙ (get_or_default c.pieces-piece-items.result.now c.loop-index.index c.piece-item.result [] c.loop-index-test.true
        ∙ (ap (λ pieces. piece_at pieces c.loop-index.index) c.pieces-piece-items.ensures ∙ ap (piece_at c.args.numbers.now) (sym here))))
        ∙ member in
        c.in_ok-push_placed.ensures.placed (number % 0x11_0000) text (c.strings_from_piece.ensures.numbered number text here at) placed)
  ],
  λ old apart. c.in_ok-push_placed.ensures.none_of_one (c.loop-index.invariant.2 old apart) (c.strings_from_piece.ensures.none_of_one apart),
)

pub loop-index-init : goal.loop-index-init
loop-index-init c = (λ text held. held, λ number text lt. absurd (omega (arith, lt)), λ old apart. old)

pub returns-clause-held : goal.returns-clause-held
returns-clause-held c = c.loop-index.invariant.0

pub returns-clause-numbered : goal.returns-clause-numbered
returns-clause-numbered c = λ number text at member.
    c.loop-index.invariant.1 number text (omega (arith, piece_there c.args.numbers.now number member, ap length c.pieces-piece-items.ensures, c.loop-index-test.false)) at member

pub returns-clause-none_of_one : goal.returns-clause-none_of_one
returns-clause-none_of_one c = c.loop-index.invariant.2
