use Rattle.std.proofs.Common.{Some, ap, ◌∙◌}
use Rattle.uset_grammar.specs.Outcome.{unexpected}
use Rattle.uset_read.specs.Cursors.{source_of}
use Rattle.uset_fault.specs.Errors.{kind_told}
use Rattle.uset_reader.proofs.TurnLemmas.{takes_fit, takes_reversed, takes_unfit}
use Rattle.uset_reader.proofs.turn.take.Goals as goal

pub returns-in-Fits-clause-takes : goal.returns-in-Fits-clause-takes
returns-in-Fits-clause-takes c =
    takes_fit (source_of c.args.cursor) c.args.bracket.now c.take.new.self c.args.item c.args.sort c.args.text.now c.args.rest (rw c.in-Fits.is at c.in_ok-take.ensures)

pub returns-in-Reversed-clause-takes : goal.returns-in-Reversed-clause-takes
returns-in-Reversed-clause-takes c =
    takes_reversed c.turns.ensures.places c.args.cursor c.args.bracket.now c.take.new.self c.args.item c.args.sort c.args.text.now c.args.rest.now c.in-Reversed.last c.fault_before.result
    (rw c.in-Reversed.is at c.in_ok-take.ensures) (ap kind_told c.fault_before.ensures.kind ∙ ap (λ z. Some (unexpected z)) c.as_character.ensures) c.fault_before.ensures.place

pub returns-in-Unfit-clause-takes : goal.returns-in-Unfit-clause-takes
returns-in-Unfit-clause-takes c =
    takes_unfit c.args.cursor c.args.bracket.now c.take.new.self c.args.item c.args.sort c.args.text.now c.args.rest.now c.unfit.result (rw c.in-Unfit.is at c.in_ok-take.ensures) c.unfit.ensures
