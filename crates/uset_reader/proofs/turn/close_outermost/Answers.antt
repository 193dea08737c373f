use Rattle.std.proofs.Common.{[], refl, ap}
use Rattle.uset_read.specs.Cursors.{source_of}
use Rattle.uset_fault.specs.Errors.{kind_told}
use Rattle.uset_reader.proofs.TurnLemmas.{closes_unfit, closes_outermost}
use Rattle.uset_reader.proofs.turn.close_outermost.Goals as goal

pub returns-in_default-clause-closes : goal.returns-in_default-clause-closes
returns-in_default-clause-closes c =
    closes_unfit c.turns.ensures.places c.args.cursor [] [] c.args.bracket.now c.replace.new.dest c.args.text.now c.args.rest.now c.fault_at.result (rw c.replace.ensures.value at (rw c.in_default.is at c.in_ok-set.ensures))
    (ap kind_told c.fault_at.ensures.kind) c.fault_at.ensures.place

pub returns-clause-closes : goal.returns-clause-closes
returns-clause-closes c =
    closes_outermost (source_of c.args.cursor) [] [] c.args.bracket.now c.replace.new.dest c.args.text.now c.args.rest c.in_ok-new.field-0 (rw c.in_ok-new.ensures.ok (rw c.replace.ensures.value at (rw c.in-Some.is at c.in_ok-set.ensures))) refl
