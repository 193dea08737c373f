use Rattle.std.proofs.Common.{Some, ap, ◌∙◌}
use Rattle.uset_read.specs.Cursors.{source_of}
use Rattle.uset_fault.specs.Errors.{kind_told}
use Rattle.uset_reader.proofs.TurnLemmas.{closes_alone, closes_unfit, closes_last, closes_inside, closes_misplaced, misfits, none_popped}
use Rattle.uset_reader.proofs.turn.close.Goals as goal

pub returns-in_default-clause-closes : goal.returns-in_default-clause-closes
returns-in_default-clause-closes c =
    closes_alone (source_of c.args.cursor) c.args.outer.now.items c.pop.new.self.items c.args.bracket.now c.close_outermost.new.bracket c.args.text.now c.args.rest.now c.close_outermost.result c.in_default.ensures.items
    (none_popped c.args.outer.now.items c.pop.new.self.items _ c.in_default.ensures.items c.in_default.ensures.rest c.in_default.ensures.cases.0) c.close_outermost.ensures.closes

pub returns-in_default-2-clause-closes : goal.returns-in_default-2-clause-closes
returns-in_default-2-clause-closes c =
    closes_unfit c.turns.ensures.places c.args.cursor c.args.outer.now.items c.pop.new.self.items c.args.bracket.now c.replace-inner.new.dest c.args.text.now c.args.rest.now c.fault_at.result (rw c.replace-inner.ensures.value at (rw c.in_default-2.is at c.in_ok-set.ensures))
    (ap kind_told c.fault_at.ensures.kind) c.fault_at.ensures.place

pub returns-in_default-split_first-clause-closes : goal.returns-in_default-split_first-clause-closes
returns-in_default-split_first-clause-closes c =
    closes_last (source_of c.args.cursor) c.args.outer.now.items c.pop.new.self.items c.pop.new.self.items c.args.bracket.now c.in-Some.around c.replace-inner.new.dest c.args.text.now c.args.rest.now c.in-Some-2.set c.into.result
    (rw c.replace-inner.ensures.value at (rw c.in-Some-2.is at c.in_ok-set.ensures)) c.in-Some.ensures.items c.in_default-split_first.ensures.parts (ap kind_told c.into.ensures.0) c.into.ensures.1

pub returns-in-Fits-clause-closes : goal.returns-in-Fits-clause-closes
returns-in-Fits-clause-closes c =
    closes_inside (source_of c.args.cursor) c.args.outer.now.items c.pop.new.self.items c.args.bracket.now c.in-Some.around c.take.new.self c.args.text.now c.args.rest c.in-Some-2.set
    (rw c.replace-inner.ensures.value at (rw c.in-Some-2.is at c.in_ok-set.ensures)) c.in-Some.ensures.items _ _ c.in-Some-split_first.ensures.parts (rw c.replace-inner.ensures.after at (rw c.in-Fits.is at c.in_ok-take.ensures))

pub returns-in_default-3-clause-closes : goal.returns-in_default-3-clause-closes
returns-in_default-3-clause-closes c =
    closes_misplaced (source_of c.args.cursor) c.args.outer.now.items c.pop.new.self.items c.args.bracket.now c.in-Some.around c.take.new.self c.args.text.now c.args.rest c.in-Some-2.set
    (rw c.replace-inner.ensures.value at (rw c.in-Some-2.is at c.in_ok-set.ensures)) c.in-Some.ensures.items _ _ c.in-Some-split_first.ensures.parts
    (misfits c.in-Some.around c.take.new.self _ c.in_ok-take.field-0 c.in_default-3.not-Fits (rw c.replace-inner.ensures.after at c.in_ok-take.ensures)) c.at.result (ap kind_told c.at.ensures.kind)
    (c.at.ensures.place ∙ ap (λ b. Some b.before) c.replace-inner.ensures.value)
