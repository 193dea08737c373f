use Rattle.std.proofs.Common.{sym, ap}
use Rattle.std.proofs.lemmas.Str.{encodes-chars}
use Rattle.uset_read.specs.Cursors.{source_of}
use Rattle.uset_fault.specs.Errors.{kind_told}
use Rattle.uset_reader.proofs.TurnLemmas.{takes_unbound, takes_bound}
use Rattle.uset_reader.proofs.turn.take_variable.Goals as goal

pub returns-in_default-clause-takes : goal.returns-in_default-clause-takes
returns-in_default-clause-takes c =
    takes_unbound c.args.syntax.now c.turns.ensures.places c.args.cursor c.args.bracket.now c.args.name.now c.args.text.now c.args.rest.now c.fault_before.result (encodes-chars c.args.name.now c.utf8.name) (sym c.in_default.ensures.value)
    (ap kind_told c.fault_before.ensures.kind) c.fault_before.ensures.place

pub returns-clause-takes : goal.returns-clause-takes
returns-clause-takes c =
    takes_bound c.args.syntax.now (source_of c.args.cursor) c.args.bracket.now c.take.new.bracket c.args.name.now c.args.text.now c.args.rest.now c.in-Some.value.now c.in_ok-item.item c.take.result (encodes-chars c.args.name.now c.utf8.name)
    (sym c.in-Some.ensures.value) c.in_ok-item.ensures.item c.take.ensures.takes
