use Rattle.std.proofs.Common.{ap}
use Rattle.uset_fault.specs.Errors.{kind_told}
use Rattle.uset_reader.proofs.TurnLemmas.{unfit_variable}
use Rattle.uset_reader.proofs.turn.unfit.Goals as goal

pub returns-in-Variable-default : goal.returns-in-Variable-default
returns-in-Variable-default c = rw c.in-Variable-default.is-0 (unfit_variable c.turns.ensures.places c.args.cursor c.args.text.now c.args.rest.now c.fault_before.result (ap kind_told c.fault_before.ensures.kind) c.fault_before.ensures.place)
