use Rattle.uset_reader.specs.Syntaxes.{language_seen}
use Rattle.uset_reader.specs.Units.{UnitStopsIn}
use Rattle.uset_reader.proofs.UnitLemmas.{property_read, property_stops}
use Rattle.uset_reader.proofs.PropertyLemmas.{answered_err}
use Rattle.uset_reader.proofs.unit.read_property_set.Goals as goal

pub returns-in_err-operand-clause-stopped : goal.returns-in_err-operand-clause-stopped
returns-in_err-operand-clause-stopped c = λ several.
    let s = c.args.syntax.now in
    answered_err c.from_residual.result c.in_err-operand.field-0.0 (UnitStopsIn (language_seen s) c.args.gathered.now several c.args.text.now)
    c.from_residual.ensures (λ fits. property_stops s c.kinds_of_units.ensures several c.args.text.now c.requires.begins c.in_err-operand.field-0.0 (c.in_err-operand.ensures.stopped fits))

pub returns-clause-read : goal.returns-clause-read
returns-clause-read c = λ several fits.
    property_read c.args.syntax.now c.kinds_of_units.ensures several c.args.text.now c.requires.begins c.args.gathered.now c.in_ok-operand.operand c.in_ok-operand.rest.now (c.in_ok-operand.ensures.read fits)
