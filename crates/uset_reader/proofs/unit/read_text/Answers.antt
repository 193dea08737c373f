use Rattle.std.specs.String.{string_bytes}
use Rattle.uset_reader.specs.Syntaxes.{language_seen}
use Rattle.uset_reader.specs.Units.{UnitStops}
use Rattle.uset_reader.proofs.UnitLemmas.{string_read, string_stops}
use Rattle.uset_reader.proofs.PropertyLemmas.{answered_err}
use Rattle.uset_reader.proofs.unit.read_text.Goals as goal

pub returns-in_err-string-clause-stopped : goal.returns-in_err-string-clause-stopped
returns-in_err-string-clause-stopped c = λ several.
    let s = c.args.syntax.now in
    let stop = c.in_err-string.field-0.0 in
    answered_err c.from_residual.result stop (UnitStops (language_seen s) several c.args.text.now) c.from_residual.ensures
    (string_stops s c.kinds_of_units.ensures several c.args.text.now c.requires stop c.in_err-string.ensures.stopped)

pub returns-clause-read : goal.returns-clause-read
returns-clause-read c = λ several g.
    string_read c.args.syntax.now c.kinds_of_units.ensures several c.args.text.now c.requires (string_bytes c.in_ok-string.string) c.in_ok-string.rest.now c.item_of_text.result
    c.in_ok-string.ensures.read g (c.item_of_text.ensures.item (language_seen c.args.syntax.now) g)
