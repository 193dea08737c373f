use Rattle.std.proofs.Common.{rules}
use Rattle.uset_reader.specs.Syntaxes.{language_seen}
use Rattle.uset_reader.proofs.UnitLemmas.{escape_read, escape_stops, escape_within}
use Rattle.uset_reader.proofs.unit.read_escaped.Goals as goal

pub returns-in_err-spelled-clause-stopped : goal.returns-in_err-spelled-clause-stopped
returns-in_err-spelled-clause-stopped c =
    let h = escape_stops c.args.syntax.now c.kinds_of_units.ensures c.args.several c.args.text.now c.requires c.in_err-spelled.field-0.0 c.in_err-spelled.ensures.stopped in
    search rules

pub escape_item-requires : goal.escape_item-requires
escape_item-requires c =
    escape_within c.args.syntax.now c.kinds_of_units.ensures c.args.several c.args.text.now c.requires c.in_ok-spelled.spelled c.in_ok-spelled.rest.now c.in_ok-spelled.ensures.read

pub returns-clause-read : goal.returns-clause-read
returns-clause-read c = λ g.
    escape_read c.args.syntax.now c.kinds_of_units.ensures c.args.several c.args.text.now c.requires c.in_ok-spelled.spelled c.in_ok-spelled.rest.now c.escape_item.result
    c.in_ok-spelled.ensures.read g (c.escape_item.ensures.item (language_seen c.args.syntax.now) g)
