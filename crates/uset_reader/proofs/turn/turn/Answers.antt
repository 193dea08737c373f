use Rattle.std.proofs.Common.{sym, ap, ◌∙◌}
use Rattle.std.specs.Str.{chars}
use Rattle.uset_grammar.specs.Front.{closing, opening, of_name, begins_unit}
use Rattle.uset_fault.specs.Errors.{kind_told}
use Rattle.uset_reader.specs.Brackets.{opening_seen}
use Rattle.uset_reader.specs.Singles.{single_seen}
use Rattle.uset_reader.specs.Syntaxes.{language_seen}
use Rattle.uset_reader.proofs.TurnLemmas.{turned, turned_caret, turned_single}
use Rattle.uset_reader.proofs.turn.turn.Goals as goal

pub returns-in-Caret-clause-turns : goal.returns-in-Caret-clause-turns
returns-in-Caret-clause-turns c =
    turned_caret c.args.syntax.now c.args.cursor c.args.outer.now.items c.args.bracket.now c.skip_white_space-text.result.now (rw c.rest.ensures at c.skip_white_space-text.ensures.skipped)
    (sym c.is_short.ensures ∙ c.if-is_short.false) c.turns.ensures.places (sym c.in-Caret.ensures.front) c.fault_at.result (ap kind_told c.fault_at.ensures.kind) c.fault_at.ensures.place

pub returns-in-Closing-clause-turns : goal.returns-in-Closing-clause-turns
returns-in-Closing-clause-turns c =
    turned c.args.syntax.now c.args.cursor c.args.outer.now.items c.args.bracket.now c.skip_white_space-text.result.now (rw c.rest.ensures at c.skip_white_space-text.ensures.skipped)
    (sym c.is_short.ensures ∙ c.if-is_short.false) (closing (chars c.in-Closing.rest.now)) (sym c.in-Closing.ensures.front) c.close.new.outer.items c.close.new.bracket c.close.result
    (λ units here o os. c.close.ensures.closes (language_seen c.args.syntax.now) units here o os)

pub returns-in-Opening-clause-turns : goal.returns-in-Opening-clause-turns
returns-in-Opening-clause-turns c =
    turned c.args.syntax.now c.args.cursor c.args.outer.now.items c.args.bracket.now c.skip_white_space-text.result.now (rw c.rest.ensures at c.skip_white_space-text.ensures.skipped)
    (sym c.is_short.ensures ∙ c.if-is_short.false) (opening (opening_seen c.in-Opening.opening) (chars c.in-Opening.inner.now)) (sym c.in-Opening.ensures.front) c.open.new.outer.items c.open.new.bracket c.open.result
    (λ units here o os. c.open.ensures.opens (language_seen c.args.syntax.now) units here o os)

pub returns-in-Single-clause-turns : goal.returns-in-Single-clause-turns
returns-in-Single-clause-turns c =
    turned_single c.args.syntax.now c.args.cursor c.args.outer.now.items c.args.bracket.now c.skip_white_space-text.result.now (rw c.rest.ensures at c.skip_white_space-text.ensures.skipped)
    (sym c.is_short.ensures ∙ c.if-is_short.false) (c.turns.ensures.behind (language_seen c.args.syntax.now)) c.into_item-item.result (single_seen c.in-Single.single) c.in-Single.rest.now c.take.new.bracket c.take.result
    c.into_item-item.ensures.item (sym c.in-Single.ensures.front) c.take.ensures.takes

pub returns-in-Name-clause-turns : goal.returns-in-Name-clause-turns
returns-in-Name-clause-turns c =
    turned c.args.syntax.now c.args.cursor c.args.outer.now.items c.args.bracket.now c.skip_white_space-text.result.now (rw c.rest.ensures at c.skip_white_space-text.ensures.skipped)
    (sym c.is_short.ensures ∙ c.if-is_short.false) (of_name (chars c.in-Name.name.now) (chars c.in-Name.rest.now)) (sym c.in-Name.ensures.front) c.args.outer.now.items c.take_variable.new.bracket c.take_variable.result
    (λ units here. c.take_variable.ensures.takes units c.args.outer.now.items here
    ((c.turns.ensures.behind (language_seen c.args.syntax.now)).names (chars c.skip_white_space-text.result.now) (chars c.in-Name.name.now) (chars c.in-Name.rest.now) (sym c.in-Name.ensures.front)))

pub returns-in-Unit-clause-turns : goal.returns-in-Unit-clause-turns
returns-in-Unit-clause-turns c =
    let long = sym c.is_short.ensures ∙ c.if-is_short.false in
    turned c.args.syntax.now c.args.cursor c.args.outer.now.items c.args.bracket.now c.skip_white_space-text.result.now (rw c.rest.ensures at c.skip_white_space-text.ensures.skipped)
    long begins_unit (sym c.in-Unit.ensures.front) c.args.outer.now.items c.take_unit.new.bracket c.take_unit.result
    (λ units here. c.take_unit.ensures.takes units c.args.outer.now.items here (sym c.in-Unit.ensures.front) long)
