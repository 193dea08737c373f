use Rattle.std.proofs.Common.{ap, ◌∙◌}
use Rattle.uset_steps.specs.Names.{name_seen, named_in}
use Rattle.uset_reader.proofs.UnitLemmas.{single_item, set_item}
use Rattle.uset_reader.proofs.turn.variable_item.Goals as goal

pub returns-in-Char-clause-item : goal.returns-in-Char-clause-item
returns-in-Char-clause-item c = λ l g bound. rw c.in-Char.is (single_item l g c.from_char.result c.in-Char.c c.from_char.ensures)

pub returns-in_ok-new-in-UnicodeSet-clause-item : goal.returns-in_ok-new-in-UnicodeSet-clause-item
returns-in_ok-new-in-UnicodeSet-clause-item c = λ l g bound.
    let boxed = c.in_ok-new-in-UnicodeSet.ensures.ok in
    rw c.in-UnicodeSet.is (
    set_item l g c.in_ok-new-in-UnicodeSet.field-0 c.args.name.now c.in-UnicodeSet.set (ap (λ named. name_seen named.name) boxed ∙ c.in_ok-named-in-UnicodeSet.ensures.name)
    (λ m. ap (λ named. named_in named.set m) boxed ∙ c.in_ok-named-in-UnicodeSet.ensures.set m) (rw c.in-UnicodeSet.is at bound))
