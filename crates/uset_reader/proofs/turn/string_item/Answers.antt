use Rattle.std.proofs.Common.{ap, ◌∙◌}
use Rattle.uset_steps.specs.Names.{name_seen, named_in}
use Rattle.uset_variables.specs.Numbered.{some_value_in}
use Rattle.uset_reader.proofs.UnitLemmas.{copied_item, named_text_item}
use Rattle.uset_reader.proofs.turn.string_item.Goals as goal

pub returns-in_ok-new-in-Some-clause-item : goal.returns-in_ok-new-in-Some-clause-item
returns-in_ok-new-in-Some-clause-item c = λ l g bound.
    let boxed = c.in_ok-new-in-Some.ensures.ok in
    let named = c.in_ok-named-in-Some.ensures in
    named_text_item l g c.in_ok-new-in-Some.field-0 c.args.name.now c.args.string.now (ap (λ named. name_seen named.name) boxed ∙ named.name)
    (λ m. ap (λ named. named_in named.set m) boxed ∙ (named.set m ∙ (c.in-Some.ensures.members m ∙ ap (λ v. some_value_in v m) c.requires.bound))) bound

pub returns-in_ok-from_str-in-None-clause-item : goal.returns-in_ok-from_str-in-None-clause-item
returns-in_ok-from_str-in-None-clause-item c = λ l g bound.
    copied_item l g c.in_ok-from_str-in-None.field-0 _ (c.in_ok-from_str-in-None.ensures.ok ∙ c.as_str.ensures)
