use Rattle.std.proofs.Common.{Some, sym, ap, refl, ◌∙◌}
use Rattle.std.proofs.lemmas.Str.{encodes-chars}
use Rattle.uset_variables.specs.declared.value.VariableValue.TheVariants.{UnicodeSet, Char, String as Spelled}
use Rattle.uset_reader.proofs.EvaluationLemmas.{value_meant}
use Rattle.uset_reader.proofs.evaluation.find_variable.Goals as goal

pub returns-in-Some-clause-members : goal.returns-in-Some-clause-members
returns-in-Some-clause-members c = λ m.
    c.in-Some.ensures.members m ∙ value_meant c.args.syntax.now c.args.name.now (encodes-chars c.args.name.now c.utf8.name) m _ refl

pub returns-in_default-get-clause-members : goal.returns-in_default-get-clause-members
returns-in_default-get-clause-members c = λ m.
    value_meant c.args.syntax.now c.args.name.now (encodes-chars c.args.name.now c.utf8.name) m _ (sym c.in_default-get.ensures.value)

pub returns-in-UnicodeSet-clause-members : goal.returns-in-UnicodeSet-clause-members
returns-in-UnicodeSet-clause-members c = λ m.
    value_meant c.args.syntax.now c.args.name.now (encodes-chars c.args.name.now c.utf8.name) m (Some (UnicodeSet c.in-UnicodeSet.set))
    (sym c.in-Some-get.ensures.value ∙ ap Some c.in-UnicodeSet.is)

pub returns-in_ok-alone-in-String-clause-members : goal.returns-in_ok-alone-in-String-clause-members
returns-in_ok-alone-in-String-clause-members c = λ m.
    c.in_ok-alone-in-String.ensures m
    ∙ value_meant c.args.syntax.now c.args.name.now (encodes-chars c.args.name.now c.utf8.name) m (Some (Spelled c.in-String.string))
    (sym c.in-Some-get.ensures.value ∙ ap Some c.in-String.is)

pub returns-in-Char-clause-members : goal.returns-in-Char-clause-members
returns-in-Char-clause-members c = λ m.
    value_meant c.args.syntax.now c.args.name.now (encodes-chars c.args.name.now c.utf8.name) m (Some (Char c.in-Char.field-0))
    (sym c.in-Some-get.ensures.value ∙ ap Some c.in-Char.is)
