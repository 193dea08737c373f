use Rattle.std.proofs.Common.{sym, ap, ◌∙◌, Some}
use Rattle.std.proofs.lemmas.Str.{encodes-chars}
use Rattle.uset_fault.specs.Errors.{kind_told}
use Rattle.uset_reader.proofs.ReaderLemmas.{refused_unbound, refused_other, read_variable}
use Rattle.uset_reader.proofs.reader.read_variable.Goals as goal

pub returns-in_default-clause-refused : goal.returns-in_default-clause-refused
returns-in_default-clause-refused c =
    refused_unbound c.args.syntax.now c.args.source.now c.turns.ensures.behind c.args.name.now c.args.rest.now c.requires.begins (encodes-chars c.args.name.now c.utf8.name) c.new-cursor.result c.fault_before.result
    (sym c.in_default.ensures.value) c.new-cursor.ensures.source (ap kind_told c.fault_before.ensures.kind) c.fault_before.ensures.place

pub returns-in_default-as_set-clause-refused : goal.returns-in_default-as_set-clause-refused
returns-in_default-as_set-clause-refused c =
    refused_other c.args.syntax.now c.args.source.now c.turns.ensures.behind c.args.name.now c.args.rest.now c.requires.begins (encodes-chars c.args.name.now c.utf8.name) c.new-cursor.result c.fault_before-in_default-as_set.result c.in-Some.value.now
    (sym c.in-Some.ensures.value) c.in_default-as_set.ensures c.new-cursor.ensures.source (ap kind_told c.fault_before-in_default-as_set.ensures.kind) c.fault_before-in_default-as_set.ensures.place

pub returns-clause-read : goal.returns-clause-read
returns-clause-read c =
    read_variable c.args.syntax.now c.args.source.now c.turns.ensures.behind c.args.name.now c.args.rest.now c.requires.begins (encodes-chars c.args.name.now c.utf8.name) c.in_ok-variable_set.field-0 c.in-Some-as_set.set.now c.at.result
    (sym c.in-Some.ensures.value ∙ ap Some c.in-Some-as_set.ensures) c.in_ok-variable_set.ensures (c.at.ensures.source ∙ c.new-cursor.ensures.source) c.at.ensures.left
