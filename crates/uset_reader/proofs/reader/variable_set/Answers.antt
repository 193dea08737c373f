use Rattle.std.proofs.Common.{◌∙◌}
use Rattle.std.proofs.lemmas.Result.{IfOk-weaker}
use Rattle.uset_reader.specs.Named.{sets_of}
use Rattle.uset_reader.proofs.UnitLemmas.{variable_set}
use Rattle.uset_reader.proofs.reader.variable_set.Goals as goal

pub returns : goal.returns
returns c =
    let named = c.in_ok-named_variable.field-0 in
    let ensured = c.in_ok-named_variable.ensures in
    IfOk-weaker c.closed.result _ _
    (λ set closes l bound m. closes (sets_of l) (variable_set l named c.args.name.now c.args.set.now ensured.name ensured.set bound) m ∙ ensured.set m) c.closed.ensures
