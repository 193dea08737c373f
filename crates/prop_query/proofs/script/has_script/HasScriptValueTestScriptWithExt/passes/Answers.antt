use Rattle.std.proofs.Common.{sym, ap, ◌∙◌}
use Rattle.prop_query.specs.Scripts.{number_has}
use Rattle.prop_query.specs.ScriptTypes.{table_of}
use Rattle.prop_query.proofs.FoundLemmas.{AreFound-set}
use Rattle.prop_query.proofs.script.has_script.HasScriptValueTestScriptWithExt.passes.Goals as goal

pub invariant_of-self : goal.invariant_of-self
invariant_of-self c =
    let table = table_of c.args.self.now.scripts in
    let script = c.args.self.now.script in
    record {
      right = AreFound-set table script c.args.self.now.found c.from-place.result c.number_has-has.result c.args.self.now.right
          (ap (number_has table script) (c.from-place.ensures ∙ c.number.view_is) ∙ sym c.number_has-has.ensures);
    }
