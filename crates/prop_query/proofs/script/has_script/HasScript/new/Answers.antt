use Rattle.prop_query.specs.ScriptTypes.{table_of}
use Rattle.prop_query.proofs.FoundLemmas.{AreFound-none}
use Rattle.prop_query.proofs.script.has_script.HasScript.new.Goals as goal

pub invariant_of-result : goal.invariant_of-result
invariant_of-result c = record { right = AreFound-none (table_of c.args.scripts) c.to_icu4c_value.result 4096 }
