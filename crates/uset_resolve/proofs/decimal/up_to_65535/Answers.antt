use Rattle.std.proofs.Common.{◌∙◌, refl}
use Rattle.uset_resolve.proofs.DecimalLemmas.{decimal-parse}
use Rattle.uset_resolve.proofs.decimal.up_to_65535.Goals as goal

pub returns : goal.returns
returns c = c.ok.ensures.value ∙ decimal-parse 65535 16 refl c.args.text.now c.parse.result c.parse.ensures.value.0
