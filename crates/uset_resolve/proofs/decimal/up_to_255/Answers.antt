use Rattle.std.proofs.Common.{◌∙◌, refl}
use Rattle.uset_resolve.proofs.DecimalLemmas.{decimal-parse}
use Rattle.uset_resolve.proofs.decimal.up_to_255.Goals as goal

pub returns-in_err-ok : goal.returns-in_err-ok
returns-in_err-ok c = let value = c.ok.ensures.value ∙ decimal-parse 255 8 refl c.args.text.now c.parse.result c.parse.ensures.value.0 in cc

pub returns : goal.returns
returns c = let value = c.ok.ensures.value ∙ decimal-parse 255 8 refl c.args.text.now c.parse.result c.parse.ensures.value.0 in cc
