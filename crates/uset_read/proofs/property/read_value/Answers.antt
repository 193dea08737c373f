use Rattle.std.proofs.Common.{sym, ap, ◌∙◌, rules, arith}
use Rattle.std.proofs.lemmas.Str.{chars-nil}
use Rattle.std.specs.Str.{chars}
use Rattle.cp_invlist.specs.InversionList.{contains}
use Rattle.uset_grammar.specs.PropertyParts.{value_in}
use Rattle.uset_read.specs.Queries.{form_seen}
use Rattle.uset_read.proofs.property.read_value.Goals as goal

pub loop-value-init : goal.loop-value-init
loop-value-init c = (
  search rules,
  omega arith,
  ap (λ value. value_in (contains c.args.white_space.now) (form_seen c.args.form) value (chars c.args.text.now)) (sym (ap chars c.new-value.ensures.bytes ∙ chars-nil)),
)
