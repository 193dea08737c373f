use Rattle.std.proofs.Common.{sym, ap, ◌∙◌, rules, arith}
use Rattle.std.proofs.lemmas.Str.{chars-nil}
use Rattle.std.specs.Str.{chars}
use Rattle.cp_invlist.specs.InversionList.{contains}
use Rattle.uset_grammar.specs.PropertyParts.{key_in}
use Rattle.uset_read.specs.Queries.{form_seen}
use Rattle.uset_read.proofs.property.read_key.Goals as goal

pub loop-key-init : goal.loop-key-init
loop-key-init c = (
  search rules,
  omega arith,
  ap (λ key. key_in (contains c.args.white_space.now) (form_seen c.args.form) key (chars c.args.text.now)) (sym (ap chars c.new-key.ensures.bytes ∙ chars-nil)),
)
