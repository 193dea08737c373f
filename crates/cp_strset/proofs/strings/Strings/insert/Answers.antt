use Rattle.std.proofs.Common.{true, ◌∙◌}
use Rattle.std.proofs.lemmas.Map.Text.{btree_set_updates_text}
use Rattle.std.specs.BTreeSet.{contains_text}
use Rattle.std.specs.Str.{bytes_eq}
use Rattle.std.specs.String.{string_bytes}
use Rattle.cp_strset.proofs.StringsLemmas.{replaced_or, none_of_one_more}
use Rattle.cp_strset.proofs.strings.Strings.insert.Goals as goal

pub returns-clause-ok : goal.returns-clause-ok
returns-clause-ok c = rw (← c.self.view_is) (λ bytes.
    let text = string_bytes c.args.text in
    btree_set_updates_text text c.self.inside.texts c.insert.new.self true c.in_ok-insert.ensures.updates bytes ∙ replaced_or (bytes_eq text bytes) (contains_text c.self.inside.texts bytes))

pub invariant_of-self-2 : goal.invariant_of-self-2
invariant_of-self-2 c =
    none_of_one_more c.self.inside.texts.keys c.insert.new.self.keys (string_bytes c.args.text) c.requires c.self.invariant (rw (← c.self.view_is) at (returns-clause-ok c))
