use Rattle.std.proofs.Common.{Some, ap, ◌∙◌, option_map}
use Rattle.std.specs.Prelude.{cond}
use Rattle.std.specs.BTreeMap.{get_by_text}
use Rattle.std.specs.Str.{bytes_eq}
use Rattle.std.specs.String.{string_bytes}
use Rattle.std.proofs.lemmas.Map.Text.{btree_map_updates_text}
use Rattle.uset_variables.specs.Numbered.{value_at}
use Rattle.uset_variables.proofs.VariableLemmas.{option_map-cond}
use Rattle.uset_variables.proofs.map.insert_copy.Goals as goal

pub returns : goal.returns
returns c = λ name.
    let values = c.args.values.now in
    let kept = c.in_ok-copy.field-0 in
    ap (λ o. option_map (λ k. k.value) o) (btree_map_updates_text (string_bytes c.in_ok-name.name) values c.insert.new.self (Some kept) c.in_ok-insert.ensures.updates name)
    ∙ (option_map-cond (λ k. k.value) (bytes_eq (string_bytes c.in_ok-name.name) name) (Some kept) (get_by_text values name)
    ∙ (ap (λ text. cond (bytes_eq text name) (Some kept.value) (value_at values name)) c.in_ok-name.ensures.ok
    ∙ ap (λ value. cond (bytes_eq c.args.key.now name) (Some value) (value_at values name)) c.in_ok-copy.ensures))
