use Rattle.std.proofs.Common.{Some, ap, ◌∙◌, option_map}
use Rattle.std.specs.BTreeMap.{get_by_text}
use Rattle.std.specs.Str.{bytes_eq}
use Rattle.std.specs.String.{string_bytes}
use Rattle.std.proofs.lemmas.Map.Text.{btree_map_updates_text}
use Rattle.uset_variables.proofs.VariableLemmas.{option_map-cond}
use Rattle.uset_variables.proofs.NumberLemmas.{after_either, others_keep, all_keep, indices_beside}
use Rattle.uset_variables.proofs.map.VariableMap.bind.Goals as goal

pub invariant_of-self : goal.invariant_of-self
invariant_of-self c = record {
  indexed =
      indices_beside (string_bytes c.args.key) c.args.self.now.values c.insert.new.self c.args.self.now.strings c.args.self.now.indices
      c.args.self.now.indexed c.requires
      (after_either c.insert.result c.insert.ensures.updates c.insert.ensures.err
      (λ updates. others_keep (string_bytes c.args.key) c.args.self.now.values c.insert.new.self (Some c.args.value)
      (btree_map_updates_text (string_bytes c.args.key) c.args.self.now.values c.insert.new.self (Some c.args.value) updates))
      (λ same name differ. all_keep c.args.self.now.values c.insert.new.self same name));
}

pub returns-clause-ok : goal.returns-clause-ok
returns-clause-ok c = λ name.
    ap (λ kept. option_map (λ k. k.value) kept) (btree_map_updates_text (string_bytes c.args.key) c.args.self.now.values c.insert.new.self (Some c.args.value) c.in_ok-insert.ensures.updates name)
    ∙ option_map-cond (λ k. k.value) (bytes_eq (string_bytes c.args.key) name) (Some c.args.value) (get_by_text c.args.self.now.values name)
