use Rattle.std.proofs.Common.{None, ap, ◌∙◌, option_map}
use Rattle.std.specs.BTreeMap.{get_by_text}
use Rattle.std.specs.Str.{bytes_eq}
use Rattle.std.proofs.lemmas.Map.Text.{btree_map_updates_text}
use Rattle.uset_variables.proofs.VariableLemmas.{option_map-cond}
use Rattle.uset_variables.proofs.NumberLemmas.{others_keep, indices_of_others}
use Rattle.uset_variables.proofs.map.VariableMap.remove.Goals as goal

pub invariant_of-self : goal.invariant_of-self
invariant_of-self c = record {
  indexed =
      indices_of_others c.args.key.now c.args.self.now.values c.remove-2.new.self c.args.self.now.strings c.args.self.now.indices c.remove.new.self
      c.args.self.now.indexed
      (btree_map_updates_text c.args.key.now c.args.self.now.indices c.remove.new.self None c.remove.ensures.updates)
      (others_keep c.args.key.now c.args.self.now.values c.remove-2.new.self None
      (btree_map_updates_text c.args.key.now c.args.self.now.values c.remove-2.new.self None c.remove-2.ensures.updates));
}

pub returns-clause-removes : goal.returns-clause-removes
returns-clause-removes c = λ name.
    ap (λ kept. option_map (λ k. k.value) kept) (btree_map_updates_text c.args.key.now c.args.self.now.values c.remove-2.new.self None c.remove-2.ensures.updates name)
    ∙ option_map-cond (λ k. k.value) (bytes_eq c.args.key.now name) None (get_by_text c.args.self.now.values name)

pub returns-clause-numbers : goal.returns-clause-numbers
returns-clause-numbers c = λ name.
    ap (λ index. option_map (λ i. i.numbers) index) (btree_map_updates_text c.args.key.now c.args.self.now.indices c.remove.new.self None c.remove.ensures.updates name)
    ∙ option_map-cond (λ i. i.numbers) (bytes_eq c.args.key.now name) None (get_by_text c.args.self.now.indices name)
