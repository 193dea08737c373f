use Rattle.std.proofs.Common.{◌≡◌, true, Some, IfSome, ap, sym, subst, ◌∙◌, option_map}
use Rattle.std.proofs.lemmas.Map.Text.{btree_map_updates_text}
use Rattle.std.specs.BTreeMap.{get_by_text}
use Rattle.std.specs.Prelude.{cond, is_some}
use Rattle.std.specs.Str.{bytes_eq}
use Rattle.std.specs.String.{string_bytes}
use Rattle.uset_variables.specs.Numbered.{value_at, some_gets_numbers, IsIndexOf}
use Rattle.uset_variables.proofs.NumberLemmas.{after_either, indices_kept, indices_unchanged, indices_of_one_more, is_some-cond}
use Rattle.uset_variables.proofs.map.VariableMap.number_strings.Goals as goal

pub invariant_of-self-2 : goal.invariant_of-self-2
invariant_of-self-2 c =
    let map = c.args.self.now in
    let strings = c.of.new.strings in
    let index = c.in-Some-2.index in
    let kept = indices_kept map.values map.strings strings map.indices c.of.ensures.kept map.indexed in
    let is_bound : Some c.in-Some.kept.now.value ≡ value_at map.values (string_bytes c.in_ok-name.name) =
    ap (option_map (λ k. k.value)) c.in-Some.ensures.value ∙ ap (value_at map.values) (sym c.in_ok-name.ensures.ok) in
    let is : IsIndexOf strings (value_at map.values (string_bytes c.in_ok-name.name)) index =
    subst (λ value. IsIndexOf strings value index) is_bound
    (subst (λ o. IfSome o (IsIndexOf strings (Some c.in-Some.kept.now.value))) c.in-Some-2.is c.in_ok-index.ensures.index) in
    record {
      indexed =
          after_either c.insert.result c.insert.ensures.updates c.insert.ensures.err
          (λ updates.
          indices_of_one_more (string_bytes c.in_ok-name.name) map.values strings map.indices c.insert.new.self index kept is
          (btree_map_updates_text (string_bytes c.in_ok-name.name) map.indices c.insert.new.self (Some index) updates))
          (λ same. indices_unchanged map.values strings map.indices c.insert.new.self same kept);
    }

pub returns-clause-ok : goal.returns-clause-ok
returns-clause-ok c = λ name.
    let map = c.args.self.now in
    let index = c.in-Some-2.index in
    let numbered : some_gets_numbers (value_at map.values c.args.key.now) ≡ true =
    ap (λ o. some_gets_numbers (option_map (λ k. k.value) o)) (sym c.in-Some.ensures.value)
    ∙ (sym c.in_ok-index.ensures.some ∙ ap is_some c.in-Some-2.is) in
    ap (λ i. is_some (option_map (λ i. i.numbers) i)) (btree_map_updates_text (string_bytes c.in_ok-name.name) map.indices c.insert.new.self (Some index) c.in_ok-insert.ensures.updates name)
    ∙ (ap (λ text. is_some (option_map (λ i. i.numbers) (cond (bytes_eq text name) (Some index) (get_by_text map.indices name)))) c.in_ok-name.ensures.ok
    ∙ is_some-cond (λ i. i.numbers) (bytes_eq c.args.key.now name) (some_gets_numbers (value_at map.values c.args.key.now)) index (get_by_text map.indices name) numbered)
