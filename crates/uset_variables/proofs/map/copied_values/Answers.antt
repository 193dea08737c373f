use Rattle.std.proofs.Common.{rules, subst}
use Rattle.std.specs.Map.Iter.{deref_pair}
use Rattle.std.specs.String.{string_cmp_total}
use Rattle.std.proofs.lemmas.Map.Iter.{rest_more, btree_map_turn}
use Rattle.uset_variables.proofs.VariableLemmas.{IsCopiedUpTo, copied_one}
use Rattle.uset_variables.proofs.map.copied_values.Goals as goal

pub loop-key-preserved : goal.loop-key-preserved
loop-key-preserved c =
    let left = c.loop-key.key-iterator in
    let after = c.next.new.self in
    let values = c.args.values.now in
    let before = subst (λ rest. IsCopiedUpTo values c.loop-key.copied rest) (rest_more deref_pair left after c.next.result (c.in-Some.key, c.in-Some.kept) c.in-Some.is c.next.ensures.steps) c.loop-key.invariant in
    let turn = btree_map_turn deref_pair c.loop-key.yielded c.into_iter-key-iterator.result left after c.next.result (c.in-Some.key, c.in-Some.kept) c.loop-key.yielded_by c.in-Some.is c.next.ensures.steps string_cmp_total values (search rules) (search rules) in
    copied_one values c.loop-key.copied c.insert_copy.new.values c.in-Some.key.now c.in-Some.kept.now after c.as_str.result.now before turn.1 c.as_str.ensures.value c.in_ok-insert_copy.ensures
