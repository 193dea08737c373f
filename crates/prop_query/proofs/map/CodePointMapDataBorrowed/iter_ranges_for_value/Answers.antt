use Rattle.cp_trie.specs.Map.{value_at, has_value}
use Rattle.prop_query.proofs.PassingLemmas.{ranges-passing}
use Rattle.prop_query.proofs.map.CodePointMapDataBorrowed.iter_ranges_for_value.Goals as goal

pub returns-clause-maximal : goal.returns-clause-maximal
returns-clause-maximal g c =
    let eq = g.T.PartialEq.eq in
    rw c.new.ensures (ranges-passing eq (λ x y. (g.met.T.TrieValue.eq_is_same x y).0) (λ v. g.T.PartialEq.eq v c.args.val) (value_at c.args.self.trie.now) c.iter_ranges.result c.iter_ranges.ensures.maximal)

pub returns-clause-only : goal.returns-clause-only
returns-clause-only g c rs maximal =
    c.one_list_of_ranges.ensures (has_value g.T.PartialEq.eq c.args.self.trie.now c.args.val) rs c.new.result maximal (returns-clause-maximal g c)
