use Rattle.cp_trie.specs.Map.{value_at}
use Rattle.prop_values.specs.CategoryLaws.{same_category}
use Rattle.prop_values.specs.Groups.{has}
use Rattle.prop_query.specs.Maps.{is_in_group}
use Rattle.prop_query.proofs.PassingLemmas.{ranges-passing}
use Rattle.prop_query.proofs.map.CodePointMapDataBorrowed+GeneralCategory.iter_ranges_for_group.Goals as goal

pub returns-clause-maximal : goal.returns-clause-maximal
returns-clause-maximal c =
    rw c.new.ensures (ranges-passing _ (λ x y. (same_category x y).0) (has c.args.group) (value_at c.args.self.trie.now) c.iter_ranges.result c.iter_ranges.ensures.maximal)

pub returns-clause-only : goal.returns-clause-only
returns-clause-only c rs maximal =
    c.one_list_of_ranges.ensures (is_in_group c.args.self.trie.now c.args.group) rs c.new.result maximal (returns-clause-maximal c)
