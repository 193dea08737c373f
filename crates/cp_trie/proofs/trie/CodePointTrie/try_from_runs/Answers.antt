use Rattle.cp_trie.proofs.CoverLemmas.{IsCover-from_no_fault}
use Rattle.cp_trie.proofs.RunsLemmas.{runs-of_joined, value_at-joined}
use Rattle.cp_trie.proofs.trie.CodePointTrie.try_from_runs.Goals as goal

pub from_joined-requires : goal.from_joined-requires
from_joined-requires g c =
    rw c.in_ok-runs.ensures.joined (runs-of_joined g.T.PartialEq.eq g.met.T.Eq.laws.refl (λ x y. (g.met.T.TrieValue.eq_is_same x y).0) c.args.runs.items c.args.error_value (IsCover-from_no_fault 0 0 c.args.runs.items c.in_ok-runs.ensures.no_fault))

pub returns-clause-values : goal.returns-clause-values
returns-clause-values g c n =
    value_at-joined g.T.PartialEq.eq (λ x y. (g.met.T.TrieValue.eq_is_same x y).0) c.in_ok-from_joined.field-0 c.in_ok-runs.runs c.args.runs.items c.args.error_value n c.in_ok-from_joined.ensures c.in_ok-runs.ensures.joined (IsCover-from_no_fault 0 0 c.args.runs.items c.in_ok-runs.ensures.no_fault)
