use Rattle.std.proofs.lemmas.Result.{IfOk-weaker}
use Rattle.cp_trie.proofs.CoverLemmas.{IsCover-from_no_fault}
use Rattle.cp_trie.proofs.RunsLemmas.{runs-of_joined, value_at-joined}
use Rattle.cp_trie.proofs.trie.CodePointTrie.from_cover.Goals as goal

pub from_joined-requires : goal.from_joined-requires
from_joined-requires g c =
    rw c.in_ok-runs.ensures (runs-of_joined g.T.PartialEq.eq g.met.T.Eq.laws.refl (λ x y. (g.met.T.TrieValue.eq_is_same x y).0) c.args.runs.items c.args.error_value (IsCover-from_no_fault 0 0 c.args.runs.items c.requires))

pub returns-clause-values : goal.returns-clause-values
returns-clause-values g c =
    IfOk-weaker c.from_joined.result _ _ (
    λ map same n. value_at-joined g.T.PartialEq.eq (λ x y. (g.met.T.TrieValue.eq_is_same x y).0) map c.in_ok-runs.runs c.args.runs.items c.args.error_value n same c.in_ok-runs.ensures (IsCover-from_no_fault 0 0 c.args.runs.items c.requires)
    ) c.from_joined.ensures
