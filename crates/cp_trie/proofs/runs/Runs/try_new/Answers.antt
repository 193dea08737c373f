use Rattle.std.proofs.Common.{sym, ◌∙◌}
use Rattle.cp_trie.proofs.RunsLemmas.{no_fault-joined}
use Rattle.cp_trie.proofs.runs.Runs.try_new.Goals as goal

pub invariant_of-result-2 : goal.invariant_of-result-2
invariant_of-result-2 g c =
    rw (c.in_ok-joined_list.ensures, c.deref-3.ensures.value) (no_fault-joined g.T.PartialEq.eq c.args.runs.items (rw c.deref-2.ensures.value at (sym c.first_fault.ensures ∙ c.in_default.is)))
