use Rattle.std.proofs.Common.{◌∷◌, length, sym, subst}
use Rattle.std.proofs.lemmas.Bool.{ltb-false}
use Rattle.std.proofs.lemmas.Result.{on_ok_weaker}
use Rattle.cp_strset_terms.specs.Candidates.{Covers}
use Rattle.cp_strset_terms.specs.Leaves.{leaf_holds}
use Rattle.cp_strset_terms.proofs.LeavesLemmas.{leaf_holds-past}
use Rattle.cp_strset_terms.proofs.candidates.Sources.put_down.Goals as goal

pub returns-in-None : goal.returns-in-None
returns-in-None c = on_ok_weaker c.put_none.result
    (λ h bytes stack covered. subst (λ b. Covers (leaf_holds c.args.leaves.now bytes) c.put_none.new.self (b ∷ stack))
    (sym (leaf_holds-past c.args.leaves.now bytes c.args.index (ltb-false c.args.index (length c.args.leaves.now) (sym c.in-None.ensures.lookup.0))))
    (h (leaf_holds c.args.leaves.now bytes) stack covered)) c.put_none.ensures
