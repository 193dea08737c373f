use Rattle.std.proofs.Common.{All, sym, subst}
use Rattle.std.proofs.lemmas.List.Elements.{All-push}
use Rattle.cp_strset_terms.specs.Leaves.{FitsNumbers}
use Rattle.set_rows.proofs.string_terms.leaves.Goals as goal

pub loop-set-preserved : goal.loop-set-preserved
loop-set-preserved c = λ all. subst (All (FitsNumbers all)) (sym c.in_ok-push-2.ensures.items) (All-push (FitsNumbers all) c.loop-set.leaves.items _ (c.loop-set.invariant all) tt)
