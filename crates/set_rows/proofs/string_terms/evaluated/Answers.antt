use Rattle.std.proofs.Common.{◌≡◌, All, Some, Result, Ok, Err, IfOk, sym, subst}
use Rattle.std.proofs.lemmas.Option.{same_Some}
use Rattle.std.specs.Result.{result_ok}
use Rattle.cp_strset_terms.specs.Leaves.{FitsNumbers}
use Rattle.set_rows.proofs.string_terms.evaluated.Goals as goal

-- what is known of a value that was taken out
taken_out : {T E : Type 0} (r : Result T E) (x : T) (P : T → Type 0) → Some x ≡ result_ok r → IfOk r P → P x
taken_out (Ok y) x P is h = subst P (sym (same_Some x y is)) h
taken_out (Err e) x P is h = cc

pub evaluate-requires : goal.evaluate-requires
evaluate-requires c =
    subst (All (FitsNumbers c.new.result)) (sym c.deref-2.ensures.value)
    (taken_out c.leaves.result c.in_ok-leaves.leaves _ c.in_ok-leaves.ensures.value c.leaves.ensures c.new.result)
