-- What a database keeps: short names that are put into it, and its sets.
use Rattle.std.proofs.Common.{◌≡◌, ℕ, Bool, true, false, nat_eq, List, Option, Some, None, cond, refl, subst, arith}
use Rattle.std.specs.Prelude.{option_map}
use Rattle.std.proofs.lemmas.Bool.Decides.{nat_tests}
use Rattle.cp_invlist.specs.InversionList.{contains}
use Rattle.prop_data.specs.Forbidden.{IsAllowed}

-- a table whose number is neither of two takes no part in what is kept of those
pub among_others : {A : Type 0} (n t p q : ℕ) (x : A) (a b c new : Option A) → nat_eq n p ≡ false → nat_eq n q ≡ false → new ≡ cond (nat_eq n t) (Some x) c →
    cond (nat_eq t p) a (cond (nat_eq t q) b new) ≡ cond (nat_eq n t) (Some x) (cond (nat_eq t p) a (cond (nat_eq t q) b c))
among_others {A} n t p q x a b c new first second is = by_test (nat_eq t p) (nat_eq t q) (nat_eq n t) refl refl refl is
  where
    by_test : (tp tq nt : Bool) → nat_eq t p ≡ tp → nat_eq t q ≡ tq → nat_eq n t ≡ nt → new ≡ cond nt (Some x) c → cond tp a (cond tq b new) ≡ cond nt (Some x) (cond tp a (cond tq b c))
    by_test true tq true tp_is tq_is nt_is new_is = absurd (grind (arith, nat_tests))
    by_test true tq false tp_is tq_is nt_is new_is = refl
    by_test false true true tp_is tq_is nt_is new_is = absurd (grind (arith, nat_tests))
    by_test false true false tp_is tq_is nt_is new_is = refl
    by_test false false nt tp_is tq_is nt_is new_is = new_is

-- sets that are each allowed are so by their members
pub all_allowed : (sets : ℕ → Option (List ℕ)) → ((t : ℕ) (set : List ℕ) → sets t ≡ Some set → IsAllowed t (contains set)) → (t : ℕ) (members : ℕ → Bool) → option_map contains (sets t) ≡ Some members →
    IsAllowed t members
all_allowed sets allowed t members is = of (sets t) refl is
  where
    of : (set : Option (List ℕ)) → sets t ≡ set → option_map contains set ≡ Some members → IsAllowed t members
    of None there h = absurd (cc)
    of (Some set) there h = let same : contains set ≡ members = cc in subst (IsAllowed t) same (allowed t set there)
