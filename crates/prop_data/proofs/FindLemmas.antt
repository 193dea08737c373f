-- What is found at the first place that passes.
use Rattle.std.proofs.Common.{◌≡◌, ◌≤◌, ℕ, Bool, Some, None, List, length, nat_lt, get_or, cond, refl, ap, ◌∙◌, arith}
use Rattle.std.proofs.lemmas.Bool.Decides.{nat_tests}
use Rattle.std.specs.List.{find, position, position_or_len, slice_get}
use Rattle.std.proofs.lemmas.List.Folds.{find_at}
use Rattle.std.proofs.lemmas.List.Quantifiers.{position-Some}
use Rattle.std.proofs.lemmas.List.Sums.{position_or_len_is}
use Rattle.std.proofs.lemmas.Option.{slice_get-get_or, slice_get_past}

-- it is the element there
pub find-at : {X : Type 0} (test : X → Bool) (xs : List X) (place : ℕ) (d : X) → position test xs ≡ Some place → find test xs ≡ Some (get_or xs place d)
find-at test xs place d is =
    let first = position-Some test xs place d is in
    find_at test xs
    ∙ (ap (slice_get xs) (position_or_len_is test xs place d (omega (arith, first.0)) first.2 (λ _. first.1)) ∙ slice_get-get_or xs place d first.0)

past : (is_within : Bool) (place len : ℕ) → nat_lt place len ≡ is_within → cond is_within (Some place) None ≡ None → len ≤ place
past is_within place len test none = grind (arith, nat_tests)

-- where there is none, nothing
pub find-none : {X : Type 0} (test : X → Bool) (xs : List X) → position test xs ≡ None → find test xs ≡ None
find-none test xs none =
    let place = position_or_len test xs in
    find_at test xs ∙ slice_get_past xs place (past (nat_lt place (length xs)) place (length xs) refl none)
