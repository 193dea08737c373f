-- What a term comes to.
use Rattle.std.proofs.Common.{◌≡◌, ℕ, Bool, List, ap}
use Rattle.cp_terms.specs.declared.step.Step.{Step}
use Rattle.cp_terms.specs.Terms.{value_of}

-- a term has the same value where the same sets have the member
pub value_of-same : (v w : ℕ → Bool) (steps : List Step) → ((index : ℕ) → v index ≡ w index) → value_of v steps ≡ value_of w steps
value_of-same v w steps h = let same : v ≡ w = λ i index. h index i in ap (λ u. value_of u steps) same
