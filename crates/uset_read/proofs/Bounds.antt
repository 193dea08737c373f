-- The rest behind an answer.
use Rattle.std.proofs.Common.{◌≡◌, ℕ, List, Result, Ok, Err, IfOk, Bor}

-- what holds of the rest holds of what is behind the answer
pub of_rest : {A E : Type 0} (P : List ℕ → Type 0) (r : Result (A × Bor (List ℕ)) E) (rest : List ℕ) → P rest → IfOk r (λ p. p.1.now ≡ rest) → IfOk r (λ p. P p.1.now)
of_rest P (Ok p) rest h e = rw e h
of_rest P (Err e) rest h same = tt
