-- Where a number cuts an ascending list: which elements stand before the place, and which behind it.
use Rattle.std.specs.Prelude.{ℕ, ◌<◌, ◌≤◌, List, All, take, drop}

-- the place behind the last element that is at most the number
pub record CutAfter (c : ℕ) (xs : List ℕ) (i : ℕ) : Type 0 where
  pub before : All (λ x. x ≤ c) (take i xs)
  pub behind : All (λ x. c < x) (drop i xs)

-- the place before the first element that is at least the number
pub record CutBefore (c : ℕ) (xs : List ℕ) (i : ℕ) : Type 0 where
  pub before : All (λ x. x < c) (take i xs)
  pub behind : All (λ x. c ≤ x) (drop i xs)
