-- The laws of numbers that unpack to themselves, which the implementations of `TrieValue` for numbers cite.
use Rattle.std.proofs.Common.{◌≡◌, ℕ, true, ◌↔◌, Some, nat_eq, arith}
use Rattle.std.proofs.lemmas.Bool.Decides.{nat_tests}
use Rattle.cp_trie.specs.Values.{below, scalar_value}

-- a number that unpacks to itself below a limit does so again
pub below-again : (limit n value : ℕ) → below limit n ≡ Some value → below limit value ≡ Some value
below-again limit n value h = grind (arith, nat_tests)

pub scalar_value-again : (n value : ℕ) → scalar_value n ≡ Some value → scalar_value value ≡ Some value
scalar_value-again n value h = grind (arith, nat_tests)

-- the test of two numbers tells whether they are the same
pub nat_eq-same : (x y : ℕ) → (nat_eq x y ≡ true) ↔ (x ≡ y)
nat_eq-same x y = grind (arith, nat_tests)
