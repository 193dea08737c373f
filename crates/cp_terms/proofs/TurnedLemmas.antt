-- What the words of a stretch are by themselves, and what they are once each takes over from the one in front.
use Rattle.std.proofs.Common.{◌≡◌, ℕ, suc, ◌+◌, ◌-◌, ◌*◌, ◌/◌, ◌%◌, ◌<◌, ◌≤◌, ◌==◌, ◌&&◌, nat_le, nat_lt, Bool, true, false, List, [], ◌∷◌, ◌++◌, All, refl, sym, ap, ap₂, ◌∙◌, arith}
use Rattle.std.proofs.lemmas.Bool.Decides.{nat_tests}
use Rattle.cp_invlist.specs.InversionList.{contains, differ}
use Rattle.cp_invlist.specs.ListLaws.{contains-append, differ_assoc}
use Rattle.cp_invlist.specs.CutLaws.{differ-false}
use Rattle.cp_terms.specs.declared.block.Block.{Block}
use Rattle.cp_terms.specs.Blocks.{block_has, odd_below, AreTurned}

odd_below-append : (n : ℕ) (xs : List ℕ) (e : ℕ) → odd_below n (xs ++ e ∷ []) ≡ differ (odd_below n xs) (nat_lt e n)
odd_below-append n [] e = differ-false (nat_lt e n)
odd_below-append n (x ∷ xs) e = ap (differ (nat_lt x n)) (odd_below-append n xs e) ∙ differ_assoc (nat_lt x n) (odd_below n xs) (nat_lt e n)

-- no element is below a number that all are above
pub odd_below-none : (n : ℕ) (xs : List ℕ) → All (λ x. n ≤ x) xs → odd_below n xs ≡ false
odd_below-none n [] above = refl
odd_below-none n (x ∷ xs) above = ap₂ differ (late x n (above 0 0 (omega arith))) (odd_below-none n xs (λ k d lt. above (suc k) d (omega (arith, lt))))
  where
    late : (x n : ℕ) → n ≤ x → nat_lt x n ≡ false
    late x n le = grind (arith, nat_tests)

-- those below the next number are those that are at most this one
pub odd_below-next : (c : ℕ) (xs : List ℕ) → odd_below (c + 1) xs ≡ contains xs c
odd_below-next c [] = refl
odd_below-next c (x ∷ xs) = ap₂ differ (next x c) (odd_below-next c xs)
  where
    next : (x c : ℕ) → nat_lt x (c + 1) ≡ nat_le x c
    next x c = grind (arith, nat_tests)

rearranged : (a b s k : Bool) → differ (differ a b) (differ s k) ≡ differ (differ s a) (differ k (differ b false))
rearranged true true true true = refl
rearranged true true true false = refl
rearranged true true false true = refl
rearranged true true false false = refl
rearranged true false true true = refl
rearranged true false true false = refl
rearranged true false false true = refl
rearranged true false false false = refl
rearranged false true true true = refl
rearranged false true true false = refl
rearranged false true false true = refl
rearranged false true false false = refl
rearranged false false true true = refl
rearranged false false true false = refl
rearranged false false false true = refl
rearranged false false false false = refl

-- an element turns the bits of its word from its own on
turned_there : (place e i j : ℕ) → place ≤ e → j < 64 → ((e - place) / 64 == i && nat_le ((e - place) % 64) j) ≡ differ (nat_lt e (place + 64 * i)) (nat_le e (place + 64 * i + j))
turned_there place e i j le h = grind (arith, nat_tests)

-- an element more
pub turned_more : (xs : List ℕ) (place e : ℕ) (old new : Block) → place ≤ e → AreTurned xs place old →
    ((i j : ℕ) → i < 256 → j < 64 → block_has new i j ≡ differ ((e - place) / 64 == i && nat_le ((e - place) % 64) j) (block_has old i j)) → AreTurned (xs ++ e ∷ []) place new
turned_more xs place e old new le are turned i j short h =
    let n = place + 64 * i in
    turned i j short h
    ∙ (ap₂ differ (turned_there place e i j le h) (are i j short h)
    ∙ (rearranged (nat_lt e n) (nat_le e (n + j)) (odd_below n xs) (contains xs (n + j))
    ∙ sym (ap₂ differ (odd_below-append n xs e) (contains-append xs (e ∷ []) (n + j)))))

-- what a word is by itself and what comes before it make what it is
pub carried_over : (inside s k : Bool) → differ inside k ≡ differ (differ inside s) (differ s k)
carried_over true true true = refl
carried_over true true false = refl
carried_over true false k = refl
carried_over false true true = refl
carried_over false true false = refl
carried_over false false k = refl
