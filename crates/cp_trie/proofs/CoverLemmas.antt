-- Runs that cover the numbers from one on up to 10FFFF in order, and the values that they spell.
use Rattle.std.proofs.Common.{◌≡◌, ℕ, ◌+◌, ◌<◌, ◌≤◌, Bool, true, false, cond, ◌==◌, Option, Some, None, List, [], ◌∷◌, refl, sym, ap, ◌∙◌, arith}
use Rattle.std.proofs.lemmas.Bool.Decides.{nat_tests}
use Rattle.cp_invlist.specs.Ranges.{in_range}
use Rattle.cp_invlist.specs.declared.ranges.CodePointRange.{CodePointRange}
use Rattle.cp_trie.specs.Faults.{fault_from, is_in_order}
use Rattle.cp_trie.specs.Map.{CodePointMap, value_at}
use Rattle.cp_trie.specs.Runs.{value_in, AreRunsFrom, AreMaximalRuns}
use Rattle.cp_trie.specs.declared.ranges.CodePointMapRange.{CodePointMapRange}

-- each run starts one past the end of the run before it, the first at this number, and the last ends at 10FFFF
abbrev pub IsCover : {V : Type 0} → ℕ → List (CodePointMapRange V) → Type 0
IsCover n [] = n ≡ 0x11_0000
IsCover n (r ∷ rs) =
    (r.range.start ≡ n) × (n ≤ r.range.end) × (r.range.end ≤ 0x10_FFFF) × IsCover (r.range.end + 1) rs

-- at each number of a run the map has the value of the run
abbrev pub Spells : {V : Type 0} → (ℕ → V) → List (CodePointMapRange V) → Type 0
Spells at [] = Unit {0}
Spells at (r ∷ rs) = ((c : ℕ) → r.range.start ≤ c → c ≤ r.range.end → at c ≡ r.value) × Spells at rs

pub in_range-within : (r : CodePointRange) (c : ℕ) → r.start ≤ c → c ≤ r.end → in_range r c ≡ true
in_range-within r c low high = grind (arith, nat_tests)

pub in_range-before : (r : CodePointRange) (c : ℕ) → c < r.start → in_range r c ≡ false
in_range-before r c h = grind (arith, nat_tests)

pub in_range-behind : (r : CodePointRange) (c : ℕ) → r.end < c → in_range r c ≡ false
in_range-behind r c h = grind (arith, nat_tests)

pub value_in-within : {V : Type 0} (r : CodePointMapRange V) (rs : List (CodePointMapRange V)) (e : V) (c : ℕ) → r.range.start ≤ c → c ≤ r.range.end → value_in (r ∷ rs) e c ≡ r.value
value_in-within r rs e c low high = ap (λ b. cond b r.value (value_in rs e c)) (in_range-within r.range c low high)

pub value_in-behind : {V : Type 0} (r : CodePointMapRange V) (rs : List (CodePointMapRange V)) (e : V) (c : ℕ) → r.range.end < c → value_in (r ∷ rs) e c ≡ value_in rs e c
value_in-behind r rs e c h = ap (λ b. cond b r.value (value_in rs e c)) (in_range-behind r.range c h)

-- a step with no fault passes both its tests
passes : {E : Type 0} (a b : Bool) (x : Option E) (e f : E) → cond a (cond b x (Some e)) (Some f) ≡ None → (a ≡ true) × (b ≡ true) × (x ≡ None)
passes true true x e f h = (refl, refl, h)
passes true false x e f h = cc
passes false b x e f h = cc

-- runs with no fault cover
pub IsCover-from_no_fault : {V : Type 0} (index n : ℕ) (rs : List (CodePointMapRange V)) → fault_from index n rs ≡ None → IsCover n rs
IsCover-from_no_fault index n [] h = grind (arith, nat_tests)
IsCover-from_no_fault index n (r ∷ rs) h =
    let p = passes (r.range.start == n) (is_in_order r) (fault_from (index + 1) (r.range.end + 1) rs) _ _ h in
    let starts : r.range.start ≡ n = grind (arith, nat_tests, p.0) in
    let low : r.range.start ≤ r.range.end = grind (arith, nat_tests, p.1) in
    let high : r.range.end ≤ 0x10_FFFF = grind (arith, nat_tests, p.1) in
    (starts, omega arith, high, IsCover-from_no_fault (index + 1) (r.range.end + 1) rs p.2)

-- maximal runs cover
pub IsCover-from_runs : {V : Type 0} (eq : V → V → Bool) (at : ℕ → V) (n : ℕ) (rs : List (CodePointMapRange V)) → AreRunsFrom eq at n rs → IsCover n rs
IsCover-from_runs eq at n [] h = h
IsCover-from_runs eq at n (r ∷ rs) h = (h.0, h.1, h.2, IsCover-from_runs eq at (r.range.end + 1) rs h.6)

-- a map that agrees with runs that cover has the value of each run at its numbers
pub Spells-value_in : {V : Type 0} (n : ℕ) (rs : List (CodePointMapRange V)) (e : V) (at : ℕ → V) → ((c : ℕ) → n ≤ c → at c ≡ value_in rs e c) → IsCover n rs → Spells at rs
Spells-value_in n [] e at agree cover = tt
Spells-value_in n (r ∷ rs) e at agree cover =
    (λ c low high. agree c (omega arith) ∙ value_in-within r rs e c low high, Spells-value_in (r.range.end + 1) rs e at (λ c low. agree c (omega arith) ∙ value_in-behind r rs e c (omega arith)) cover.3)

-- a map has the value of each of its runs at the numbers of that run
pub Spells-runs : {V : Type 0} (eq : V → V → Bool) (m : CodePointMap V) (rs : List (CodePointMapRange V)) → rs ≡ m.runs → AreMaximalRuns eq (value_at m) rs → Spells (value_at m) rs
Spells-runs {V} eq m rs same maximal =
    let at : (c : ℕ) → 0 ≤ c → value_at m c ≡ value_in rs m.error_value c = λ c _. ap (λ (xs : List (CodePointMapRange V)). value_in xs m.error_value c) (sym same) in
    Spells-value_in 0 rs m.error_value (value_at m) at (IsCover-from_runs eq (value_at m) 0 rs maximal)

-- past 10FFFF runs that cover leave the error value
pub value_in-past_end : {V : Type 0} (n : ℕ) (rs : List (CodePointMapRange V)) (e : V) (c : ℕ) → IsCover n rs → 0x10_FFFF < c → value_in rs e c ≡ e
value_in-past_end n [] e c cover h = refl
value_in-past_end n (r ∷ rs) e c cover h =
    value_in-behind r rs e c (omega arith) ∙ value_in-past_end (r.range.end + 1) rs e c cover.3 h

-- runs that cover have no fault
pub no_fault-from_IsCover : {V : Type 0} (index n : ℕ) (rs : List (CodePointMapRange V)) → IsCover n rs → fault_from index n rs ≡ None
no_fault-from_IsCover index n [] cover = grind (arith, nat_tests)
no_fault-from_IsCover index n (r ∷ rs) cover =
    let starts : (r.range.start == n) ≡ true = grind (arith, nat_tests) in
    let order : is_in_order r ≡ true = grind (arith, nat_tests) in
    rw (starts, order) (no_fault-from_IsCover (index + 1) (r.range.end + 1) rs cover.3)
