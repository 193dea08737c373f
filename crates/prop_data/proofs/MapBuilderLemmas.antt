-- Runs that cover the code points below a number, and the values that they spell.
use Rattle.std.proofs.Common.{◌≡◌, ℕ, ◌+◌, ◌<◌, ◌≤◌, Bool, true, false, ◌&&◌, cond, ◌==◌, nat_lt, Option, Some, None, List, [], ◌∷◌, ◌++◌, refl, sym, ap, ap₂, ◌∙◌, arith}
use Rattle.std.proofs.lemmas.Bool.Decides.{nat_tests}
use Rattle.cp_invlist.specs.Ranges.{in_range}
use Rattle.cp_trie.specs.Faults.{fault_from, is_in_order}
use Rattle.cp_trie.specs.declared.error.TrieError.TheVariants.{Gap, Order}
use Rattle.cp_trie.specs.Runs.{value_in}
use Rattle.cp_trie.specs.declared.ranges.CodePointMapRange.{CodePointMapRange}
use Rattle.prop_data.specs.MapBuilder.{end_of_runs}

-- the runs behind the first run, where all of them cover up to a number
pub record Covers {V : Type 0} (n m : ℕ) (r : CodePointMapRange V) (rs : List (CodePointMapRange V)) : Type 0 where
  pub starts : r.range.start ≡ n
  pub ordered : r.range.start ≤ r.range.end
  pub within : r.range.end ≤ 0x10_FFFF
  pub rest : end_of_runs (r.range.end + 1) rs ≡ Some m

passes : (b : Bool) (x : Option ℕ) (m : ℕ) → cond b x None ≡ Some m → (b ≡ true) × (x ≡ Some m)
passes true x m h = (refl, h)
passes false x m h = cc

first_run : {V : Type 0} (n m : ℕ) (r : CodePointMapRange V) (rs : List (CodePointMapRange V)) → end_of_runs n (r ∷ rs) ≡ Some m → Covers n m r rs
first_run n m r rs h =
    let p = passes ((r.range.start == n) && is_in_order r) (end_of_runs (r.range.end + 1) rs) m h in
    let test = p.0 in
    record { starts = grind (arith, nat_tests, test); ordered = grind (arith, nat_tests, test); within = grind (arith, nat_tests, test); rest = p.1 }

-- the runs end no earlier than they begin, and not behind 110000
pub end_of_runs-bounds : {V : Type 0} (n m : ℕ) (rs : List (CodePointMapRange V)) → end_of_runs n rs ≡ Some m → n ≤ 0x11_0000 → (n ≤ m) × (m ≤ 0x11_0000)
end_of_runs-bounds n m [] h small = let e : n ≡ m = cc in (omega arith, omega arith)
end_of_runs-bounds n m (r ∷ rs) h small =
    let f = first_run n m r rs h in
    let b = end_of_runs-bounds (r.range.end + 1) m rs f.rest (omega (arith, f.within)) in
    (omega (arith, b.0, f.starts, f.ordered), b.1)

-- runs that cover all code points have no fault
pub no_fault : {V : Type 0} (index n : ℕ) (rs : List (CodePointMapRange V)) → end_of_runs n rs ≡ Some 0x11_0000 → fault_from index n rs ≡ None
no_fault index n [] h =
    let e : n ≡ 0x11_0000 = cc in
    let whole : (n == 0x11_0000) ≡ true = grind (arith, nat_tests, e) in
    ap (λ b. cond b None (Some (Gap index))) whole
no_fault index n (r ∷ rs) h =
    let f = first_run n 0x11_0000 r rs h in
    let here : (r.range.start == n) ≡ true = grind (arith, nat_tests, f.starts) in
    let ordered : is_in_order r ≡ true = grind (arith, nat_tests, f.ordered, f.within) in
    ap₂ (λ a b. cond a (cond b (fault_from (index + 1) (r.range.end + 1) rs) (Some (Order index))) (Some (Gap index))) here ordered
    ∙ no_fault (index + 1) (r.range.end + 1) rs f.rest

-- one more run at the end
pub end_of_runs-append : {V : Type 0} (n m : ℕ) (rs : List (CodePointMapRange V)) (r : CodePointMapRange V) → end_of_runs n rs ≡ Some m → r.range.start ≡ m → m ≤ r.range.end → r.range.end ≤ 0x10_FFFF →
    end_of_runs n (rs ++ r ∷ []) ≡ Some (r.range.end + 1)
end_of_runs-append n m [] r h starts ordered within =
    let e : n ≡ m = cc in
    let test : ((r.range.start == n) && is_in_order r) ≡ true = grind (arith, nat_tests) in
    ap (λ b. cond b (Some (r.range.end + 1)) None) test
end_of_runs-append n m (s ∷ rs) r h starts ordered within =
    let p = passes ((s.range.start == n) && is_in_order s) (end_of_runs (s.range.end + 1) rs) m h in
    ap (λ b. cond b (end_of_runs (s.range.end + 1) (rs ++ r ∷ [])) None) p.0 ∙ end_of_runs-append (s.range.end + 1) m rs r p.1 starts ordered within

pub value_in-append : {V : Type 0} (rs ss : List (CodePointMapRange V)) (e : V) (c : ℕ) → value_in (rs ++ ss) e c ≡ value_in rs (value_in ss e c) c
value_in-append [] ss e c = refl
value_in-append (r ∷ rs) ss e c = ap (λ v. cond (in_range r.range c) r.value v) (value_in-append rs ss e c)

-- a number behind all runs has the value that stands for all others
pub value_in-behind_all : {V : Type 0} (n m : ℕ) (rs : List (CodePointMapRange V)) (e : V) (c : ℕ) → end_of_runs n rs ≡ Some m → n ≤ 0x11_0000 → m ≤ c → value_in rs e c ≡ e
value_in-behind_all n m [] e c h small behind = refl
value_in-behind_all n m (r ∷ rs) e c h small behind =
    let f = first_run n m r rs h in
    let b = end_of_runs-bounds (r.range.end + 1) m rs f.rest (omega (arith, f.within)) in
    let off : in_range r.range c ≡ false = (let far : r.range.end < c = omega (arith, b.0) in grind (arith, nat_tests)) in
    ap (λ t. cond t r.value (value_in rs e c)) off ∙ value_in-behind_all (r.range.end + 1) m rs e c f.rest (omega (arith, f.within)) behind

-- a number within the runs has a value that does not depend on the one for all others
pub value_in-within_all : {V : Type 0} (n m : ℕ) (rs : List (CodePointMapRange V)) (d e : V) (c : ℕ) → end_of_runs n rs ≡ Some m → n ≤ c → c < m → value_in rs d c ≡ value_in rs e c
value_in-within_all n m [] d e c h low high = let e : n ≡ m = cc in absurd (omega arith)
value_in-within_all n m (r ∷ rs) d e c h low high =
    let f = first_run n m r rs h in
    by_test (in_range r.range c) refl (λ past. value_in-within_all (r.range.end + 1) m rs d e c f.rest past high) f
  where
    by_test : (b : Bool) → in_range r.range c ≡ b → (r.range.end + 1 ≤ c → value_in rs d c ≡ value_in rs e c) → Covers n m r rs → cond b r.value (value_in rs d c) ≡ cond b r.value (value_in rs e c)
    by_test true is later f = refl
    by_test false is later f = later (let s = f.starts in grind (arith, nat_tests, is))

-- one more run at the end gives its value to its numbers, and no other number a new one
pub value_in-next_run : {V : Type 0} (m : ℕ) (rs : List (CodePointMapRange V)) (r : CodePointMapRange V) (e : V) (c : ℕ) → end_of_runs 0 rs ≡ Some m → r.range.start ≡ m →
    value_in (rs ++ r ∷ []) e c ≡ cond (in_range r.range c) r.value (value_in rs e c)
value_in-next_run m rs r e c h starts = value_in-append rs (r ∷ []) e c ∙ by_test (in_range r.range c) refl
  where
    by_test : (b : Bool) → in_range r.range c ≡ b → value_in rs (cond b r.value e) c ≡ cond b r.value (value_in rs e c)
    by_test true is = value_in-behind_all 0 m rs r.value c h (omega arith) (grind (arith, nat_tests, is))
    by_test false is = refl

-- the value that stands for all others, given to numbers behind the runs, is that which they have
pub default_run : {V : Type 0} (m end : ℕ) (rs : List (CodePointMapRange V)) (e : V) (c : ℕ) → end_of_runs 0 rs ≡ Some m →
    cond (in_range (record { start = m; end = end }) c) e (value_in rs e c) ≡ value_in rs e c
default_run {V} m end rs e c h = by_test (in_range (record { start = m; end = end }) c) refl
  where
    by_test : (b : Bool) → in_range (record { start = m; end = end }) c ≡ b → cond b e (value_in rs e c) ≡ value_in rs e c
    by_test true is = sym (value_in-behind_all 0 m rs e c h (omega arith) (grind (arith, nat_tests, is)))
    by_test false is = refl

-- runs that cover all code points leave the value that stands for all others past the last
pub value_in-all : {V : Type 0} (rs : List (CodePointMapRange V)) (d e : V) (c : ℕ) → end_of_runs 0 rs ≡ Some 0x11_0000 → value_in rs e c ≡ cond (nat_lt 0x10_FFFF c) e (value_in rs d c)
value_in-all {V} rs d e c h = by_test (nat_lt 0x10_FFFF c) refl
  where
    by_test : (b : Bool) → nat_lt 0x10_FFFF c ≡ b → value_in rs e c ≡ cond b e (value_in rs d c)
    by_test true is = value_in-behind_all 0 0x11_0000 rs e c h (omega arith) (grind (arith, nat_tests, is))
    by_test false is = value_in-within_all 0 0x11_0000 rs e d c h (omega arith) (grind (arith, nat_tests, is))
