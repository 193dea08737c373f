-- The map of the values that the numbers of a map unpack to.
use Rattle.std.proofs.Common.{◌≡◌, ℕ, ◌+◌, ◌<◌, ◌≤◌, ◌^◌, true, false, ◌&&◌, ◌==◌, cond, List, [], ◌∷◌, Option, Some, None, nat_eq, nat_le, nat_lt, refl, sym, ap, ap₂, ◌∙◌, inl, inr, arith}
use Rattle.std.specs.Prelude.{is_some}
use Rattle.std.proofs.lemmas.Bool.{cases_lt, and_parts}
use Rattle.std.proofs.lemmas.Bool.Decides.{nat_tests}
use Rattle.cp_invlist.specs.Ranges.{in_range}
use Rattle.cp_trie.specs.Faults.{fault_from}
use Rattle.cp_trie.specs.Runs.{value_in, AreRunsFrom}
use Rattle.cp_trie.specs.declared.error.TrieError.TheVariants.{Gap, Order}
use Rattle.cp_trie.specs.declared.ranges.CodePointMapRange.{CodePointMapRange}
use Rattle.prop_data.specs.Accepted.{AreAccepted}
use Rattle.prop_data.specs.LineFault.{accepts_value}
use Rattle.prop_values.specs.Tables.{accepts}
use Rattle.prop_query.specs.Unpacked.{with_value, unpacked_runs, AreRunsAccepted}

-- the run with the value that its number unpacks to stands first
value_in-within : {V : Type 0} (r : CodePointMapRange ℕ) (o : Option V) (rs : List (CodePointMapRange V)) (e : V) (c : ℕ) → is_some o ≡ true → in_range r.range c ≡ true → o ≡ Some (value_in (with_value r o rs) e c)
value_in-within r None rs e c some within = cc
value_in-within r (Some v) rs e c some within = ap (λ b. Some (cond b v (value_in rs e c))) (sym within)

-- a number that does not lie in the run is looked for behind it
value_in-behind : {V : Type 0} (r : CodePointMapRange ℕ) (o : Option V) (rs : List (CodePointMapRange V)) (e : V) (c : ℕ) → in_range r.range c ≡ false → value_in (with_value r o rs) e c ≡ value_in rs e c
value_in-behind r None rs e c outside = refl
value_in-behind r (Some v) rs e c outside = ap (λ b. cond b v (value_in rs e c)) outside

-- the value at a code point is that which the number there unpacks to
pub value_in-unpacked_runs : {V : Type 0} (unpacked : ℕ → Option V) (at : ℕ → ℕ) (n : ℕ) (rs : List (CodePointMapRange ℕ)) (e : V) (c : ℕ) → AreRunsFrom nat_eq at n rs → ((k : ℕ) → is_some (unpacked (at k)) ≡ true) → n ≤ c → c ≤ 0x10_FFFF → unpacked (at c) ≡ Some (value_in (unpacked_runs unpacked rs) e c)
value_in-unpacked_runs unpacked at n [] e c runs all low high = absurd (omega arith)
value_in-unpacked_runs unpacked at n (r ∷ rs) e c runs all low high =
    elim (cases_lt r.range.end c) as (λ _. unpacked (at c) ≡ Some (value_in (unpacked_runs unpacked (r ∷ rs)) e c)) [
      | inl behind ↦
          let outside : in_range r.range c ≡ false = grind (arith, nat_tests) in
          value_in-unpacked_runs unpacked at (r.range.end + 1) rs e c runs.6 all (omega arith) high
          ∙ ap (λ v. Some v) (sym (value_in-behind r (unpacked r.value) (unpacked_runs unpacked rs) e c outside))
      | inr within ↦
          let inside : in_range r.range c ≡ true = grind (arith, nat_tests) in
          let same : nat_eq (at n) (at c) ≡ true = runs.4 c low within in
          let number : at c ≡ r.value = grind (arith, nat_tests, same, runs.3) in
          ap unpacked number
          ∙ value_in-within r (unpacked r.value) (unpacked_runs unpacked rs) e c (ap (λ k. is_some (unpacked k)) (sym number) ∙ all c) inside
    ]

-- past the last code point no run holds a number
pub value_in-past_end : {V : Type 0} (unpacked : ℕ → Option V) (at : ℕ → ℕ) (n : ℕ) (rs : List (CodePointMapRange ℕ)) (e : V) (c : ℕ) → AreRunsFrom nat_eq at n rs → 0x10_FFFF < c → value_in (unpacked_runs unpacked rs) e c ≡ e
value_in-past_end unpacked at n [] e c runs past = refl
value_in-past_end unpacked at n (r ∷ rs) e c runs past =
    let outside : in_range r.range c ≡ false = grind (arith, nat_tests) in
    value_in-behind r (unpacked r.value) (unpacked_runs unpacked rs) e c outside ∙ value_in-past_end unpacked at (r.range.end + 1) rs e c runs.6 past

-- A table that accepts the number at each code point accepts those of the runs.
pub AreRunsAccepted-runs : (t : ℕ) (at : ℕ → ℕ) (n : ℕ) (rs : List (CodePointMapRange ℕ)) → AreRunsFrom nat_eq at n rs → AreAccepted t at → AreRunsAccepted t rs
AreRunsAccepted-runs t at n [] runs accepted = tt
AreRunsAccepted-runs t at n (r ∷ rs) runs accepted =
    (ap (accepts_value t) runs.3 ∙ accepted n, AreRunsAccepted-runs t at (r.range.end + 1) rs runs.6 accepted)

-- each number that the table accepts unpacks to a value
pub unpacks : {V : Type 0} (unpacked : ℕ → Option V) (t : ℕ) → ((n : ℕ) → n < 2 ^ 32 → is_some (unpacked n) ≡ accepts t n) → (at : ℕ → ℕ) → AreAccepted t at → (c : ℕ) → is_some (unpacked (at c)) ≡ true
unpacks unpacked t law at accepted c =
    let parts = and_parts (nat_lt (at c) 0x1_0000_0000) (accepts t (at c)) (accepted c) in
    let small : at c < 2 ^ 32 = grind (arith, nat_tests, parts.0) in law (at c) small ∙ parts.1

-- a run that is in order, with the value that its number unpacks to, before runs without a fault
no_fault-run : {V : Type 0} (index n : ℕ) (r : CodePointMapRange ℕ) (o : Option V) (rs : List (CodePointMapRange V)) → is_some o ≡ true → r.range.start ≡ n → n ≤ r.range.end → r.range.end ≤ 0x10_FFFF →
    fault_from (index + 1) (r.range.end + 1) rs ≡ None → fault_from index n (with_value r o rs) ≡ None
no_fault-run index n r None rs some starts low high rest = cc
no_fault-run index n r (Some v) rs some starts low high rest =
    let here : (r.range.start == n) ≡ true = grind (arith, nat_tests, starts) in
    let ordered : (nat_le r.range.start r.range.end && nat_le r.range.end 0x10_FFFF) ≡ true = grind (arith, nat_tests, starts, low, high) in
    ap₂ (λ a b. cond a (cond b (fault_from (index + 1) (r.range.end + 1) rs) (Some (Order index))) (Some (Gap index))) here ordered ∙ rest

-- the maximal runs of a map have no fault, with the values that their numbers unpack to
pub no_fault-unpacked : {V : Type 0} (unpacked : ℕ → Option V) (at : ℕ → ℕ) (index n : ℕ) (rs : List (CodePointMapRange ℕ)) → AreRunsFrom nat_eq at n rs → ((k : ℕ) → is_some (unpacked (at k)) ≡ true) →
    fault_from index n (unpacked_runs unpacked rs) ≡ None
no_fault-unpacked unpacked at index n [] runs all =
    let whole : (n == 0x11_0000) ≡ true = grind (arith, nat_tests, runs) in
    ap (λ b. cond b None (Some (Gap index))) whole
no_fault-unpacked unpacked at index n (r ∷ rs) runs all =
    no_fault-run index n r (unpacked r.value) (unpacked_runs unpacked rs) (ap (λ k. is_some (unpacked k)) runs.3 ∙ all n) runs.0 runs.1 runs.2
    (no_fault-unpacked unpacked at (index + 1) (r.range.end + 1) rs runs.6 all)
