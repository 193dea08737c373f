-- The numbers of the runs whose values pass a test.
use Rattle.std.proofs.Common.{◌≡◌, ℕ, ◌+◌, ◌<◌, ◌≤◌, Bool, true, false, ◌&&◌, ◌||◌, List, [], ◌∷◌, length, drop, refl, sym, ap, ap₂, ◌∙◌, inl, inr, arith}
use Rattle.std.proofs.lemmas.Bool.{cases_lt}
use Rattle.std.proofs.lemmas.List.{drop_all}
use Rattle.std.proofs.lemmas.Bool.Decides.{nat_tests}
use Rattle.std.proofs.Math.Bool.{and-false, or-false, and-true}
use Rattle.cp_invlist.specs.InversionList.{is_code_point}
use Rattle.cp_invlist.specs.Ranges.{in_code_points}
use Rattle.cp_trie.specs.Runs.{value_in}
use Rattle.cp_trie.specs.declared.ranges.CodePointMapRange.{CodePointMapRange}
use Rattle.cp_trie.proofs.CoverLemmas.{IsCover, value_in-within, value_in-behind, in_range-within, in_range-before, in_range-behind}

-- the number is a code point of a run whose value passes
abbrev pub holds_passing : {V : Type 0} → (V → Bool) → List (CodePointMapRange V) → ℕ → Bool
holds_passing test [] c = false
holds_passing test (r ∷ rs) c = (test r.value && in_code_points r.range c) || holds_passing test rs c

-- no run of a cover holds a number below it
holds_passing-before : {V : Type 0} (test : V → Bool) (n : ℕ) (rs : List (CodePointMapRange V)) (c : ℕ) → IsCover n rs → c < n → holds_passing test rs c ≡ false
holds_passing-before test n [] c cover h = refl
holds_passing-before test n (r ∷ rs) c cover h =
    let outside = ap (λ b. test r.value && (b && is_code_point c)) (in_range-before r.range c (omega arith)) ∙ and-false (test r.value) in
    ap₂ (λ a b. a || b) outside (holds_passing-before test (r.range.end + 1) rs c cover.3 (omega arith))

-- a code point lies in a run whose value passes exactly where its own value does
pub holds_passing-value_in : {V : Type 0} (test : V → Bool) (n : ℕ) (rs : List (CodePointMapRange V)) (e : V) (c : ℕ) → IsCover n rs → n ≤ c → holds_passing test rs c ≡ (is_code_point c && test (value_in rs e c))
holds_passing-value_in test n [] e c cover h =
    let past : is_code_point c ≡ false = grind (arith, nat_tests) in ap (λ b. b && test e) (sym past)
holds_passing-value_in test n (r ∷ rs) e c cover h =
    elim (cases_lt r.range.end c) as (λ _. holds_passing test (r ∷ rs) c ≡ (is_code_point c && test (value_in (r ∷ rs) e c))) [
      | inl behind ↦
          ap (λ b. (test r.value && (b && is_code_point c)) || holds_passing test rs c) (in_range-behind r.range c behind)
          ∙ (ap (λ b. b || holds_passing test rs c) (and-false (test r.value))
          ∙ (holds_passing-value_in test (r.range.end + 1) rs e c cover.3 (omega arith)
          ∙ ap (λ w. is_code_point c && test w) (sym (value_in-behind r rs e c behind))))
      | inr within ↦
          let point : is_code_point c ≡ true = grind (arith, nat_tests) in
          let inside : in_code_points r.range c ≡ true = ap₂ (λ a b. a && b) (in_range-within r.range c (omega arith) within) point in
          ap₂ (λ a b. (test r.value && a) || b) inside (holds_passing-before test (r.range.end + 1) rs c cover.3 (omega arith))
          ∙ (or-false (test r.value && true)
          ∙ (and-true (test r.value)
          ∙ (ap (λ w. test w) (sym (value_in-within r rs e c (omega arith) within))
          ∙ ap (λ b. b && test (value_in (r ∷ rs) e c)) (sym point))))
    ]

-- once all runs are done, what was gathered is what they hold
pub holds_passing-all_done : {V : Type 0} (test : V → Bool) (rs : List (CodePointMapRange V)) (i c : ℕ) (b : Bool) → length rs ≤ i → (b || holds_passing test (drop i rs) c) ≡ holds_passing test rs c → b ≡ holds_passing test rs c
holds_passing-all_done test rs i c b done gathered =
    sym (or-false b) ∙ (ap (λ l. b || holds_passing test l c) (sym (drop_all i rs done)) ∙ gathered)
