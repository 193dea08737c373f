use Rattle.std.proofs.Common.{◌≡◌, ℕ, ◌≤◌, Some, List, [], ◌∷◌, ◌++◌, length, take, sym, ap, ap₂, ◌∙◌, arith}
use Rattle.std.specs.List.{slice_get}
use Rattle.std.proofs.lemmas.List.{take_more}
use Rattle.cp_invlist.proofs.cursor.Cursor.count_equal.Goals as goal

-- two lists with the same first element
same_first : (xs ys : List ℕ) (x : ℕ) → slice_get xs 0 ≡ Some x → slice_get ys 0 ≡ Some x → (take 1 xs ≡ take 1 ys) × (1 ≤ length xs) × (1 ≤ length ys)
same_first [] ys x hx hy = cc
same_first (a ∷ xs) [] x hx hy = cc
same_first (a ∷ xs) (b ∷ ys) x hx hy = let same : a ≡ b = cc in (ap (λ z. z ∷ []) same, omega arith, omega arith)

pub equal-init : goal.equal-init
equal-init c =
    let first = same_first c.args.self.now.rest.now c.args.other.now.rest.now c.args.first c.requires.own c.requires.its in
    record { some = omega arith; within_own = first.1; within_its = first.2; equal = first.0 }

pub equal-preserved : goal.equal-preserved
equal-preserved c =
    let own = c.args.self.now.rest.now in
    let its = c.args.other.now.rest.now in
    let next = ap₂ (λ (front : List ℕ) (x : ℕ). front ++ x ∷ []) c.equal.invariant.equal c.if-own-count.true in
    record {
      some = omega arith;
      within_own = omega arith;
      within_its = omega arith;
      equal = take_more own c.equal.count 0 c.equal-test.true ∙ (next ∙ sym (take_more its c.equal.count 0 c.if-count-its.true));
    }
