-- The first fault of a list, as a walk over the list finds it.
use Rattle.std.specs.Option.{option_or}
use Rattle.std.proofs.Common.{◌≡◌, ℕ, suc, ◌%◌, ◌<◌, ◌≤◌, true, ◌&&◌, ◌==◌, nat_le, Some, None, List, [], ◌∷◌, length, drop, refl, sym, ap, ◌∙◌, ◌⊎◌, inl, inr}
use Rattle.std.proofs.lemmas.Bool.{le-leb, lt-leb, and_from, and_left, and_right, cond-true, cond-false, cases_Bool, not-false, not-true}
use Rattle.std.proofs.lemmas.List.{at_drop_all}
use Rattle.cp_invlist.specs.InversionList.{ascends_from, has_even_length, IsInversionList}
use Rattle.cp_invlist.specs.Fault.{first_out_of_order, odd_end, fault_of}
use Rattle.cp_invlist.specs.ListLaws.{IsInversionList-from}
use Rattle.cp_invlist.specs.CutLaws.{odd_length}

pub first_out_of_order-fits : (n i x : ℕ) (xs : List ℕ) → n ≤ x → x ≤ 0x11_0000 → first_out_of_order n i (x ∷ xs) ≡ first_out_of_order (suc x) (suc i) xs
first_out_of_order-fits n i x xs low high = cond-true _ _ _ (and_from _ _ (le-leb n x low) (le-leb x 0x11_0000 high))

pub first_out_of_order-fault : (n i x : ℕ) (xs : List ℕ) → (x < n) ⊎ (0x11_0000 < x) → first_out_of_order n i (x ∷ xs) ≡ Some i
first_out_of_order-fault n i x xs (inl below) = cond-false _ _ _ (and_left _ _ (lt-leb n x below))
first_out_of_order-fault n i x xs (inr above) = cond-false _ _ _ (and_right _ _ (lt-leb x 0x11_0000 above))

pub first_out_of_order-end : (n i : ℕ) (xs : List ℕ) → length xs ≤ i → first_out_of_order n i (drop i xs) ≡ None
first_out_of_order-end n i xs le = at_drop_all (first_out_of_order n i) xs i le

pub ascends_from-no_fault : (n i : ℕ) (xs : List ℕ) → first_out_of_order n i xs ≡ None → ascends_from n xs ≡ true
ascends_from-no_fault n i [] h = refl
ascends_from-no_fault n i (x ∷ xs) h = elim (cases_Bool (nat_le n x && nat_le x 0x11_0000)) [
  | inl fits ↦ and_from _ _ fits (ascends_from-no_fault (suc x) (suc i) xs (sym (cond-true _ _ _ fits) ∙ h))
  | inr out ↦ let there : Some i ≡ None = sym (cond-false _ _ _ out) ∙ h in cc
]

pub fault_of-even : (xs : List ℕ) → first_out_of_order 0 0 xs ≡ None → length xs % 2 ≡ 0 → (fault_of xs ≡ None) × IsInversionList xs
fault_of-even xs h parity =
    let even : has_even_length xs ≡ true = not-false _ (odd_length xs ∙ ap (λ n. n == 1) parity) in (
      ap (λ o. option_or o (odd_end xs)) h ∙ cond-true _ _ _ even,
      IsInversionList-from xs (ascends_from-no_fault 0 0 xs h) even,
    )

pub fault_of-odd : (xs : List ℕ) → first_out_of_order 0 0 xs ≡ None → length xs % 2 ≡ 1 → fault_of xs ≡ Some (length xs)
fault_of-odd xs h parity =
    ap (λ o. option_or o (odd_end xs)) h ∙ cond-false _ _ _ (not-true _ (odd_length xs ∙ ap (λ n. n == 1) parity))
