-- The fault that the walk finds is the first, and each first fault is found.
use Rattle.std.specs.Option.{option_or}
use Rattle.std.proofs.Common.{◌≡◌, ℕ, zero, suc, ◌+◌, ◌-◌, ◌<◌, ◌≤◌, true, Option, Some, None, List, [], ◌∷◌, length, get_or, refl, sym, ap, ◌∙◌, arith, ◌⊎◌, inl, inr, subst, true≢false}
use Rattle.std.proofs.lemmas.Bool.{cases_lt, cases_Bool, cond-true, cond-false}
use Rattle.std.proofs.Math.Nat.{le_antisymm}
use Rattle.cp_invlist.specs.InversionList.{ascends_from, has_even_length, IsInversionList}
use Rattle.cp_invlist.specs.Fault.{first_out_of_order, odd_end, fault_of, IsOutOfOrder, IsFirstFault}
use Rattle.cp_invlist.specs.ListLaws.{ascends_from-parts, IsInversionList-parts, IsInversionList-from}
use Rattle.cp_invlist.proofs.FaultLemmas.{first_out_of_order-fits, first_out_of_order-fault, ascends_from-no_fault}

-- what the element at an index must be at least, in a list whose first must be at least the number
least_at : ℕ → List ℕ → ℕ → ℕ
least_at n xs zero = n
least_at n xs (suc k) = suc (get_or xs k 0)

-- the element at the index is below that, or above 110000
abbrev Strays : ℕ → List ℕ → ℕ → Type 0
Strays n xs k = (k < length xs) × ((get_or xs k 0 < least_at n xs k) ⊎ (0x11_0000 < get_or xs k 0))

least_at-next : (n x k : ℕ) (xs : List ℕ) → least_at n (x ∷ xs) (suc k) ≡ least_at (suc x) xs k
unfolding least_at
least_at-next n x zero xs = refl
least_at-next n x (suc k) xs = refl

least_at-first : (n : ℕ) (xs : List ℕ) → least_at n xs zero ≡ n
unfolding least_at
least_at-first n xs = refl

least_at-behind : (n k : ℕ) (xs : List ℕ) → least_at n xs (suc k) ≡ suc (get_or xs k 0)
unfolding least_at
least_at-behind n k xs = refl

Strays-next : (n x k : ℕ) (xs : List ℕ) → Strays (suc x) xs k → Strays n (x ∷ xs) (suc k)
Strays-next n x k xs h =
    let least = least_at-next n x k xs in
    (omega arith, elim h.1 [ inl low ↦ inl (omega arith) | inr high ↦ inr high ])

Strays-back : (n x k : ℕ) (xs : List ℕ) → Strays n (x ∷ xs) (suc k) → Strays (suc x) xs k
Strays-back n x k xs h =
    let least = least_at-next n x k xs in
    (omega arith, elim h.1 [ inl low ↦ inl (omega arith) | inr high ↦ inr high ])

fits_not : (n x : ℕ) (xs : List ℕ) → n ≤ x → x ≤ 0x11_0000 → Strays n (x ∷ xs) zero → ⊥
fits_not n x xs low high h =
    let least = least_at-first n (x ∷ xs) in
    elim h.1 [ inl below ↦ absurd (omega arith) | inr above ↦ absurd (omega arith) ]

-- where the first element is in order, nothing before the place behind it strays
before_next : (n x m : ℕ) (xs : List ℕ) → n ≤ x → x ≤ 0x11_0000 → ((k : ℕ) → k < m → Strays (suc x) xs k → ⊥) → (k : ℕ) → k < suc m → Strays n (x ∷ xs) k → ⊥
before_next n x m xs low high none zero lt s = fits_not n x xs low high s
before_next n x m xs low high none (suc k) lt s = none k (omega arith) (Strays-back n x k xs s)

-- the place of the first that strays, with all before it in order
abbrev IsFirstStray : ℕ → List ℕ → ℕ → Type 0
IsFirstStray n xs m = Strays n xs m × ((k : ℕ) → k < m → Strays n xs k → ⊥)

first_stray : (n j i : ℕ) (xs : List ℕ) → first_out_of_order n j xs ≡ Some i → (m : ℕ) × (i ≡ j + m) × IsFirstStray n xs m
first_stray n j i [] h = cc
first_stray n j i (x ∷ xs) h =
    let stays : (n ≤ x) → (x ≤ 0x11_0000) → (m : ℕ) × (i ≡ j + m) × IsFirstStray n (x ∷ xs) m = λ low high.
    let rest = first_stray (suc x) (suc j) i xs (sym (first_out_of_order-fits n j x xs low high) ∙ h) in (
      suc rest.0,
      omega arith,
      (
        Strays-next n x rest.0 xs rest.2.0,
        before_next n x rest.0 xs low high rest.2.1,
      ),
    ) in
    let strays : ((x < n) ⊎ (0x11_0000 < x)) → (m : ℕ) × (i ≡ j + m) × IsFirstStray n (x ∷ xs) m = λ out.
    let at : Some i ≡ Some j = sym h ∙ first_out_of_order-fault n j x xs out in
    let same : i ≡ j = cc in
    let least = least_at-first n (x ∷ xs) in (
      zero,
      omega arith,
      (
        (omega arith, elim out [ inl low ↦ inl (omega arith) | inr high ↦ inr high ]),
        λ k lt. absurd (omega arith),
      ),
    ) in
    elim (cases_lt x n) [
      | inl low ↦ strays (inl low)
      | inr ge ↦ elim (cases_lt 0x11_0000 x) [ inl high ↦ strays (inr high) | inr le ↦ stays ge le ]
    ]

-- in a list in order nothing strays
no_stray : (n : ℕ) (xs : List ℕ) (k : ℕ) → ascends_from n xs ≡ true → Strays n xs k → ⊥
no_stray n [] k h s = absurd (omega arith)
no_stray n (x ∷ xs) zero h s =
    let parts = ascends_from-parts n x xs h in
    fits_not n x xs parts.0 parts.1 s
no_stray n (x ∷ xs) (suc k) h s = no_stray (suc x) xs k (ascends_from-parts n x xs h).2 (Strays-back n x k xs s)

-- the two ways to say that an element is out of order
out_from_stray : (xs : List ℕ) (k : ℕ) → Strays 0 xs k → IsOutOfOrder xs k
out_from_stray xs zero s =
    let least = least_at-first 0 xs in
    (s.0, elim s.1 [ inl low ↦ absurd (omega arith) | inr high ↦ inr high ])
out_from_stray xs (suc k) s =
    let least = least_at-behind 0 k xs in
    let before : get_or xs (suc k - 1) 0 ≡ get_or xs k 0 = ap (λ i. get_or xs i 0) (omega arith) in
    (s.0, elim s.1 [ inl low ↦ inl (omega arith, omega arith) | inr high ↦ inr high ])

stray_from_out : (xs : List ℕ) (k : ℕ) → IsOutOfOrder xs k → Strays 0 xs k
stray_from_out xs zero s = (s.0, elim s.1 [ inl low ↦ absurd (omega arith) | inr high ↦ inr high ])
stray_from_out xs (suc k) s =
    let least = least_at-behind 0 k xs in
    let before : get_or xs (suc k - 1) 0 ≡ get_or xs k 0 = ap (λ i. get_or xs i 0) (omega arith) in
    (s.0, elim s.1 [ inl low ↦ (let low' = low.1 in inl (omega arith)) | inr high ↦ inr high ])

-- the fault of a list by what the walk found
found : (xs : List ℕ) (i : ℕ) (o : Option ℕ) → first_out_of_order 0 0 xs ≡ o → option_or o (odd_end xs) ≡ Some i → IsFirstFault xs i
found xs i None e h = elim (cases_Bool (has_even_length xs)) [
  | inl even ↦ let there : None ≡ Some i = sym (cond-true _ _ _ even) ∙ h in cc
  | inr odd ↦
      let there : Some (length xs) ≡ Some i = sym (cond-false _ _ _ odd) ∙ h in
      let end : length xs ≡ i = cc in (
        λ k lt out. no_stray 0 xs k (ascends_from-no_fault 0 0 xs e) (stray_from_out xs k out),
        inr (sym end, odd),
      )
]
found xs i (Some j) e h =
    let same : j ≡ i = cc in
    let first = first_stray 0 0 j xs e in
    let at : first.0 ≡ i = omega arith in (
      λ k lt out. first.2.1 k (omega arith) (stray_from_out xs k out),
      inl (subst (λ (m : ℕ). IsOutOfOrder xs m) at (out_from_stray xs first.0 first.2.0)),
    )

pub IsFirstFault-fault_of : (xs : List ℕ) (i : ℕ) → fault_of xs ≡ Some i → IsFirstFault xs i
IsFirstFault-fault_of xs i h = found xs i (first_out_of_order 0 0 xs) refl h

-- a list has one first fault
fault_at_most : (xs : List ℕ) (i j : ℕ) → IsFirstFault xs i → IsFirstFault xs j → i ≤ j
fault_at_most xs i j hi hj = elim (cases_lt j i) [
  | inl lt ↦ elim hj.1 [
    | inl out ↦ absurd (hi.0 j lt out)
    | inr end ↦ elim hi.1 [ inl out ↦ (let within = out.0 in let past = end.0 in absurd (omega arith)) | inr other ↦ (let past = end.0 in let here = other.0 in absurd (omega arith)) ]
  ]
  | inr ge ↦ ge
]

-- a faultless list is an inversion list, and the other way round
pub fault_of-IsInversionList : (xs : List ℕ) → IsInversionList xs → (i : ℕ) → IsFirstFault xs i → ⊥
fault_of-IsInversionList xs h i first =
    let parts = IsInversionList-parts xs h in
    elim first.1 [
      | inl out ↦ no_stray 0 xs i parts.0 (stray_from_out xs i out)
      | inr end ↦ true≢false (sym parts.1 ∙ end.1)
    ]

none_is_list : (xs : List ℕ) (o : Option ℕ) → first_out_of_order 0 0 xs ≡ o → option_or o (odd_end xs) ≡ None → IsInversionList xs
none_is_list xs None e h = elim (cases_Bool (has_even_length xs)) [
  | inl even ↦ IsInversionList-from xs (ascends_from-no_fault 0 0 xs e) even
  | inr odd ↦ let there : Some (length xs) ≡ None = sym (cond-false _ _ _ odd) ∙ h in cc
]
none_is_list xs (Some j) e h = cc

chosen : (xs : List ℕ) (i : ℕ) (o : Option ℕ) → fault_of xs ≡ o → IsFirstFault xs i → o ≡ Some i
chosen xs i None e first = absurd (fault_of-IsInversionList xs (none_is_list xs (first_out_of_order 0 0 xs) refl e) i first)
chosen xs i (Some j) e first =
    let other = IsFirstFault-fault_of xs j e in
    ap Some (le_antisymm (fault_at_most xs j i other first) (fault_at_most xs i j first other))

pub fault_of-IsFirstFault : (xs : List ℕ) (i : ℕ) → IsFirstFault xs i → fault_of xs ≡ Some i
fault_of-IsFirstFault xs i first = chosen xs i (fault_of xs) refl first

faultless : (xs : List ℕ) (o : Option ℕ) → fault_of xs ≡ o → IsInversionList xs → o ≡ None
faultless xs None e h = refl
faultless xs (Some i) e h = absurd (fault_of-IsInversionList xs h i (IsFirstFault-fault_of xs i e))

-- an inversion list has no fault
pub fault_of-none : (xs : List ℕ) → IsInversionList xs → fault_of xs ≡ None
fault_of-none xs h = faultless xs (fault_of xs) refl h

pub IsInversionList-faultless : (xs : List ℕ) → fault_of xs ≡ None → IsInversionList xs
IsInversionList-faultless xs h = none_is_list xs (first_out_of_order 0 0 xs) refl h
