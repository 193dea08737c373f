-- What inversion lists hold: order, parity and membership of their parts.
use Rattle.std.proofs.Common.{◌≡◌, ℕ, zero, suc, ◌<◌, ◌≤◌, Bool, true, false, not, nat_le, List, [], ◌∷◌, ◌++◌, take, drop, All, refl, sym, ap, ◌∙◌, arith, leb-true}
use Rattle.std.proofs.lemmas.Bool.{and_parts, and_from, le-leb, lt-leb}
use Rattle.std.proofs.lemmas.List.Elements.{All-head, All-tail}
use Rattle.cp_invlist.specs.InversionList.{differ, contains, ascends_from, has_even_length, IsInversionList}

-- the parts of the order of a list with a first element
pub ascends_from-parts : (n x : ℕ) (xs : List ℕ) → ascends_from n (x ∷ xs) ≡ true → (n ≤ x) × (x ≤ 0x11_0000) × (ascends_from (suc x) xs ≡ true)
ascends_from-parts n x xs h =
    let parts = and_parts _ _ h in
    let bounds = and_parts _ _ parts.0 in
    (leb-true _ _ bounds.0, leb-true _ _ bounds.1, parts.1)

pub ascends_from-cons : (n x : ℕ) (xs : List ℕ) → n ≤ x → x ≤ 0x11_0000 → ascends_from (suc x) xs ≡ true → ascends_from n (x ∷ xs) ≡ true
ascends_from-cons n x xs low high rest = and_from _ _ (and_from _ _ (le-leb _ _ low) (le-leb _ _ high)) rest

-- a list that ascends from a number ascends from a lower one
pub ascends_from-lower : (m n : ℕ) (xs : List ℕ) → m ≤ n → ascends_from n xs ≡ true → ascends_from m xs ≡ true
ascends_from-lower m n [] le h = refl
ascends_from-lower m n (x ∷ xs) le h =
    let parts = ascends_from-parts n x xs h in
    ascends_from-cons m x xs (omega arith) parts.1 parts.2

-- and from a higher one, where all its elements are at least that
pub ascends_from-raise : (m n : ℕ) (xs : List ℕ) → All (λ x. n ≤ x) xs → ascends_from m xs ≡ true → ascends_from n xs ≡ true
ascends_from-raise m n [] all h = refl
ascends_from-raise m n (x ∷ xs) all h =
    let parts = ascends_from-parts m x xs h in
    ascends_from-cons n x xs (All-head (λ x. n ≤ x) x xs all) parts.1 parts.2

pub ascends_from-drop : (n i : ℕ) (xs : List ℕ) → ascends_from n xs ≡ true → ascends_from n (drop i xs) ≡ true
ascends_from-drop n zero xs h = h
ascends_from-drop n (suc i) [] h = refl
ascends_from-drop n (suc i) (x ∷ xs) h =
    let parts = ascends_from-parts n x xs h in
    ascends_from-drop n i xs (ascends_from-lower n (suc x) xs (omega arith) parts.2)

pub ascends_from-take : (n i : ℕ) (xs : List ℕ) → ascends_from n xs ≡ true → ascends_from n (take i xs) ≡ true
ascends_from-take n zero xs h = refl
ascends_from-take n (suc i) [] h = refl
ascends_from-take n (suc i) (x ∷ xs) h =
    let parts = ascends_from-parts n x xs h in
    ascends_from-cons n x (take i xs) parts.0 parts.1 (ascends_from-take (suc x) i xs parts.2)

-- two lists in a row ascend where the first stays below where the second starts
pub ascends_from-append : (n m : ℕ) (xs ys : List ℕ) → n ≤ m → All (λ x. x < m) xs → ascends_from n xs ≡ true → ascends_from m ys ≡ true → ascends_from n (xs ++ ys) ≡ true
ascends_from-append n m [] ys le all hx hy = ascends_from-lower n m ys le hy
ascends_from-append n m (x ∷ xs) ys le all hx hy =
    let parts = ascends_from-parts n x xs hx in
    let head = All-head (λ x. x < m) x xs all in
    ascends_from-cons n x (xs ++ ys) parts.0 parts.1
    (ascends_from-append (suc x) m xs ys head (All-tail (λ x. x < m) x xs all) parts.2 hy)

-- no number below where a list starts is a member
pub contains-below : (n c : ℕ) (xs : List ℕ) → ascends_from n xs ≡ true → c < n → contains xs c ≡ false
contains-below n c [] h lt = refl
contains-below n c (x ∷ xs) h lt =
    let parts = ascends_from-parts n x xs h in
    ap (λ b. differ b (contains xs c)) (lt-leb x c (omega arith)) ∙ contains-below (suc x) c xs parts.2 (omega arith)

pub differ_assoc : (x y z : Bool) → differ x (differ y z) ≡ differ (differ x y) z
differ_assoc true true true = refl
differ_assoc true true false = refl
differ_assoc true false z = refl
differ_assoc false y z = refl

pub same_of_differ : (x y : Bool) → differ x y ≡ false → x ≡ y
same_of_differ true true h = refl
same_of_differ true false h = h
same_of_differ false true h = sym h
same_of_differ false false h = refl

pub contains-append : (xs ys : List ℕ) (c : ℕ) → contains (xs ++ ys) c ≡ differ (contains xs c) (contains ys c)
contains-append [] ys c = refl
contains-append (x ∷ xs) ys c =
    ap (λ b. differ (nat_le x c) b) (contains-append xs ys c) ∙ differ_assoc (nat_le x c) (contains xs c) (contains ys c)

-- above all elements the parity of the length tells
pub contains-all_at_most : (c : ℕ) (xs : List ℕ) → All (λ x. x ≤ c) xs → contains xs c ≡ not (has_even_length xs)
contains-all_at_most c [] all = refl
contains-all_at_most c (x ∷ xs) all =
    ap (λ b. differ b (contains xs c)) (le-leb x c (All-head (λ x. x ≤ c) x xs all))
    ∙ ap not (contains-all_at_most c xs (All-tail (λ x. x ≤ c) x xs all))

pub contains-all_above : (c : ℕ) (xs : List ℕ) → All (λ x. c < x) xs → contains xs c ≡ false
contains-all_above c [] all = refl
contains-all_above c (x ∷ xs) all =
    ap (λ b. differ b (contains xs c)) (lt-leb x c (All-head (λ x. c < x) x xs all))
    ∙ contains-all_above c xs (All-tail (λ x. c < x) x xs all)

not_differ : (a b : Bool) → not (not (differ a b)) ≡ not (differ (not a) b)
not_differ true true = refl
not_differ true false = refl
not_differ false true = refl
not_differ false false = refl

-- a joined list has even length where both lengths are even or both are odd
pub has_even_length-append : (xs ys : List ℕ) → has_even_length (xs ++ ys) ≡ not (differ (has_even_length xs) (has_even_length ys))
has_even_length-append [] ys = elim (has_even_length ys) as (λ b. b ≡ not (not b)) [ true ↦ refl | false ↦ refl ]
has_even_length-append (x ∷ xs) ys = ap not (has_even_length-append xs ys) ∙ not_differ (has_even_length xs) (has_even_length ys)

pub IsInversionList-parts : (xs : List ℕ) → IsInversionList xs → (ascends_from 0 xs ≡ true) × (has_even_length xs ≡ true)
IsInversionList-parts xs h = and_parts _ _ h

pub IsInversionList-from : (xs : List ℕ) → ascends_from 0 xs ≡ true → has_even_length xs ≡ true → IsInversionList xs
IsInversionList-from xs a e = and_from _ _ a e
