-- Tables that a test finds alike are the same. On tables that are written out the test computes.
use Rattle.std.proofs.Common.{◌≡◌, ℕ, Bool, true, false, ◌&&◌, not, List, [], ◌∷◌, refl, ap, ap₂, ◌∙◌}
use Rattle.std.specs.Str.{bytes_eq}
use Rattle.std.proofs.lemmas.Bool.{and_parts}
use Rattle.std.proofs.lemmas.Slice.Eq.{bytes_eq-Decides}

-- both or neither
abbrev same_flag : Bool → Bool → Bool
same_flag true b = b
same_flag false b = not b

same_flag-path : (a b : Bool) → same_flag a b ≡ true → a ≡ b
same_flag-path true true same = refl
same_flag-path true false same = cc
same_flag-path false true same = cc
same_flag-path false false same = refl

-- two tables have the same two names in each row, and the same answer whether ECMA-262 has it
abbrev pub same_properties : List (List ℕ × List ℕ × Bool) → List (List ℕ × List ℕ × Bool) → Bool
same_properties [] [] = true
same_properties [] (y ∷ ys) = false
same_properties (x ∷ xs) [] = false
same_properties (x ∷ xs) (y ∷ ys) = bytes_eq x.0 y.0 && (bytes_eq x.1 y.1 && (same_flag x.2 y.2 && same_properties xs ys))

pub same_properties-path : (xs ys : List (List ℕ × List ℕ × Bool)) → same_properties xs ys ≡ true → xs ≡ ys
same_properties-path [] [] same = refl
same_properties-path [] (y ∷ ys) same = cc
same_properties-path (x ∷ xs) [] same = cc
same_properties-path ((a, b, e) ∷ xs) ((c, d, f) ∷ ys) same =
    let long = and_parts (bytes_eq a c) _ same in
    let short = and_parts (bytes_eq b d) _ long.1 in
    let flag = and_parts (same_flag e f) (same_properties xs ys) short.1 in
    let row : (a, b, e) ≡ (c, d, f) = ap₂ (λ k l. (k, l, e)) ((bytes_eq-Decides a c).0 long.0) ((bytes_eq-Decides b d).0 short.0) ∙ ap (λ g. (c, d, g)) (same_flag-path e f flag.0) in
    ap₂ (λ r rs. r ∷ rs) row (same_properties-path xs ys flag.1)

-- two tables have the same two names in each row
abbrev pub same_names : List (List ℕ × List ℕ) → List (List ℕ × List ℕ) → Bool
same_names [] [] = true
same_names [] (y ∷ ys) = false
same_names (x ∷ xs) [] = false
same_names (x ∷ xs) (y ∷ ys) = bytes_eq x.0 y.0 && (bytes_eq x.1 y.1 && same_names xs ys)

pub same_names-path : (xs ys : List (List ℕ × List ℕ)) → same_names xs ys ≡ true → xs ≡ ys
same_names-path [] [] same = refl
same_names-path [] (y ∷ ys) same = cc
same_names-path (x ∷ xs) [] same = cc
same_names-path ((a, b) ∷ xs) ((c, d) ∷ ys) same =
    let long = and_parts (bytes_eq a c) _ same in
    let short = and_parts (bytes_eq b d) (same_names xs ys) long.1 in
    let row : (a, b) ≡ (c, d) = ap₂ (λ k l. (k, l)) ((bytes_eq-Decides a c).0 long.0) ((bytes_eq-Decides b d).0 short.0) in
    ap₂ (λ r rs. r ∷ rs) row (same_names-path xs ys short.1)
