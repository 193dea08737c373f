-- No text is the name of two properties.
use Rattle.std.proofs.Common.{◌≡◌, ℕ, zero, suc, ◌+◌, Bool, true, false, ◌&&◌, ◌||◌, ◌==◌, cond, Option, Some, None, IfSome, List, [], ◌∷◌, refl, sym, ap, subst, ◌∙◌, arith}
use Rattle.std.specs.Prelude.{slice_get}
use Rattle.std.specs.Str.{bytes_eq}
use Rattle.std.proofs.lemmas.Bool.{and_parts}
use Rattle.std.proofs.lemmas.Bool.Decides.{nat_tests}
use Rattle.std.proofs.lemmas.Slice.Eq.{bytes_eq-Decides}
use Rattle.prop_binary.specs.Tables.{properties}
use Rattle.prop_binary.specs.Ecma262.{is_ecma262_name, ecma262_number, IsOnlyNumber}

-- the number that was found is this one
abbrev is_found : Option ℕ → ℕ → Bool
is_found None n = false
is_found (Some m) n = m == n

found_number : (o : Option ℕ) (n : ℕ) → is_found o n ≡ true → o ≡ Some n
found_number None n h = cc
found_number (Some m) n h = let same : m ≡ n = grind (arith, nat_tests) in ap Some same

-- a property that ECMA-262 has not passes, and one that it has where both its names are found with this number
abbrev names_found : ℕ → List ℕ × List ℕ × Bool → Bool
names_found n property = cond property.2 (is_found (ecma262_number property.0) n && is_found (ecma262_number property.1) n) true

-- the names of each property are found with its number
abbrev all_found : ℕ → List (List ℕ × List ℕ × Bool) → Bool
all_found n [] = true
all_found n (property ∷ more) = names_found n property && all_found (n + 1) more

either_name : (long short : Bool) → (long || short) ≡ true → (P : Type 0) → (long ≡ true → P) → (short ≡ true → P) → P
either_name true short h P first second = first refl
either_name false short h P first second = second h

one_found : (n : ℕ) (text long short : List ℕ) (in_ecma262 : Bool) → names_found n (long, short, in_ecma262) ≡ true → is_ecma262_name text (long, short, in_ecma262) ≡ true → ecma262_number text ≡ Some n
one_found n text long short true found named =
    let parts = and_parts (is_found (ecma262_number long) n) (is_found (ecma262_number short) n) found in
    either_name (bytes_eq long text) (bytes_eq short text) named (ecma262_number text ≡ Some n)
    (λ same. ap ecma262_number (sym ((bytes_eq-Decides long text).0 same)) ∙ found_number (ecma262_number long) n parts.0)
    (λ same. ap ecma262_number (sym ((bytes_eq-Decides short text).0 same)) ∙ found_number (ecma262_number short) n parts.1)
one_found n text long short false found named = cc

each_found : (n : ℕ) (rows : List (List ℕ × List ℕ × Bool)) (text : List ℕ) → all_found n rows ≡ true → (k : ℕ) → IfSome (slice_get rows k) (λ property. is_ecma262_name text property ≡ true → ecma262_number text ≡ Some (n + k))
each_found n [] text all k = tt
each_found n ((long, short, in_ecma262) ∷ more) text all zero =
    let parts = and_parts (names_found n (long, short, in_ecma262)) (all_found (n + 1) more) all in
    λ named. let same : n ≡ n + 0 = omega arith in one_found n text long short in_ecma262 parts.0 named ∙ ap Some same
each_found n (property ∷ more) text all (suc k) =
    let parts = and_parts (names_found n property) (all_found (n + 1) more) all in
    let same : n + 1 + k ≡ n + suc k = omega arith in
    let P : ℕ → Type 0 = λ m. IfSome (slice_get more k) (λ found. is_ecma262_name text found ≡ true → ecma262_number text ≡ Some m) in
    subst P same (each_found (n + 1) more text parts.1 k)

-- a property that has the text as a name is the one that is found
pub only_number : (text : List ℕ) → IsOnlyNumber text (ecma262_number text)
unfolding properties
only_number text k =
    let same : 0 + k ≡ k = omega arith in
    let P : ℕ → Type 0 = λ m. IfSome (slice_get properties k) (λ found. is_ecma262_name text found ≡ true → ecma262_number text ≡ Some m) in
    subst P same (each_found 0 properties text refl k)
