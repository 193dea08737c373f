-- Equality of strings is equality of their bytes.
use Rattle.std.proofs.Common.{◌≡◌, ℕ, Bool, ◌&&◌, List, [], ◌∷◌, map, nat_eq, refl, ap₂, String}
use Rattle.std.specs.Cmp.Lexicographic.{pointwise}
use Rattle.std.specs.Bool.{Decides}
use Rattle.std.specs.String.{string_bytes, string_eq}
use Rattle.std.proofs.lemmas.Bool.Decides.{Decides-eqb}
use Rattle.std.proofs.lemmas.Slice.Eq.{slice_eq-Decides}

pub pointwise-string_eq : {Z : Type 0} (xs ys : List (String Z)) → pointwise string_eq xs ys ≡ pointwise (pointwise nat_eq) (map string_bytes xs) (map string_bytes ys)
pointwise-string_eq [] [] = refl
pointwise-string_eq [] (y ∷ ys) = refl
pointwise-string_eq (x ∷ xs) [] = refl
pointwise-string_eq (x ∷ xs) (y ∷ ys) = ap₂ ◌&&◌ refl (pointwise-string_eq xs ys)

pub Decides-strings : (xs ys : List (List ℕ)) (r : Bool) → r ≡ pointwise (pointwise nat_eq) xs ys → Decides r (xs ≡ ys)
Decides-strings xs ys r h = slice_eq-Decides (λ s t. slice_eq-Decides Decides-eqb s t (pointwise nat_eq s t) refl) xs ys r h
