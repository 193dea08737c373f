-- Clones of strings have the same bytes.
use Rattle.std.proofs.Common.{◌≡◌, List, [], ◌∷◌, map, refl, ap₂, String}
use Rattle.std.specs.List.{AllZip}
use Rattle.std.specs.String.{string_bytes}

pub same_bytes : {Z : Type 0} (xs ys : List (String Z)) → AllZip (λ s t. string_bytes t ≡ string_bytes s) xs ys → map string_bytes ys ≡ map string_bytes xs
same_bytes [] [] h = refl
same_bytes [] (y ∷ ys) h = absurd h
same_bytes (x ∷ xs) [] h = absurd h
same_bytes (x ∷ xs) (y ∷ ys) h = ap₂ ◌∷◌ h.0 (same_bytes xs ys h.1)
