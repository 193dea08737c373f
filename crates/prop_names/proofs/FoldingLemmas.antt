-- Names without white space and hyphens, which a query folds as they are stored.
use Rattle.std.proofs.Common.{◌≡◌, ℕ, Bool, true, false, ◌||◌, ◌==◌, Some, None, Option, IfSome, List, [], ◌∷◌, cond, nat_le, ◌&&◌, refl, ap, ap₂, ◌∙◌}
use Rattle.std.specs.Char.{to_ascii_lowercase}
use Rattle.std.proofs.lemmas.List.Elements.{All-head, All-tail}
use Rattle.prop_names.specs.Folding.{is_ignored, is_space_or_hyphen, is_underscore, stored_folding, query_folding, LacksSpacesAndHyphens}
use Rattle.prop_names.specs.Names.{Names, value_of_name, value_of_query, value_of_folding, FoldingsAgree}

-- what is neither white space nor a hyphen is dropped from a query only where it is `_`
underscore_alone : (controls space underscore hyphen : Bool) → (controls || (space || hyphen)) ≡ false → (controls || (space || (underscore || hyphen))) ≡ underscore
underscore_alone true space underscore hyphen h = cc
underscore_alone false true underscore hyphen h = cc
underscore_alone false false underscore true h = cc
underscore_alone false false true false h = refl
underscore_alone false false false false h = refl

is_ignored-is_underscore : (c : ℕ) → is_space_or_hyphen c ≡ false → is_ignored c ≡ is_underscore c
is_ignored-is_underscore c h = underscore_alone (nat_le 0x09 c && nat_le c 0x0D) (c == 0x20) (c == 0x5F) (c == 0x2D) h

query_folding-stored_folding : (name : List ℕ) → LacksSpacesAndHyphens name → query_folding name ≡ stored_folding name
query_folding-stored_folding [] lacks = refl
query_folding-stored_folding (c ∷ cs) lacks =
    ap₂ (λ b (rest : List ℕ). cond b rest (to_ascii_lowercase c ∷ rest)) (is_ignored-is_underscore c (All-head (λ c. is_space_or_hyphen c ≡ false) c cs lacks))
    (query_folding-stored_folding cs (All-tail (λ c. is_space_or_hyphen c ≡ false) c cs lacks))

-- the value of a name without white space and hyphens is found loosely
pub value_of_name-value_of_query : (names : Names) (name : List ℕ) → FoldingsAgree names → LacksSpacesAndHyphens name → IfSome (value_of_name names name) (λ value. value_of_query names name ≡ Some value)
value_of_name-value_of_query names name agree lacks = by_answer (value_of_name names name) refl
  where
    by_answer : (o : Option ℕ) → value_of_name names name ≡ o → IfSome o (λ value. value_of_query names name ≡ Some value)
    by_answer None is = tt
    by_answer (Some value) is = ap (value_of_folding names) (query_folding-stored_folding name lacks) ∙ agree name value is
