-- Layers, code point by code point.
use Rattle.std.proofs.Common.{◌≡◌, ℕ, Bool, List, [], ◌∷◌, ◌++◌, refl, sym, ap, ◌∙◌}
use Rattle.uset_gather.specs.declared.layers.Layer.{Layer}
use Rattle.uset_gather.specs.Painting.{behind, behind_all}

-- one more layer
pub behind_all_more : (ls : List Layer) (l : Layer) (c : ℕ) (b : Bool) → behind_all (ls ++ l ∷ []) c b ≡ behind l c (behind_all ls c b)
behind_all_more [] l c b = refl
behind_all_more (k ∷ ls) l c b = behind_all_more ls l c (behind k c b)

-- the uppermost layer
pub on_top : (layers rest : List Layer) (l : Layer) → layers ≡ rest ++ l ∷ [] → (c : ℕ) (b : Bool) → behind_all layers c b ≡ behind l c (behind_all rest c b)
on_top layers rest l are c b = ap (λ ls. behind_all ls c b) are ∙ behind_all_more rest l c b

-- the uppermost of the layers went into one over them
pub taken_over : (layers rest : List Layer) (lower upper both : Layer) → layers ≡ rest ++ lower ∷ [] → ((c : ℕ) (b : Bool) → behind both c b ≡ behind upper c (behind lower c b)) →
    (c : ℕ) (b : Bool) → behind both c (behind_all rest c b) ≡ behind upper c (behind_all layers c b)
taken_over layers rest lower upper both are is c b = is c (behind_all rest c b) ∙ sym (ap (behind upper c) (on_top layers rest lower are c b))
