-- Options bound one behind another.
use Rattle.std.proofs.Common.{◌≡◌, Option, Some, None, refl}
use Rattle.uset_grammar.specs.Text.{◌>>=◌}

pub bind_assoc : {A B C : Type 0} (o : Option A) (f : A → Option B) (g : B → Option C) → ((o >>= f) >>= g) ≡ (o >>= λ x. (f x >>= g))
bind_assoc None f g = refl
bind_assoc (Some a) f g = refl

pub bind_none : {A B : Type 0} (o : Option A) → ◌≡◌ {A = Option B} (o >>= λ x. None) None
bind_none None = refl
bind_none (Some a) = refl

-- what a bound option holds comes from what the first holds
pub bound : {A B : Type 0} (o : Option A) (f : A → Option B) (v : B) → (o >>= f) ≡ Some v → (u : A) × (o ≡ Some u) × (f u ≡ Some v)
bound None f v h = absurd (let g = h in cc)
bound (Some u) f v h = (u, refl, h)
