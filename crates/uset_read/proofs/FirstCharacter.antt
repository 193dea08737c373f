-- A text by its first character.
use Rattle.std.proofs.Common.{◌≡◌, ℕ, ◌∷◌, sym, ap, ◌∙◌}
use Rattle.uset_grammar.specs.Text.{Text}

-- the text is this character and what was read behind its first one
pub begins_with : (text behind inner : Text) (first c : ℕ) → text ≡ first ∷ behind → text ≡ c ∷ inner → text ≡ c ∷ behind
begins_with text behind inner first c e h = let g : first ∷ behind ≡ c ∷ inner = sym e ∙ h in let same : first ≡ c = cc in e ∙ ap (λ z. z ∷ behind) same
