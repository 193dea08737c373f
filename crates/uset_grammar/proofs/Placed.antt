-- Outcomes whose places are rests of the text, and those whose places are the texts before them.
use Rattle.std.proofs.Common.{◌≡◌, ◌∷◌, ◌++◌, sym, ◌∙◌, subst, append_assoc, ℕ, []}
use Rattle.uset_grammar.specs.Text.{Text}
use Rattle.uset_grammar.specs.Outcome.{Outcome, got, faulty, ended}
use Rattle.uset_grammar.specs.Parts.{TellsOutcome}

-- The one outcome, whose place is a rest of the text, and the other, whose place is the text before it, are the same.
abbrev pub Placed : {V : Type 0} → Text → Outcome V → Outcome V → Type 0
Placed q (got v r) (got w s) = (v ≡ w) × (r ≡ s)
Placed q (got v r) (faulty k b) = ⊥
Placed q (got v r) ended = ⊥
Placed q (faulty k r) (got w s) = ⊥
Placed q (faulty k r) (faulty l b) = (k ≡ l) × (q ≡ b ++ r)
Placed q (faulty k r) ended = ⊥
Placed q ended (got w s) = ⊥
Placed q ended (faulty k b) = ⊥
Placed q ended ended = Unit {0}

-- so the one tells what the other is
pub placed_tells : {V : Type 0} (Is : Outcome V → Type 0) (q : Text) (o u : Outcome V) → Placed q o u → Is u → TellsOutcome Is q o
placed_tells Is q (got v r) (got w s) h is = subst (λ z. Is (got z r)) (sym h.0) (subst (λ z. Is (got w z)) (sym h.1) is)
placed_tells Is q (got v r) (faulty k b) h is = absurd h
placed_tells Is q (got v r) ended h is = absurd h
placed_tells Is q (faulty k r) (got w s) h is = absurd h
placed_tells Is q (faulty k r) (faulty l b) h is = (b, h.1, subst (λ z. Is (faulty z b)) (sym h.0) is)
placed_tells Is q (faulty k r) ended h is = absurd h
placed_tells Is q ended (got w s) h is = absurd h
placed_tells Is q ended (faulty k b) h is = absurd h
placed_tells Is q ended ended h is = is

-- one character further on
pub further_text : (q p t : Text) (c : ℕ) → q ≡ p ++ c ∷ t → q ≡ (p ++ c ∷ []) ++ t
further_text q p t c h = h ∙ sym (append_assoc p (c ∷ []) t)
