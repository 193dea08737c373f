-- One more piece of a text.
use Rattle.std.proofs.Common.{◌≡◌, ℕ, ◌++◌, List, [], sym, ◌∙◌, ap, append_assoc}
use Rattle.std.proofs.lemmas.List.{append-nil}

-- after a piece was written, what is left follows it
pub written_more : (old new piece rest all : List ℕ) → new ≡ old ++ piece → old ++ (piece ++ rest) ≡ all → new ++ rest ≡ all
written_more old new piece rest all e h = ap (λ t. t ++ rest) e ∙ append_assoc old piece rest ∙ h

-- at the end nothing is left, and the last piece closes the text
pub written_last : (start body old new rest before close : List ℕ) → new ≡ old ++ close → rest ≡ [] → old ++ rest ≡ start ++ (before ++ body) →
    new ≡ start ++ (before ++ (body ++ close))
written_last start body old new rest before close e none h =
    e ∙ ap (λ t. t ++ close) (sym (append-nil old) ∙ ap (λ r. old ++ r) (sym none) ∙ h)
    ∙ append_assoc start (before ++ body) close ∙ ap (λ t. start ++ t) (append_assoc before body close)
