-- The characters of a string, written one by one.
use Rattle.std.proofs.Common.{◌≡◌, ℕ, List, [], ◌∷◌, ◌++◌, codes, sym, ap, ◌∙◌, append_assoc, append-nil}
use Rattle.std.specs.List.{flat_map}
use Rattle.uset_tool.specs.Answer.{code_point_text, further_text, linked}

-- the first was written
pub linked_first : (old text cs rest : List ℕ) (c : ℕ) → cs ≡ c ∷ rest → text ≡ old ++ code_point_text c → text ++ flat_map further_text rest ≡ old ++ linked cs
linked_first old text cs rest c are is =
    ap (λ t. t ++ flat_map further_text rest) is ∙ (append_assoc old (code_point_text c) (flat_map further_text rest) ∙ ap (λ l. old ++ linked l) (sym are))

-- one more was written
pub linked_next : (all text line last cs rest : List ℕ) (c : ℕ) → cs ≡ c ∷ rest → line ≡ text ++ codes "_" → last ≡ line ++ code_point_text c → text ++ flat_map further_text cs ≡ all →
    last ++ flat_map further_text rest ≡ all
linked_next all text line last cs rest c are line_is last_is h =
    ap (λ t. t ++ flat_map further_text rest) (last_is ∙ (ap (λ t. t ++ code_point_text c) line_is ∙ append_assoc text (codes "_") (code_point_text c)))
    ∙ (append_assoc text (further_text c) (flat_map further_text rest) ∙ (ap (λ l. text ++ flat_map further_text l) (sym are) ∙ h))

-- all were written
pub linked_last : (all text cs : List ℕ) → cs ≡ [] → text ++ flat_map further_text cs ≡ all → text ≡ all
linked_last all text cs none h = sym (append-nil text) ∙ (ap (λ l. text ++ flat_map further_text l) (sym none) ∙ h)
