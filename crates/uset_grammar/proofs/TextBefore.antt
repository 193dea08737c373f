-- The text before a rest.
use Rattle.std.proofs.Common.{◌≡◌, ◌-◌, suc, length, take, ◌∷◌, ◌++◌, ap, ◌∙◌}
use Rattle.std.proofs.Math.Seq.{take-append_seam}
use Rattle.std.proofs.lemmas.List.{length-append}
use Rattle.std.proofs.Math.Nat.{add-sub_cancel}
use Rattle.uset_grammar.specs.Text.{Text, Ends}

pub at_is : (source p r : Text) → source ≡ p ++ r → take (length source - length r) source ≡ p
at_is source p r e =
    let sizes = length-append p r in
    let n : length source - length r ≡ length p = ap (λ s. length s - length r) e ∙ (ap (λ k. k - length r) sizes ∙ add-sub_cancel (length p) (length r)) in
    ap (λ k. take k source) n ∙ (ap (take (length p)) e ∙ take-append_seam p r)

pub last_is : (source p r : Text) → Ends source p r → take (length source - suc (length r)) source ≡ p
last_is source p r e = at_is source p (e.last ∷ r) e.parts
