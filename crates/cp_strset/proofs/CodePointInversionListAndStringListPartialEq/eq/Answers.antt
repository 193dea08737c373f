use Rattle.std.proofs.Common.{◌∙◌, ap, ap₂, refl, List, ℕ, ◌&&◌}
use Rattle.cp_strset.specs.StringList.{holds}
use Rattle.cp_strset.specs.StringSet.{StringSet}
use Rattle.cp_strset.proofs.Canonical.{AreCanonical-faultless}
use Rattle.cp_strset.proofs.OneList.{one_list_law}
use Rattle.cp_strset.proofs.Equality.{pointwise-string_eq, Decides-strings}
use Rattle.cp_strset.proofs.CodePointInversionListAndStringListPartialEq.eq.Goals as goal

pub returns-then-eq-clause-value : goal.returns-then-eq-clause-value
returns-then-eq-clause-value c =
    let strings = c.eq-then-eq.ensures ∙ pointwise-string_eq c.self.inside.strings.items c.other.inside.strings.items in
    rw (← c.self.view_is, ← c.other.view_is) (strings ∙ ap₂ ◌&&◌ c.if-eq.ensures.value refl)

pub returns-then-eq-clause-same : goal.returns-then-eq-clause-same
returns-then-eq-clause-same c =
    let strings = c.eq-then-eq.ensures ∙ pointwise-string_eq c.self.inside.strings.items c.other.inside.strings.items in
    let decides = Decides-strings _ _ c.eq-then-eq.result strings in
    rw (← c.self.view_is, ← c.other.view_is) (
      λ t. ap₂ (λ (a : List ℕ) (b : List (List ℕ)). let s : StringSet = record { code_points = a; strings = b } in s) (c.if-eq.ensures.lists.0 refl) (decides.0 t),
      λ e. decides.1 (ap (λ (s : StringSet). s.strings) e),
    )

pub returns-then-eq-clause-members : goal.returns-then-eq-clause-members
returns-then-eq-clause-members c =
    let strings = c.eq-then-eq.ensures ∙ pointwise-string_eq c.self.inside.strings.items c.other.inside.strings.items in
    let decides = Decides-strings _ _ c.eq-then-eq.result strings in
    rw (← c.self.view_is, ← c.other.view_is) (
      λ t. record { code_points = c.if-eq.ensures.members.0 refl; strings = λ bytes. ap (λ ss. holds ss bytes) (decides.0 t) },
      λ h. decides.1 (one_list_law _ _ (AreCanonical-faultless _ c.self.invariant) (AreCanonical-faultless _ c.other.invariant) h.strings),
    )

pub returns-else-eq-clause-members : goal.returns-else-eq-clause-members
returns-else-eq-clause-members c =
    rw (← c.self.view_is, ← c.other.view_is) (λ t. absurd (cc), λ h. c.eq.ensures.members.1 h.code_points)
