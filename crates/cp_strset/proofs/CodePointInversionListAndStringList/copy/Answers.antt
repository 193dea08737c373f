use Rattle.std.proofs.Common.{◌∙◌, ap, ap₂, map, None, List, ℕ}
use Rattle.std.specs.String.{string_bytes}
use Rattle.cp_strset.specs.StringList.{fault_from}
use Rattle.cp_strset.specs.StringSet.{StringSet}
use Rattle.cp_strset.proofs.Clones.{same_bytes}
use Rattle.cp_strset.proofs.CodePointInversionListAndStringList.copy.Goals as goal

pub invariant_of-result : goal.invariant_of-result
invariant_of-result c =
    let e = same_bytes c.deref.result.now c.in_ok-strings.strings.items c.in_ok-strings.ensures.items ∙ ap (map string_bytes) c.deref.ensures.value in
    ap (fault_from None 0) e ∙ c.self.invariant

pub returns : goal.returns
returns c =
    let e = same_bytes c.deref.result.now c.in_ok-strings.strings.items c.in_ok-strings.ensures.items ∙ ap (map string_bytes) c.deref.ensures.value in
    ap₂ (λ (a : List ℕ) (b : List (List ℕ)). let s : StringSet = record { code_points = a; strings = b } in s) c.in_ok-code_points.ensures e
    ∙ c.self.view_is
