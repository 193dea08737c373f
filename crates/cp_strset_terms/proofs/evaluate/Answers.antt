use Rattle.std.proofs.Common.{◌&&◌, map, refl, ap, ◌∙◌}
use Rattle.std.specs.String.{string_bytes}
use Rattle.cp_invlist.specs.InversionList.{contains, is_code_point}
use Rattle.cp_terms.specs.Terms.{holds_at, value_of}
use Rattle.cp_strset_terms.proofs.LeavesLemmas.{holds_at-code_points}
use Rattle.cp_strset_terms.proofs.TermLemmas.{value_of-same}
use Rattle.cp_strset_terms.proofs.evaluate.Goals as goal

pub unreachable-requires : goal.unreachable-requires
unreachable-requires c =
    let none = (c.faultless.ensures (map string_bytes c.in_ok-strings.strings.items)).1 c.in_ok-strings.ensures.canonical in
    let some = (c.in-Err.ensures.refused c.in-Err.field-0).0 refl in
    cc

pub returns-clause-code_points : goal.returns-clause-code_points
returns-clause-code_points c = λ number.
    let lists = ap (map (λ list. list.now)) c.deref.ensures.value ∙ c.in_ok-lists.ensures in
    ap (λ set. contains set.code_points number) c.in-Ok.ensures.accepted
    ∙ (c.in_ok-code_points.ensures number
    ∙ ap (λ b. is_code_point number && b)
    (ap (λ sets. value_of (holds_at sets number) c.args.steps.now) lists ∙ value_of-same _ _ c.args.steps.now (holds_at-code_points c.args.leaves.now number)))
