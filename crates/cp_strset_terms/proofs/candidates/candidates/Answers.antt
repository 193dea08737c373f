use Rattle.std.proofs.Common.{◌≡◌, ℕ, true, Some, List, [], ap, ◌∙◌}
use Rattle.std.proofs.lemmas.Result.{IfOk-weaker}
use Rattle.std.specs.List.{flat_map, slice_get}
use Rattle.cp_strset.specs.StringList.{holds}
use Rattle.cp_terms.specs.Terms.{steps_done, value_of}
use Rattle.cp_strset_terms.specs.Leaves.{leaf_holds, strings_of}
use Rattle.cp_strset_terms.specs.Steps.{without_complements}
use Rattle.cp_strset_terms.proofs.CandidatesLemmas.{one_marked}
use Rattle.cp_strset_terms.proofs.candidates.candidates.Goals as goal

pub returns-clause-held : goal.returns-clause-held
returns-clause-held c =
    let leaves = c.args.leaves.now in
    IfOk-weaker c.marked_leaves.result
    (λ candidates. (bytes : List ℕ) (index : ℕ) → slice_get c.deref.result.now index ≡ Some true → leaf_holds leaves bytes index ≡ true → holds (flat_map strings_of candidates.items) bytes ≡ true)
    (λ candidates. (bytes : List ℕ) → value_of (leaf_holds leaves bytes) (without_complements c.args.steps.now) ≡ true → holds (flat_map strings_of candidates.items) bytes ≡ true)
    (λ candidates all bytes held.
    let v = leaf_holds leaves bytes in
    let some = c.of_top.ensures v (steps_done v (without_complements c.args.steps.now) []) (c.in_ok-sources.ensures.covered bytes) held in
    let one = one_marked leaves bytes c.of_top.result.now c.in_ok-marks.marks.items c.in_ok-marks.ensures.marked some in
    all bytes one.0 (ap (λ l. slice_get l one.0) c.deref.ensures.value ∙ one.1) one.2)
    c.marked_leaves.ensures.held

pub returns-clause-fits : goal.returns-clause-fits
returns-clause-fits c = c.marked_leaves.ensures.fits
