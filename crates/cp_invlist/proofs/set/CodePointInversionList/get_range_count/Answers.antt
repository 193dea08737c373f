use Rattle.std.proofs.Common.{ℕ, ◌/◌, List, length, sym, ap, ◌∙◌, subst}
use Rattle.cp_invlist.specs.InversionList.{contains}
use Rattle.cp_invlist.specs.Ranges.{AreMaximalRanges}
use Rattle.cp_invlist.proofs.RangesLemmas.{AreMaximalRanges-ranges_of, AreRangesFrom-unique, length-ranges_of}
use Rattle.cp_invlist.proofs.set.CodePointInversionList.get_range_count.Goals as goal

pub returns-clause-ranges : goal.returns-clause-ranges
returns-clause-ranges c = λ rs h.
    let xs = c.self.inside.elements.items in
    let of_list : AreMaximalRanges (contains xs) rs = subst (λ (l : List ℕ). AreMaximalRanges (contains l) rs) (sym c.self.view_is) h in
    ap (λ n. n / 2) (c.len.ensures ∙ c.self.inside.elements.ok.0) ∙ (sym (length-ranges_of xs)
    ∙ ap length (AreRangesFrom-unique (contains xs) 0 _ rs (AreMaximalRanges-ranges_of xs c.self.invariant.list) of_list))
