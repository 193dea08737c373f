use Rattle.std.proofs.Common.{ℕ, List, subst, ◌∙◌}
use Rattle.cp_invlist.specs.Ranges.{AreMaximalRanges, is_outside}
use Rattle.cp_invlist.proofs.RangesLemmas.{AreRangesFrom-unique}
use Rattle.cp_invlist.proofs.set.CodePointInversionList.iter_ranges_complemented.Goals as goal

pub returns-clause-maximal : goal.returns-clause-maximal
returns-clause-maximal c =
    subst (λ (ys : List ℕ). AreMaximalRanges (is_outside ys) c.new.result) (c.deref.ensures.value ∙ c.self.view_is) c.new.ensures

pub returns-clause-only : goal.returns-clause-only
returns-clause-only c = λ rs h.
    AreRangesFrom-unique (is_outside c.args.self.now) 0 rs c.new.result h (returns-clause-maximal c)
