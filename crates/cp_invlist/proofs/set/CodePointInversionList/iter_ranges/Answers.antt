use Rattle.std.proofs.Common.{◌≡◌, ◌&&◌, ℕ, List, subst}
use Rattle.cp_invlist.specs.InversionList.{contains, is_code_point}
use Rattle.cp_invlist.specs.Ranges.{AreMaximalRanges}
use Rattle.cp_invlist.proofs.Members.{members_within}
use Rattle.cp_invlist.proofs.RangesLemmas.{AreMaximalRanges-ranges_of, AreRangesFrom-unique}
use Rattle.cp_invlist.proofs.set.CodePointInversionList.iter_ranges.Goals as goal

pub returns-clause-maximal : goal.returns-clause-maximal
returns-clause-maximal c =
    let xs = c.self.inside.elements.items in
    subst (λ (ys : List ℕ). AreMaximalRanges (contains ys) c.new.result) c.self.view_is
    (rw (c.new.ensures, c.deref.ensures.value) (AreMaximalRanges-ranges_of xs c.self.invariant.list))

pub returns-clause-only : goal.returns-clause-only
returns-clause-only c = λ rs h.
    AreRangesFrom-unique (contains c.args.self.now) 0 rs c.new.result h (returns-clause-maximal c)

pub returns-clause-code_points : goal.returns-clause-code_points
returns-clause-code_points c = λ d.
    subst (λ (ys : List ℕ). (contains ys d && is_code_point d) ≡ contains ys d) c.self.view_is
    (members_within c.self.inside.elements.items d c.self.invariant.list)
