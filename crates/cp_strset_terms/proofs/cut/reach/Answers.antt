use Rattle.std.proofs.Common.{◌<◌, IfSome, length, ap, refl, subst, sym, ◌∙◌, arith, nat_cmp}
use Rattle.std.specs.Cmp.Lexicographic.{slice_cmp}
use Rattle.std.specs.Ordering.{is_lt}
use Rattle.cp_strset_terms.specs.Cut.{IsNotBelow}
use Rattle.cp_strset_terms.proofs.CutLemmas.{not_below_from_ge}
use Rattle.std.proofs.lemmas.Option.{slice_get_past, slice_get_read}
use Rattle.cp_strset_terms.proofs.cut.reach.Goals as goal

pub loop-end-init : goal.loop-end-init
loop-end-init c = omega arith

pub returns-then-ge-clause-bound : goal.returns-then-ge-clause-bound
returns-then-ge-clause-bound c = omega arith

pub returns-then-ge-clause-ended : goal.returns-then-ge-clause-ended
returns-then-ge-clause-ended c =
    let at = slice_get_read c.args.strings.now (length c.args.strings.now) c.loop-end.end c.index-strings-end.result refl c.loop-end-test.true c.index-strings-end.is in
    subst (λ o. IfSome o (IsNotBelow c.args.text.now)) (sym at) (
    ap (λ bytes. is_lt (slice_cmp nat_cmp bytes c.args.text.now)) (sym c.as_str.ensures.value) ∙ not_below_from_ge (slice_cmp nat_cmp c.as_str.result.now c.args.text.now) c.if-ge.ensures)

pub loop-end-smaller : goal.loop-end-smaller
loop-end-smaller c = let before : 0 < c.loop-end.end = c.loop-end.invariant in omega (arith, c.saturating_mul-end.ensures)

pub loop-end-preserved : goal.loop-end-preserved
loop-end-preserved c = let before : 0 < c.loop-end.end = c.loop-end.invariant in omega (arith, c.saturating_mul-end.ensures)

pub returns-clause-bound : goal.returns-clause-bound
returns-clause-bound c = omega arith

pub returns-clause-ended : goal.returns-clause-ended
returns-clause-ended c = rw (slice_get_past c.args.strings.now (length c.args.strings.now) (omega arith)) tt
