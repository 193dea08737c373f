use Rattle.std.proofs.Common.{◌≡◌, ◌<◌, ◌+◌, All, true, Some, get_or, length, take, arith, sym, subst, ap, ◌∙◌}
use Rattle.std.proofs.Math.ListN.{length-set}
use Rattle.std.proofs.lemmas.List.{take_all}
use Rattle.std.proofs.lemmas.List.Elements.{All-more}
use Rattle.std.specs.List.{slice_get}
use Rattle.cp_strset_terms.proofs.CandidatesLemmas.{marks_more}
use Rattle.cp_strset_terms.proofs.candidates.marks_of.Goals as goal
use Rattle.cp_strset_terms.proofs.candidates.marks_of.Goals.{then-index-count, else-index-count}

pub loop-index-preserved : goal.loop-index-preserved
loop-index-preserved c =
    let before = c.loop-index.invariant in
    let place = c.loop-index.index-index in
    let index = get_or c.args.indices.now place 0 in
    elim c.if-index-count.branch [
      | then-index-count w ↦ (
        ap (λ v. length v.items) w.marks-is ∙ (length-set c.loop-index.marks.items index true ∙ before.0),
        subst (λ v. All (λ index. index < c.args.count → slice_get v.items index ≡ Some true) (take (place + 1) c.args.indices.now)) (sym w.marks-is)
            (marks_more c.loop-index.marks.items c.args.indices.now place c.args.count c.loop-index-test.true before.0 w.if-index-count.true before.1),
      )
      | else-index-count w ↦ (
        ap (λ v. length v.items) w.marks-is ∙ before.0,
        subst (λ v. All (λ index. index < c.args.count → slice_get v.items index ≡ Some true) (take (place + 1) c.args.indices.now)) (sym w.marks-is)
            (All-more (λ index. index < c.args.count → slice_get c.loop-index.marks.items index ≡ Some true) c.args.indices.now place 0 c.loop-index-test.true before.1
            (λ within. absurd (omega (arith, within, w.if-index-count.false)))),
      )
    ]

pub returns-clause-marked : goal.returns-clause-marked
returns-clause-marked c = subst (All (λ index. index < c.args.count → slice_get c.loop-index.marks.items index ≡ Some true)) (take_all c.loop-index.index-index c.args.indices.now c.loop-index-test.false) c.loop-index.invariant.1
