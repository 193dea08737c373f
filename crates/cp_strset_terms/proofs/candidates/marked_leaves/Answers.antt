use Rattle.std.proofs.Common.{◌≡◌, All, sym, subst, ap, ◌∙◌, true≢false, true, false, get_or, arith, inl, inr}
use Rattle.std.proofs.lemmas.Bool.{cases_lt}
use Rattle.std.proofs.lemmas.List.Elements.{All-push}
use Rattle.std.proofs.lemmas.Option.{get_or_from_slice_get, slice_get_within}
use Rattle.std.specs.List.{flat_map}
use Rattle.cp_strset.specs.StringList.{holds}
use Rattle.cp_strset_terms.specs.Leaves.{strings_of, FitsNumbers}
use Rattle.cp_strset_terms.proofs.LeavesLemmas.{held_more}
use Rattle.cp_strset_terms.proofs.candidates.marked_leaves.Goals as goal
use Rattle.cp_strset_terms.proofs.candidates.marked_leaves.Goals.{then-marks-index+in_ok-push, else-marks-index}

pub loop-index-preserved : goal.loop-index-preserved
loop-index-preserved c = (
  λ bytes index below marked held. elim c.if-marks-index.branch [
    | then-marks-index+in_ok-push w ↦
        ap (λ v. holds (flat_map strings_of v.items) bytes) w.marked-is
        ∙ (ap (λ l. holds (flat_map strings_of l) bytes) w.in_ok-push.ensures.items
        ∙ held_more c.args.leaves.now c.loop-index.marked.items bytes index c.loop-index.index c.index-leaves-index.result below (omega arith) c.index-leaves-index.is
        (λ before. c.loop-index.invariant.0 bytes index before marked held) held)
    | else-marks-index w ↦
        ap (λ v. holds (flat_map strings_of v.items) bytes) w.marked-is
        ∙ elim (cases_lt index c.loop-index.index) [
          | inl before ↦ c.loop-index.invariant.0 bytes index before marked held
          | inr behind ↦ (
              let same : c.loop-index.index ≡ index = omega arith in
              absurd (true≢false (sym (get_or_from_slice_get c.args.marks.now index true false marked) ∙ (ap (λ k. get_or c.args.marks.now k false) (sym same) ∙ w.if-marks-index.false))))
        ]
  ],
  λ all fits. elim c.if-marks-index.branch [
    | then-marks-index+in_ok-push w ↦
        subst (λ v. All (FitsNumbers all) v.items) (sym w.marked-is)
        (subst (All (FitsNumbers all)) (sym w.in_ok-push.ensures.items)
        (All-push (FitsNumbers all) c.loop-index.marked.items c.index-leaves-index.result (c.loop-index.invariant.1 all fits)
        (subst (FitsNumbers all) (sym c.index-leaves-index.is) (fits c.loop-index.index c.index-leaves-index.result (omega arith)))))
    | else-marks-index w ↦ subst (λ v. All (FitsNumbers all) v.items) (sym w.marked-is) (c.loop-index.invariant.1 all fits)
  ],
)

pub returns-clause-held : goal.returns-clause-held
returns-clause-held c = λ bytes index marked held.
    let within = slice_get_within c.args.marks.now index true marked in
    c.loop-index.invariant.0 bytes index (omega arith) marked held
