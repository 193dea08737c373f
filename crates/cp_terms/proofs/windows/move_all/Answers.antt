use Rattle.std.proofs.Common.{◌∙◌, length, refl, arith}
use Rattle.std.proofs.lemmas.List.{length-set}
use Rattle.std.proofs.lemmas.Option.{slice_get_read, slice_get-get_or}
use Rattle.cp_terms.proofs.WrittenLemmas.{windows_kept}
use Rattle.cp_terms.proofs.windows.move_all.Goals as goal

pub moved_on-requires-clause-window : goal.moved_on-requires-clause-window
moved_on-requires-clause-window c =
    c.loop-index.invariant.windows c.loop-index.index c.index-sets-index.result _
    (slice_get_read c.args.sets.now (length c.args.sets.now) c.loop-index.index c.index-sets-index.result refl c.loop-index-test.true c.index-sets-index.is)
    (slice_get-get_or c.loop-index.windows c.loop-index.index _ (omega arith))

pub loop-index-preserved : goal.loop-index-preserved
loop-index-preserved c =
    record {
      one_each = length-set c.loop-index.windows c.loop-index.index c.moved_on.result ∙ c.loop-index.invariant.one_each;
      windows =
          windows_kept c.args.sets.now c.args.place c.loop-index.windows c.loop-index.index c.index-sets-index.result c.moved_on.result
          (slice_get_read c.args.sets.now (length c.args.sets.now) c.loop-index.index c.index-sets-index.result refl c.loop-index-test.true c.index-sets-index.is)
          c.moved_on.ensures c.loop-index.invariant.windows;
    }
