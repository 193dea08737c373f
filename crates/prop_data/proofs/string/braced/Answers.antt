use Rattle.prop_data.proofs.SpelledLemmas.{braced-both, braced-not}
use Rattle.prop_data.proofs.string.braced.Goals as goal
use Rattle.prop_data.proofs.string.braced.Goals.{else-first-eq123-via-then-first-eq123+else-last-eq125, else-first-eq123-via-else-first-eq123}

pub returns-then-last-eq125 : goal.returns-then-last-eq125
returns-then-last-eq125 c = braced-both _ _ _ _ _ c.in_ok-first.ensures.cases.0 c.in_ok-last.ensures.cases.0 c.if-first-eq123.true c.if-last-eq125.true

pub returns-else-first-eq123 : goal.returns-else-first-eq123
returns-else-first-eq123 c =
    braced-not _ _ _ _ _ c.in_ok-first.ensures.cases.0 c.in_ok-last.ensures.cases.0 (λ first last. elim c.else-first-eq123.branch [
      | else-first-eq123-via-then-first-eq123+else-last-eq125 w ↦ w.if-last-eq125.false last
      | else-first-eq123-via-else-first-eq123 w ↦ w.if-first-eq123.false first
    ])
