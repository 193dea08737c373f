use Rattle.std.proofs.Common.{ℕ, List, ap, ◌∙◌}
use Rattle.prop_names.specs.Texts.{texts}
use Rattle.prop_names.proofs.CopyLemmas.{texts-take_more}
use Rattle.prop_names.proofs.list.copy_of.Goals as goal

pub loop-name-preserved : goal.loop-name-preserved
loop-name-preserved c =
    ap texts c.in_ok-push.ensures.items
    ∙ texts-take_more c.args.rows.now c.loop-name.copy.items c.loop-name.name-index c.loop-name-item.result _ c.loop-name-test.true c.loop-name.invariant c.loop-name-item.is
    (ap (λ (t : List ℕ). (t, c.loop-name-item.result.1)) c.in_ok-clone.ensures.cases)
