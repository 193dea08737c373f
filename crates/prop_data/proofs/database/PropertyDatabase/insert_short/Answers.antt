use Rattle.std.proofs.Common.{sym, ◌∙◌}
use Rattle.std.proofs.lemmas.Result.{on_ok_weaker}
use Rattle.prop_data.proofs.AboveLemmas.{short_told}
use Rattle.prop_data.proofs.DatabaseLemmas.{among_others}
use Rattle.prop_data.proofs.database.PropertyDatabase.insert_short.Goals as goal

pub returns : goal.returns
returns c =
    on_ok_weaker c.keep_linear.result (
    λ kept. short_told _ _ (λ t.
    among_others c.args.table t 11 4 _ _ _ _ _ (sym c.eq.ensures ∙ c.if-eq.false) (sym c.eq-2.ensures ∙ c.if-eq-2.false) (kept t))
    ) c.keep_linear.ensures
