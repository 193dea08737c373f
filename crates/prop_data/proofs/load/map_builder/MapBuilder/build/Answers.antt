use Rattle.std.proofs.Common.{ℕ, Some, nat_lt, cond, ap, ◌∙◌, arith}
use Rattle.std.proofs.lemmas.Result.{IfOk-weaker}
use Rattle.prop_data.proofs.MapBuilderLemmas.{end_of_runs-bounds, no_fault, value_in-all}
use Rattle.prop_data.proofs.load.map_builder.MapBuilder.build.Goals as goal

pub fill_to-requires-clause-ordered : goal.fill_to-requires-clause-ordered
fill_to-requires-clause-ordered g c = (end_of_runs-bounds 0 _ c.args.self.runs.items c.args.self.covers (omega arith)).1

pub returns : goal.returns
returns g c =
    IfOk-weaker c.from_cover.result _ _ (
    λ map values d.
    values d
    ∙ (value_in-all c.fill_to.new.self.runs.items c.fill_to.new.self.default c.args.past d (c.fill_to.new.self.covers ∙ ap (λ (n : ℕ). Some n) c.in_ok-fill_to.ensures.last)
    ∙ ap (λ v. cond (nat_lt 0x10_FFFF d) c.args.past v) (c.in_ok-fill_to.ensures.values d))
    ) c.from_cover.ensures.values

pub from_cover-requires : goal.from_cover-requires
from_cover-requires g c =
    no_fault 0 0 c.fill_to.new.self.runs.items (c.fill_to.new.self.covers ∙ ap (λ (n : ℕ). Some n) c.in_ok-fill_to.ensures.last)
