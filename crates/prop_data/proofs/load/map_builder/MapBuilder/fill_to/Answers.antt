use Rattle.std.proofs.Common.{◌∙◌}
use Rattle.prop_data.specs.MapBuilder.{next_of}
use Rattle.prop_data.proofs.MapBuilderLemmas.{default_run}
use Rattle.prop_data.proofs.load.map_builder.MapBuilder.fill_to.Goals as goal

pub returns-in_ok-push-clause-values : goal.returns-in_ok-push-clause-values
returns-in_ok-push-clause-values g c = λ d.
    c.in_ok-push.ensures.values d
    ∙ default_run (next_of c.args.self.now.last) _ c.args.self.now.runs.items c.args.self.now.default d c.args.self.now.covers
