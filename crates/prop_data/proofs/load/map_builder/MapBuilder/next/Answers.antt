use Rattle.std.proofs.Common.{ap, arith}
use Rattle.prop_data.specs.MapBuilder.{next_of}
use Rattle.prop_data.proofs.MapBuilderLemmas.{end_of_runs-bounds}
use Rattle.prop_data.proofs.load.map_builder.MapBuilder.next.Goals as goal

pub overflow_add-result : goal.overflow_add-result
overflow_add-result g c =
    let b = end_of_runs-bounds 0 _ c.args.self.now.runs.items c.args.self.now.covers (omega arith) in
    let h = ap next_of c.in-Some.is in
    omega (arith, b.1, h)

pub returns-in-Some-clause-small : goal.returns-in-Some-clause-small
returns-in-Some-clause-small g c =
    let b = end_of_runs-bounds 0 _ c.args.self.now.runs.items c.args.self.now.covers (omega arith) in
    let h = ap next_of c.in-Some.is in
    omega (arith, b.1, h)
