use Rattle.std.proofs.Common.{◌≡◌, ◌++◌, length, inl, refl, ap₂, ◌∙◌, arith, codes}
use Rattle.std.specs.Prelude.{decimal}
use Rattle.std.proofs.lemmas.Iterator.Consumers.{count_from_yields_List, YieldsList-from_first}
use Rattle.uset_tool.specs.Answer.{line_end}
use Rattle.uset_tool.proofs.GeneratedLemmas.{length-le-sizes}
use Rattle.uset_tool.proofs.generator.answer_sizes.Goals as goal

pub count-ranges-requires-clause-fits : goal.count-ranges-requires-clause-fits
count-ranges-requires-clause-fits c =
    let sum = c.size-points.ensures.summed c.iter_ranges.result c.iter_ranges.ensures.maximal in
    inl (omega (arith, length-le-sizes c.iter_ranges.result, sum, c.size-points.ensures.bound))

pub returns : goal.returns
returns c =
    let rs = c.iter_ranges.result in
    let count : c.count-ranges.result ≡ length rs =
    count_from_yields_List rs c.count-ranges.result c.count-ranges.ensures.ran (YieldsList-from_first (λ x. x) (λ ranges. ranges) rs refl) in
    let sum = c.size-points.ensures.summed rs c.iter_ranges.ensures.maximal in (
      rs,
      c.iter_ranges.ensures.maximal,
      c.in_ok-text.ensures.ok
          ∙ ap₂ (λ ranges points. codes "bytes " ++ (decimal c.args.length ++ (codes "\nranges " ++ (decimal ranges ++ (codes "\npoints " ++ (decimal points ++ line_end)))))) count sum,
      refl,
    )
