use Rattle.std.proofs.Common.{◌≡◌, take, ◌∙◌, arith}
use Rattle.std.proofs.lemmas.Grind.{common_steps}
use Rattle.uset_fault.proofs.ShownBytes.{take_to_boundary}
use Rattle.uset_fault.proofs.shown.front_past.Goals as goal

pub returns : goal.returns
returns c =
    let source = c.args.source.now in
    let found = c.ceil_char_boundary.result in
    let past = c.ceil_char_boundary.ensures.bound (omega arith) in
    let front : c.range.result.now ≡ take found source = grind (arith, common_steps, c.range.ensures.value) in
    front ∙ take_to_boundary source c.args.offset found c.utf8.source (omega (arith, past)) c.ceil_char_boundary.ensures.boundary c.ceil_char_boundary.ensures.nearest
