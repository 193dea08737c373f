use Rattle.std.proofs.Common.{◌<◌, take, length, arith}
use Rattle.std.proofs.lemmas.List.{take_more}
use Rattle.std.proofs.lemmas.List.Elements.{All-push}
use Rattle.std.proofs.lemmas.Option.{slice_get_past}
use Rattle.cp_invlist.proofs.cursor.Cursor.count_below.Goals as goal

pub loop-index-preserved : goal.loop-index-preserved
loop-index-preserved c =
    let next = take_more c.args.self.now.rest.now c.loop-index.index 0 c.loop-index-test.true in
    rw next (All-push (λ x. x < c.args.number) (take c.loop-index.index c.args.self.now.rest.now) _ c.loop-index.invariant c.if-element-number.false)

pub returns-clause-behind : goal.returns-clause-behind
returns-clause-behind c = rw (slice_get_past c.args.self.now.rest.now (length c.args.self.now.rest.now) (omega arith)) tt
