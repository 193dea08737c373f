use Rattle.std.proofs.Common.{◌∷◌, [], ◌++◌, ap, ◌∙◌}
use Rattle.uset_reader.proofs.TurnLemmas.{opens_inside}
use Rattle.uset_reader.proofs.turn.open.Goals as goal

pub returns-clause-opens : goal.returns-clause-opens
returns-clause-opens c =
    opens_inside c.turns.ensures.places c.args.cursor c.args.outer.now.items c.push.new.self.items c.args.bracket.now c.replace.new.dest c.args.opening c.args.text.now c.args.inner c.offset.result
    (rw (c.at.ensures.source, c.at.ensures.left) at c.offset.ensures.place) (rw c.replace.ensures.after c.in_ok-opened.ensures)
    (c.in_ok-push.ensures.items ∙ ap (λ b. c.args.outer.now.items ++ b ∷ []) c.replace.ensures.value)
