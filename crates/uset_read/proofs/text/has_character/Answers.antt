use Rattle.std.proofs.Common.{sym, ◌∙◌}
use Rattle.std.proofs.lemmas.Bool.{le-ltb}
use Rattle.uset_read.proofs.text.has_character.Goals as goal

pub returns-else-c-end : goal.returns-else-c-end
returns-else-c-end c =
    let last = rw c.get_inversion_list.ensures.elements at c.in-Some.ensures.value in
    le-ltb c.args.c c.in-Some.end.now c.if-c-end.false
    ∙ sym (c.members_are_below_the_last.ensures c.args.set.now c.in-Some.end.now c.args.c c.get_inversion_list.ensures.canonical (sym last) c.if-c-end.false)
