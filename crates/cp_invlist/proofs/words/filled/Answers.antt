use Rattle.std.proofs.Common.{sym, ◌∙◌}
use Rattle.cp_invlist.specs.WordLaws.{has_bit-zero}
use Rattle.cp_invlist.proofs.WordLemmas.{has_bit-ones}
use Rattle.cp_invlist.proofs.words.filled.Goals as goal

pub returns-then-inside : goal.returns-then-inside
returns-then-inside c = λ j h. has_bit-ones j h ∙ sym c.if-inside.true

pub returns-else-inside : goal.returns-else-inside
returns-else-inside c = λ j h. has_bit-zero j ∙ sym c.if-inside.false
