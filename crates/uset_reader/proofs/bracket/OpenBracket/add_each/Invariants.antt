use Rattle.std.proofs.Common.{◌∷◌, take}
use Rattle.uset_grammar.specs.Body.{add_each}
use Rattle.uset_reader.specs.Brackets.{Becomes, KeepsFrame}
use Rattle.uset_reader.proofs.bracket.OpenBracket.add_each.Given as goal

abbrev pub invariant-loop-number : goal.invariant-loop-number
invariant-loop-number l =
    Becomes l.fn.self.gathered (add_each (l.fn.first ∷ take l.number-index l.more)) l.self.gathered × KeepsFrame l.fn.self l.self
