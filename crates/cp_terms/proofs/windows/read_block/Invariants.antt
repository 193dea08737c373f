use Rattle.std.proofs.Common.{take}
use Rattle.cp_terms.specs.Blocks.{AreTurned}
use Rattle.cp_terms.proofs.windows.read_block.Given as goal

abbrev pub invariant-loop-element : goal.invariant-loop-element
invariant-loop-element l = AreTurned (take l.element-index l.element-items) l.place l.block
