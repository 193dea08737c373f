use Rattle.std.proofs.Common.{◌-◌, length}
use Rattle.cp_invlist.proofs.WindowLemmas.{IsTurned}
use Rattle.cp_invlist.proofs.window.Window.word.Given as goal

abbrev pub invariant-loop-element : goal.invariant-loop-element
invariant-loop-element l = IsTurned l.set l.place l.taken l.word

abbrev pub decreases-loop-element : goal.decreases-loop-element
decreases-loop-element l = length l.set - l.taken
