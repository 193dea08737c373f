use Rattle.std.proofs.Common.{take}
use Rattle.cp_strset_terms.specs.Candidates.{CoversTerm}
use Rattle.cp_strset_terms.proofs.candidates.Sources.new.Given as goal

abbrev pub invariant-loop-step : goal.invariant-loop-step
invariant-loop-step l = CoversTerm l.leaves (take l.step-index l.steps) l.sources
