-- What is told of an outcome is told of a reader that stops as it says.
use Rattle.std.proofs.Common.{subst}
use Rattle.uset_grammar.specs.Text.{Text}
use Rattle.uset_grammar.specs.Outcome.{Outcome}
use Rattle.uset_grammar.specs.Parts.{TellsOutcome}
use Rattle.uset_read.specs.declared.stop.Stop.{Stop}
use Rattle.uset_read.specs.declared.stop.Stop.TheVariants.{Fault, Ended, NoMemory}
use Rattle.uset_read.specs.Stops.{Stops}
use Rattle.uset_read.specs.UnitRead.{StopsAt}

pub told_stop : {V : Type 0} (Is : Outcome V → Type 0) (q : Text) (o : Outcome V) (stop : Stop) → TellsOutcome Is q o → Stops o stop → StopsAt Is q stop
told_stop Is q o (Fault kind rest) told h = subst (TellsOutcome Is q) h told
told_stop Is q o Ended told h = subst (TellsOutcome Is q) h told
told_stop Is q o NoMemory told h = tt
