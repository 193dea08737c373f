use Rattle.std.proofs.Common.{◌≡◌, ◌++◌}
use Rattle.std.specs.Prelude.{All}
use Rattle.uset_variables.specs.Variables.{numbered_strings}
use Rattle.uset_reader.specs.Evaluation.{AreFound, FoundFits}
use Rattle.uset_reader.specs.Named.{sets_of}
use Rattle.uset_reader.specs.Syntaxes.{language_seen}
use Rattle.uset_reader.proofs.evaluation.find_all.Given as goal

abbrev pub invariant-loop-set : goal.invariant-loop-set
invariant-loop-set l =
    (l.yielded ++ l.set-iterator.rest.items ≡ l.fn.sets.items) × AreFound (sets_of (language_seen l.fn.syntax)) l.yielded l.found.items × All (FoundFits (numbered_strings l.fn.syntax.variables.now)) l.found.items × (l.resolver ≡ l.fn.syntax.database.now)
