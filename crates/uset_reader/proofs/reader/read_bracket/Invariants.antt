use Rattle.std.proofs.Common.{◌≡◌, length}
use Rattle.uset_read.specs.Cursors.{source_of, left_of}
use Rattle.uset_reader.specs.Syntaxes.{language_seen}
use Rattle.uset_reader.proofs.ReaderLemmas.{OpenAt}
use Rattle.uset_reader.proofs.reader.read_bracket.Given as goal

abbrev pub invariant-loop-bracket : goal.invariant-loop-bracket
invariant-loop-bracket l =
    (source_of l.place ≡ l.fn.source)
    × OpenAt (language_seen l.fn.syntax) l.fn.source (left_of l.place) l.outer.items l.bracket
    × (l.resolver ≡ l.fn.syntax.database.now)

abbrev pub decreases-loop-bracket : goal.decreases-loop-bracket
decreases-loop-bracket l = length (left_of l.place)
