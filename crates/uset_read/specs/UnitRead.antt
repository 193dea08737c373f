-- What a reader of a unit answers, by the outcome of the text that it is given.
use Rattle.std.specs.Prelude.{◌≡◌, ◌++◌}
use Rattle.std.specs.Str.{chars}
use Rattle.uset_grammar.specs.Text.{Text}
use Rattle.uset_grammar.specs.Outcome.{Outcome, faulty, ended}
use Rattle.uset_read.specs.declared.stop.Stop.{Stop}
use Rattle.uset_read.specs.declared.stop.Stop.TheVariants.{Fault, Ended, NoMemory}
use Rattle.uset_read.specs.Stops.{kind_seen}

-- The reader stopped as the text's outcome says: at a fault of this kind, where the text stands before the rest that
-- begins with its place; at the end of the text; or memory was refused.
abbrev pub StopsAt : {V : Type 0} → (Outcome V → Type 0) → Text → Stop → Type 0
StopsAt Is text (Fault kind rest) =
    (before : Text) × (text ≡ before ++ chars rest.now) × Is (faulty (kind_seen kind) before)
StopsAt Is text Ended = Is ended
StopsAt Is text NoMemory = Unit {0}
