-- What is read part by part: each part reads in front of a text, and says what it read and the rest, or where it
-- stopped, at a rest, or that the text ended.
use Rattle.std.specs.Prelude.{◌≡◌, ℕ, ◌==◌, [], ◌∷◌, ◌++◌, if◌then◌else◌}
use Rattle.uset_grammar.specs.Text.{Text}
use Rattle.uset_grammar.specs.Outcome.{unexpected, Outcome, got, faulty, ended}

-- one part behind another
abbrev pub and_then : {A B : Type 0} → Outcome A → (A → Text → Outcome B) → Outcome B
and_then (got a t) f = f a t
and_then (faulty k r) f = faulty k r
and_then ended f = ended

-- this character
abbrev pub char_in : ℕ → Text → Outcome (Unit {0})
char_in due [] = ended
char_in due (c ∷ t) = if c == due then got tt t else faulty (unexpected c) (c ∷ t)

-- What was read part by part is the outcome of the text: the place of a fault is the text before the rest at which a part
-- stopped.
abbrev pub TellsOutcome : {V : Type 0} → (Outcome V → Type 0) → Text → Outcome V → Type 0
TellsOutcome Is text (got v rest) = Is (got v rest)
TellsOutcome Is text (faulty kind rest) = (before : Text) × (text ≡ before ++ rest) × Is (faulty kind before)
TellsOutcome Is text ended = Is ended
