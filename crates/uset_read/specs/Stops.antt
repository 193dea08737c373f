-- The answers of the code as outcomes, whose places are the rests of the text there.
use Rattle.std.specs.Prelude.{◌≡◌, ℕ, List, length, Result, MatchResult}
use Rattle.std.specs.Borrow.{Bor}
use Rattle.std.specs.Str.{chars}
use Rattle.uset_grammar.specs.Outcome.{Outcome, got, faulty, ended, Kind, unexpected, unimplemented, invalid_escape, unknown_property, internal}
use Rattle.uset_read.specs.declared.stop.Kind.{Kind as CodeKind}
use Rattle.uset_read.specs.declared.stop.Kind.TheVariants.{UnexpectedChar, Unimplemented, InvalidEscape, UnknownProperty, Internal}
use Rattle.uset_read.specs.declared.stop.Stop.{Stop}
use Rattle.uset_read.specs.declared.stop.Stop.TheVariants.{Fault, Ended, NoMemory}

abbrev pub kind_seen : CodeKind → Kind
kind_seen (UnexpectedChar c) = unexpected c
kind_seen Unimplemented = unimplemented
kind_seen InvalidEscape = invalid_escape
kind_seen UnknownProperty = unknown_property
kind_seen Internal = internal

-- the outcome is that it stops so, or memory was refused
abbrev pub Stops : {V : Type 0} → Outcome V → Stop → Type 0
Stops o (Fault kind rest) = o ≡ faulty (kind_seen kind) (chars rest.now)
Stops o Ended = o ≡ ended
Stops o NoMemory = Unit {0}

-- what was read, and the text behind it
abbrev pub with_rest : {A : Type 0} → A × Bor (List ℕ) → Outcome A
with_rest p = got p.0 (chars p.1.now)

-- The number of bytes of the rest at whose front the fault is; no more of the text is left where it ends.
abbrev pub left_at : Stop → ℕ
left_at (Fault kind rest) = length rest.now
left_at Ended = 0
left_at NoMemory = 0

-- The answer tells the outcome: what was read is it, or it stops so.
abbrev pub Tells : {A V : Type 0} → Outcome V → (A → Outcome V) → Result A Stop → Type 0
Tells o seen result = MatchResult result (λ a. o ≡ seen a) (Stops o)
