-- Sources and sinks in memory whose calls are numbered, and which of them fail.
use Rattle.std.specs.Prelude.{◌≡◌, ℕ, Bool, nat_eq, List}
use Rattle.std.specs.List.{list_any}
use Rattle.uset_tool.specs.Device.{one_more, count_after}

-- What a device holds: the bytes that are left, or that were written; how many a call passes at most; the numbers of the calls
-- that fail; and how many calls and how many faults there were.
pub record Device : Type 0 where
  pub bytes : List ℕ
  pub piece : ℕ
  pub failing : List ℕ
  pub calls : ℕ
  pub faults : ℕ

-- the number is one of these
abbrev pub is_among : List ℕ → ℕ → Bool
is_among numbers n = list_any (λ m. nat_eq m n) numbers

-- the call that comes next fails: calls are numbered from 0
abbrev pub next_fails : Device → Bool
next_fails d = is_among d.failing d.calls

-- A call was counted, and a fault where it fails; the piece and the numbers of failing calls stay.
pub record CountsCall (old new : Device) : Type 0 where
  pub piece : new.piece ≡ old.piece
  pub failing : new.failing ≡ old.failing
  pub calls : new.calls ≡ one_more old.calls
  pub faults : new.faults ≡ count_after (next_fails old) old.faults
