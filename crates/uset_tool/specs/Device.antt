-- What sources and sinks tell.
use Rattle.std.specs.Prelude.{◌≡◌, ℕ, ◌+◌, ◌-◌, ◌^◌, ◌<◌, ◌≤◌, ◌⊎◌, Bool, true, false, min, List, [], ◌++◌, take, drop, length, Option, Some, IfSome, Result, Ok, Err, if◌then◌else◌}
use Rattle.uset_tool.specs.declared.input.InputError.{InputError}
use Rattle.uset_tool.specs.declared.input.InputError.TheVariants.{Failed, TooLong, NoMemory}
use Rattle.uset_tool.specs.declared.sink.WriteError.{WriteError}
use Rattle.uset_tool.specs.declared.sink.WriteError.TheVariants.{Failed as WriteFailed, NoMemory as WriteRefused}

-- the last value of a count of faults
abbrev pub last_count : ℕ
last_count = 2 ^ 64 - 1

-- a count with one more, which stands still at its last value
abbrev pub one_more : ℕ → ℕ
one_more n = min (n + 1) last_count

-- the count behind what may have failed
abbrev pub count_after : Bool → ℕ → ℕ
count_after failed n = if failed then one_more n else n

-- a write failed, for another cause than want of memory
abbrev pub has_failed : {X : Type 0} → Result X WriteError → Bool
has_failed (Ok x) = false
has_failed (Err WriteFailed) = true
has_failed (Err WriteRefused) = false

-- the source failed while the input was taken
abbrev pub is_unread : {X : Type 0} → Result X InputError → Bool
is_unread (Ok x) = false
is_unread (Err Failed) = true
is_unread (Err TooLong) = false
is_unread (Err NoMemory) = false

-- the count rose, or stands at its last value
abbrev pub Rose : ℕ → ℕ → Type 0
Rose old new = (old < new) ⊎ (last_count ≤ new)

-- no fault was counted
abbrev pub NoFault : ℕ → ℕ → Type 0
NoFault old new = Rose old new → ⊥

-- the bytes that were told are those that are told now
abbrev pub Stays : Option (List ℕ) → Option (List ℕ) → Type 0
Stays old new = IfSome old (λ bytes. new ≡ Some bytes)

-- A read took its bytes off the front of what was left and put them at the front of the buffer, and took none only where
-- nothing was left; a read that failed took nothing.
abbrev pub ReadsFront : {E : Type 0} → Option (List ℕ) → Option (List ℕ) → Result ℕ E → List ℕ → Type 0
ReadsFront old new (Ok n) buf =
    IfSome old (λ bytes.
    (n ≤ length bytes) × (take n buf ≡ take n bytes) × (new ≡ Some (drop n bytes)) × (n ≡ 0 → bytes ≡ []))
ReadsFront old new (Err e) buf = Stays old new

-- a write appended the front of the piece, and a write that was refused nothing
abbrev pub WritesFront : {E : Type 0} → Option (List ℕ) → Option (List ℕ) → Result ℕ E → List ℕ → Type 0
WritesFront old new (Ok n) piece = IfSome old (λ before. new ≡ Some (before ++ take n piece))
WritesFront old new (Err e) piece = Stays old new

-- all of the text was appended
abbrev pub Appends : Option (List ℕ) → Option (List ℕ) → List ℕ → Type 0
Appends old new text = IfSome old (λ before. new ≡ Some (before ++ text))

-- a front of the text was appended, and not all of it
pub record IsProperFront (old new : List ℕ) (text : List ℕ) : Type 0 where
  pub front : List ℕ
  pub rest : List ℕ
  pub parts : text ≡ front ++ rest
  pub proper : 0 < length rest
  pub appended : new ≡ old ++ front

-- a front of the text was appended, perhaps all of it
pub record IsFront (old new : List ℕ) (text : List ℕ) : Type 0 where
  pub front : List ℕ
  pub rest : List ℕ
  pub parts : text ≡ front ++ rest
  pub appended : new ≡ old ++ front

-- what a write of a whole text appended
abbrev pub WritesText : {X E : Type 0} → Option (List ℕ) → Option (List ℕ) → Result X E → List ℕ → Type 0
WritesText old new (Ok _) text = Appends old new text
WritesText old new (Err _) text =
    IfSome old (λ before. (now : List ℕ) × (new ≡ Some now) × IsProperFront before now text)

-- the most bytes that an input may have
abbrev pub limit : ℕ
limit = 2 ^ 23

-- all of the input was taken, and it is within the limit
abbrev pub TakesAll : Option (List ℕ) → Option (List ℕ) → List ℕ → Type 0
TakesAll old new input = IfSome old (λ bytes. (bytes ≡ input) × (new ≡ Some []))

-- the source has left what stands behind a front of the input of at most so many bytes
abbrev pub TookFront : List ℕ → Option (List ℕ) → ℕ → Type 0
TookFront input left most = (n : ℕ) × (n ≤ most) × (left ≡ Some (drop n input))

-- why the input was not taken, and what was taken then
abbrev pub Stops : InputError → Option (List ℕ) → Option (List ℕ) → Type 0
Stops Failed old new = IfSome old (λ bytes. TookFront bytes new limit)
Stops TooLong old new = IfSome old (λ bytes. (limit < length bytes) × (new ≡ Some (drop (limit + 1) bytes)))
Stops NoMemory old new = IfSome old (λ bytes. TookFront bytes new (limit + 1))
