use Rattle.std.proofs.Common.{◌≡◌, ℕ, Bool, true, false, Some, sym, ap, ◌∙◌}
use Rattle.uset_tool.specs.Device.{one_more, count_after}
use Rattle.uset_tool.specs.Memory.{Device, next_fails}
use Rattle.uset_tool.proofs.memory.MemorySourceSource.read.Goals as goal

-- the count behind a call that failed, and behind one that did not
failed_count : (fails : Bool) (here old new : ℕ) → true ≡ fails → new ≡ count_after fails here → here ≡ old → new ≡ one_more old
failed_count fails here old new is counted same = counted ∙ (ap (λ b. count_after b here) (sym is) ∙ ap one_more same)

kept_count : (fails : Bool) (here old new : ℕ) → false ≡ fails → new ≡ count_after fails here → here ≡ old → new ≡ old
kept_count fails here old new is counted same = counted ∙ (ap (λ b. count_after b here) (sym is) ∙ same)

pub invariant_of-self : goal.invariant_of-self
invariant_of-self c = c.self.invariant

pub returns-then-next_fails-clause-bytes : goal.returns-then-next_fails-clause-bytes
returns-then-next_fails-clause-bytes c = ap (λ (d : Device). Some d.bytes) c.self.view_is

pub returns-then-next_fails-clause-counted : goal.returns-then-next_fails-clause-counted
returns-then-next_fails-clause-counted c =
    failed_count _ _ _ _ (sym c.if-next_fails.true ∙ c.next_fails.ensures.fails) c.next_fails.ensures.faults (ap (λ (d : Device). d.faults) c.self.view_is)

pub returns-then-next_fails-clause-fails : goal.returns-then-next_fails-clause-fails
returns-then-next_fails-clause-fails c = (sym c.if-next_fails.true ∙ c.next_fails.ensures.fails) ∙ ap next_fails c.self.view_is

pub returns-clause-counted : goal.returns-clause-counted
returns-clause-counted c =
    kept_count _ _ _ _ (sym c.if-next_fails.false ∙ c.next_fails.ensures.fails) c.next_fails.ensures.faults (ap (λ (d : Device). d.faults) c.self.view_is)

pub returns-clause-fails : goal.returns-clause-fails
returns-clause-fails c = (sym c.if-next_fails.false ∙ c.next_fails.ensures.fails) ∙ ap next_fails c.self.view_is
