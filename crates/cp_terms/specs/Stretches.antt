-- What steps make on a stretch of 16,384 code points.
use Rattle.std.specs.Prelude.{ℕ, ◌+◌, ◌*◌, Bool, List, ◌∷◌, Option, None, Some, map}
use Rattle.cp_terms.specs.declared.stretch.Stretch.{Stretch}
use Rattle.cp_terms.specs.declared.stack.Stack.{Stack}
use Rattle.cp_terms.specs.Terms.{holds_at}
use Rattle.cp_terms.specs.Blocks.{block_marks}

-- whether the set with an index has the code point that stands for a bit
abbrev pub stretch_has : Stretch → ℕ → ℕ → ℕ → Bool
stretch_has stretch i j index = holds_at (map (λ s. s.now) stretch.sets.now) (stretch.start + 64 * i + j) index

-- the marks of sets below one that may be named
abbrev pub named_above : (ℕ → Bool) → Option ℕ → List Bool → List Bool
named_above v None marks = marks
named_above v (Some index) marks = v index ∷ marks

-- which sets on the stack have it, the one on top first
abbrev pub stack_marks : Stretch → ℕ → ℕ → Stack → List Bool
stack_marks stretch i j stack = named_above (stretch_has stretch i j) stack.named (block_marks i j stack.made.items)
