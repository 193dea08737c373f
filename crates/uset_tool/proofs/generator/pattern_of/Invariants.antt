use Rattle.std.proofs.Common.{◌≡◌, ◌-◌, ◌++◌, codes}
use Rattle.std.specs.String.{string_bytes}
use Rattle.uset_tool.specs.Generated.{elements}
use Rattle.uset_tool.proofs.generator.pattern_of.Given as goal

abbrev pub invariant-loop-place : goal.invariant-loop-place
invariant-loop-place l =
    string_bytes l.text ++ elements (l.fn.number.value - l.place) l.place l.x ≡ codes "[" ++ elements l.fn.number.value 0 l.fn.number.value
