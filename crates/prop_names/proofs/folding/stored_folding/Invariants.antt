use Rattle.std.proofs.Common.{◌≡◌, ◌++◌, drop}
use Rattle.std.specs.String.{string_bytes}
use Rattle.prop_names.specs.Folding.{stored_folding}
use Rattle.prop_names.proofs.folding.stored_folding.Given as goal

abbrev pub invariant-loop-byte : goal.invariant-loop-byte
invariant-loop-byte l = string_bytes l.folded ++ stored_folding (drop l.byte-index l.name) ≡ stored_folding l.name
