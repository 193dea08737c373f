use Rattle.std.proofs.Common.{◌≡◌, drop}
use Rattle.std.specs.Str.{bytes_eq}
use Rattle.uset_resolve.specs.Keys.{folded}
use Rattle.uset_resolve.proofs.key.is_folding.Given as goal

abbrev pub invariant-loop-byte : goal.invariant-loop-byte
invariant-loop-byte l = bytes_eq l.rest (folded (drop l.byte-index l.key)) ≡ bytes_eq l.name (folded l.key)
